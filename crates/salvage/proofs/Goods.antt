-- A line that is good by itself is read at every place of a listing, and a line that is read there is good by itself.
use mathlib.Core.Path.{◌≡◌, refl, sym, ap, ◌∙◌, subst}
use mathlib.Core.List.{List, [], ◌∷◌, ◌++◌, append_assoc}
use mathlib.Core.Bool.{Bool, true, false, ◌&&◌}
use Prim.Native.Nat.{ℕ, suc, ◌+◌, ◌*◌, ◌%◌, ◌≤◌}
use native.Mathlib.Omega.{arith}
use lib.Dec.{leb, ltb, eqb}
use lib.ListN.{length, take, length-take}
use borrow.Author.Tests.{leb-true, le-leb}
use Rattle.laws.specs.Lists.{every, total, same}
use Rattle.laws.proofs.Tests.{and_true, and_both}
use Rattle.laws.proofs.Lists.{same_true}
use Rattle.rules.specs.declared.Refusal.TheVariants.{Broken, Limit}
use Rattle.rules.specs.Answers.{at_place, Judged, ok, no, require, ◌>>=◌}
use Rattle.rules.specs.Programs.{Stmt, comment, Program}
use Rattle.rules.specs.Listing.{Line, lines_of, is_digit, unhex, ListingForm, old_form, new_form, is_mark, widest, most_characters, within_limits, well_formed, take_byte, read_frame, read_frame_in, read_lines}
use Rattle.rules.specs.Output.{frame_in, frame_of, line_of, lines_in}
use Rattle.rules.proofs.Laws.{no_ok, require_ok}
use Rattle.promises.proofs.RoundTrip.{AllBytes}
use Rattle.promises.proofs.Listings.{line_room, zero_fits}
use Rattle.promises.proofs.TextBack.{Writable, text_back}
use Rattle.digits.specs.Digits.{hex_of}
use Rattle.lines.specs.Alone.{by_itself, stands, standing}
use Rattle.lines.proofs.Comments.{Good, good_line}
use Rattle.salvage.specs.Salvage.{keeps_limits}
use Rattle.salvage.proofs.Feedless.{digits_line, hex_line, take_bytes}
use Rattle.salvage.proofs.Moved.{moved}

-- how document 01 judges the line at place i, `sum` characters before it
abbrev pub judged : ListingForm → (i sum : ℕ) → Line → Judged Stmt
judged w i sum l =
    require (within_limits w i sum l.chars) (Limit (at_place i))
    (require (well_formed l) (Broken (at_place i)) (read_frame_in w i (unhex l.chars)))

-- ---- read there, and good
pub line_good : (w : ListingForm) (i sum : ℕ) (l : Line) (s : Stmt) → judged w i sum l ≡ ok s
    → Good w l × (keeps_limits w i sum (length l.chars) ≡ true)
unfolding within_limits well_formed
line_good w i sum l s e =
    let n : ℕ = length l.chars in
    let a = require_ok (within_limits w i sum l.chars) (Limit (at_place i)) _ s e in
    let b = require_ok (well_formed l) (Broken (at_place i)) (read_frame_in w i (unhex l.chars)) s a.1 in
    let c = and_true (ltb i 1024) (leb n (widest w) && leb (sum + n) (most_characters w)) a.0 in
    let d = and_true (leb n (widest w)) (leb (sum + n) (most_characters w)) c.1 in
    let f = and_true (every (λ c. is_digit c) l.chars) (eqb (n % 2) 0 && l.ended) b.0 in
    let g = and_true (eqb (n % 2) 0) l.ended f.1 in
    let m = moved w i 0 (unhex l.chars) s b.1 in (
      record { short = leb-true n (widest w) d.0; formed = b.0; ended = g.1; stmt = m.0; frame = m.1 },
      and_both (ltb i 1024) (leb (sum + n) (most_characters w)) c.0 d.1,
    )

-- ---- good, and read there
module _ (w : ListingForm) (i sum : ℕ) (l : Line) (g : Good w l) (k : keeps_limits w i sum (length l.chars) ≡ true) where
  pub in_front_lem : (ls : List Line) (p : Program) → read_lines w (suc i) (sum + length l.chars) ls ≡ ok p
      → (s : Stmt) × (read_lines w i sum (l ∷ ls) ≡ ok (s ∷ p))
  unfolding read_lines within_limits require ◌>>=◌
  in_front_lem ls p e =
      let a = and_true (ltb i 1024) (leb (sum + length l.chars) (most_characters w)) k in
      let m = moved w 0 i (unhex l.chars) g.stmt g.frame in
      (m.0, rw (a.0, le-leb (length l.chars) (widest w) g.short, a.1, g.formed, m.1, ◌>>=◌, e, ◌>>=◌))

widest_fits : (w : ListingForm) (n : ℕ) → n ≤ widest w → leb (0 + n) (most_characters w) ≡ true
widest_fits old_form n h = le-leb (0 + n) (most_characters old_form) (omega arith)
widest_fits new_form n h = le-leb (0 + n) (most_characters new_form) (omega arith)

nothing_read : (w : ListingForm) (i sum : ℕ) → read_lines w i sum [] ≡ ok []
unfolding read_lines
nothing_read w i sum = refl

pub good_alone : (w : ListingForm) (l : Line) → Good w l → (p : Program) × (by_itself w l ≡ ok p)
unfolding by_itself
good_alone w l g =
    let n : ℕ = length l.chars in
    let s = in_front_lem w 0 0 l g (widest_fits w n g.short) [] [] (nothing_read w 1 (0 + n)) in
    (s.0 ∷ [], s.1)

-- ---- what comes out for a line is a good line

-- the comment, by what is written for it
comment_line : (w : ListingForm) (x : List ℕ)
    → lines_of (lines_in w [] (comment x ∷ [])) ≡ record { chars = hex_of (frame_in w 0 (comment x)); ended = true } ∷ []
unfolding lines_in line_of lines_of
comment_line w x =
    let f : List ℕ = frame_in w 0 (comment x) in
    ap lines_of (append_assoc (hex_of f) (10 ∷ []) []) ∙ hex_line f []

comment_room : (w : ListingForm) (x : List ℕ) → length x ≤ 119 → 0 + 2 * total (line_room w) (comment x ∷ []) ≤ most_characters w
unfolding total frame_of
comment_room old_form x h = omega arith
comment_room new_form x h = omega arith

comment_writable : (x : List ℕ) → AllBytes x → length x ≤ 119 → Writable (comment x)
unfolding every frame_of
comment_writable x h n = record { sound = h; plain = refl; live = refl; short = omega arith }

comment_good : (w : ListingForm) (x : List ℕ) → AllBytes x → length x ≤ 119
    → Good w (record { chars = hex_of (frame_in w 0 (comment x)); ended = true })
unfolding by_itself
comment_good w x h n =
    good_line w _ _ (ap (read_lines w 0 0) (sym (comment_line w x))
    ∙ text_back w 0 0 [] (comment x ∷ []) (comment_writable x h n, tt) (λ j. zero_fits w) (omega arith) (comment_room w x n))

pub standing_good : (w : ListingForm) (l : Line) → AllBytes l.chars → Good w (record { chars = standing w l; ended = true })
standing_good w l h = on (by_itself w l) refl
  where
    on : (j : Judged Program) → by_itself w l ≡ j → Good w (record { chars = stands w j l; ended = true })
    on (ok p) e =
        let g = good_line w l p e in
        record {
          short = g.short;
          formed = subst (λ (b : Bool). well_formed (record { chars = l.chars; ended = b }) ≡ true) g.ended g.formed;
          ended = refl;
          stmt = g.stmt;
          frame = g.frame;
        }
    on (no r) e = comment_good w (take 119 l.chars) (take_bytes 119 l.chars h) (omega (arith, length-take 119 l.chars))

-- its characters and a line feed are one line
pub good_text : (w : ListingForm) (cs t : List ℕ) → Good w (record { chars = cs; ended = true })
    → lines_of (cs ++ (10 ∷ t)) ≡ record { chars = cs; ended = true } ∷ lines_of t
unfolding well_formed
good_text w cs t g = digits_line cs t (and_true (every (λ c. is_digit c) cs) (eqb (length cs % 2) 0 && true) g.formed).0

-- and no mark
mark_bad : (s : Stmt) (b : Bool) → read_frame 0 (unhex (55 ∷ 68 ∷ 48 ∷ 50 ∷ [])) ≡ ok s → b ≡ false
unfolding unhex read_frame take_byte ◌>>=◌
mark_bad s b e = no_ok (Broken (at_place 0)) s e

pub good_unmarked : (cs : List ℕ) → Good old_form (
    record {
      chars = cs;
      ended = true;
    }) → is_mark (record { chars = cs; ended = true }) ≡ false
good_unmarked cs g = on (same cs (55 ∷ 68 ∷ 48 ∷ 50 ∷ [])) refl
  where
    on : (b : Bool) → same cs (55 ∷ 68 ∷ 48 ∷ 50 ∷ []) ≡ b → same cs (55 ∷ 68 ∷ 48 ∷ 50 ∷ []) && true ≡ false
    on true e = mark_bad g.stmt _ (ap (λ (s : List ℕ). read_frame 0 (unhex s)) (sym (same_true cs (55 ∷ 68 ∷ 48 ∷ 50 ∷ []) e)) ∙ g.frame)
    on false e = rw e
