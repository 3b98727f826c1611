-- What comes out for a line: how long it is, and its characters.
use mathlib.Core.Path.{◌≡◌, refl, sym, ap, ◌∙◌}
use mathlib.Core.Bool.{true, ◌&&◌, cond}
use mathlib.Core.List.{List, [], ◌∷◌, ◌++◌, append_assoc}
use Prim.Native.Nat.{ℕ, ◌+◌, ◌*◌, ◌-◌, ◌/◌, ◌%◌, ◌≤◌, min, ◌<◌}
use native.Mathlib.Omega.{arith}
use lib.Dec.{leb, ltb, eqb}
use lib.ListN.{length, get_or, take, drop, set, replicate, length-take, length-append, take-append-drop}
use lib.Seq.{take_at}
use borrow.Author.Tests.{leb-true, eq-eqb, ne_eqb}
use Rattle.laws.specs.Lists.{every}
use Rattle.laws.proofs.Tests.{and_true}
use Rattle.rules.specs.declared.Refusal.TheVariants.{Broken, Limit}
use Rattle.rules.specs.Answers.{at_place, Judged, ok, no, require}
use Rattle.rules.specs.Expressions.{pair}
use Rattle.rules.specs.Programs.{Program, Stmt, comment}
use Rattle.rules.specs.Listing.{Line, is_digit, unhex, ListingForm, old_form, new_form, line_bytes, widest, most_characters, within_limits, well_formed, read_frame_in, read_lines}
use Rattle.rules.specs.Output.{frame_in, frame_of, line_of}
use Rattle.rules.proofs.Laws.{then_ok, require_ok}
use Rattle.listing.specs.Lines.{line_length, first_line}
use Rattle.digits.specs.Digits.{hex_of, laid}
use Rattle.digits.proofs.Rooms.{length_hex, laid_more, laid_front}
use Rattle.lines.specs.Alone.{by_itself, stands, standing}
use Rattle.lines.specs.Turns.{Numbered, OneLine}
use Rattle.lines.proofs.Feeds.{one_text, ended_length, unended_length, last_feed}

-- ---- a good line ends with a line feed, and is not too long
pub record Good (w : ListingForm) (l : Line) : Type 0 where
  pub short : length l.chars ≤ widest w
  pub formed : well_formed l ≡ true
  pub ended : l.ended ≡ true
  pub stmt : Stmt
  pub frame : read_frame_in w 0 (unhex l.chars) ≡ ok stmt

pub good_line : (w : ListingForm) (l : Line) (p : Program) → by_itself w l ≡ ok p → Good w l
unfolding by_itself read_lines within_limits well_formed
good_line w l p e =
    let n : ℕ = length l.chars in
    let a = then_ok (require (within_limits w 0 0 l.chars) (Limit (at_place 0))
    (require (well_formed l) (Broken (at_place 0)) (read_frame_in w 0 (unhex l.chars)))) _ p e in
    let b = require_ok (within_limits w 0 0 l.chars) (Limit (at_place 0)) _ a.0 a.1 in
    let c = require_ok (well_formed l) (Broken (at_place 0)) (read_frame_in w 0 (unhex l.chars)) a.0 b.1 in
    let d = and_true (leb n (widest w)) (leb (0 + n) (most_characters w)) (and_true (ltb 0 1024) _ b.0).1 in
    let f = and_true (every (λ c. is_digit c) l.chars) (eqb (n % 2) 0 && l.ended) c.0 in
    let g = and_true (eqb (n % 2) 0) l.ended f.1 in
    record { short = leb-true n (widest w) d.0; formed = c.0; ended = g.1; stmt = a.0; frame = c.1 }

-- ---- how many characters of a line its comment holds
module _ (x : List ℕ) (o : OneLine x) where
  abbrev chars : List ℕ
  chars = (first_line x).chars

  abbrev Keeps : ℕ → Type 0
  Keeps r = (r ≡ length (take 119 chars)) × (r ≤ length x)

  pub kept_ended : get_or x (length x - 1) 0 ≡ 10 → Keeps (min (length x - 1) 119)
  kept_ended e =
      let n = ended_length x o (sym (last_feed x o) ∙ eq-eqb _ 10 e) in
      let m = length-take 119 chars in
      (omega arith, omega arith)

  pub kept_unended : (get_or x (length x - 1) 0 ≡ 10 → ⊥) → Keeps (min (length x) 119)
  kept_unended e =
      let n = unended_length x o (sym (last_feed x o) ∙ ne_eqb _ 10 e) in
      let m = length-take 119 chars in
      (omega arith, omega arith)

  pub kept_of_none : length x ≡ 0 → Keeps (min (length x) 119)
  kept_of_none h =
      let n = length-take (line_length x) x in
      let m = length-take 119 chars in
      (omega arith, omega arith)

  -- and which they are
  pub kept_chars : (k : ℕ) → k ≡ length (take 119 chars) → take k x ≡ take 119 chars
  kept_chars k e =
      let f : List ℕ = cond (first_line x).ended (10 ∷ []) [] in
      let whole : x ≡ take 119 chars ++ (drop 119 chars ++ f) =
      one_text x o ∙ ap (λ (s : List ℕ). s ++ f) (sym (take-append-drop 119 chars)) ∙ append_assoc (take 119 chars) (drop 119 chars) f in
      ap (take k) whole ∙ take_at (take 119 chars) (drop 119 chars ++ f) k (sym e)

-- ---- the characters of the comment
pub comment_length : (w : ListingForm) (x : List ℕ) → length (frame_in w 0 (comment x)) ≡ 1 + line_bytes w + length x
unfolding frame_of
comment_length old_form x = omega arith
comment_length new_form x = omega arith

widest_most : (w : ListingForm) → widest w ≤ 248
widest_most old_form = omega arith
widest_most new_form = omega arith

-- two bytes of a place
pub pair_is : (n a b : ℕ) → n < 65536 → a ≡ n / 256 % 256 → b ≡ n % 256 → a ∷ b ∷ [] ≡ pair n
pair_is n a b h e f = let z : a ≡ n / 256 = omega arith in rw (z, f)

-- by the number that the code has
module _ (w : ListingForm) (l : Line) (n : ℕ) (h : Numbered (by_itself w l) n) where
  pub zero_good : n ≡ 0 → Good w l × (standing w l ≡ l.chars)
  zero_good z = on (by_itself w l) refl h
    where
      on : (j : Judged Program) → by_itself w l ≡ j → Numbered j n → Good w l × (stands w j l ≡ l.chars)
      on (ok p) e k = (good_line w l p e, refl)
      on (no r) e k = absurd (omega (arith, k.1))

  pub good_length : n ≡ 0 → (length (standing w l) ≡ length l.chars) × (length l.chars ≤ 248) × (l.ended ≡ true)
  good_length z = let g = zero_good z in (ap length g.1, omega (arith, g.0.short, widest_most w), g.0.ended)

  pub some_bad : (n ≡ 0 → ⊥) → standing w l ≡ hex_of (frame_in w 0 (comment (take 119 l.chars)))
  some_bad z = on (by_itself w l) h
    where
      on : (j : Judged Program) → Numbered j n → stands w j l ≡ hex_of (frame_in w 0 (comment (take 119 l.chars)))
      on (ok p) k = absurd (z k)
      on (no r) k = refl

  pub bad_length : (n ≡ 0 → ⊥) → length (standing w l) ≡ 2 * (1 + line_bytes w + length (take 119 l.chars))
  bad_length z =
      ap length (some_bad z) ∙ length_hex (frame_in w 0 (comment (take 119 l.chars)))
      ∙ ap (λ (m : ℕ). 2 * m) (comment_length w (take 119 l.chars))

  pub bad_line : (n ≡ 0 → ⊥) → line_of (frame_in w 0 (comment (take 119 l.chars))) ≡ standing w l ++ (10 ∷ [])
  unfolding line_of
  bad_line z = ap (λ (s : List ℕ). s ++ (10 ∷ [])) (sym (some_bad z))

-- ---- the frame of the comment, in a room of its own: 04, the bytes of line 0, and the characters
abbrev pub frame_room : List ℕ
frame_room = set (replicate 124 0) 0 4

frame_front : (w : ListingForm) (x : List ℕ) → take (1 + line_bytes w) frame_room ++ x ≡ frame_in w 0 (comment x)
unfolding frame_of
frame_front old_form x = refl
frame_front new_form x = refl

front_size : (w : ListingForm) → length (take (1 + line_bytes w) frame_room) ≡ 1 + line_bytes w
front_size old_form = refl
front_size new_form = refl

pub frame_laid : (w : ListingForm) (b : ℕ) (x : List ℕ) → b ≡ line_bytes w
    → take (1 + b + length x) (laid frame_room (1 + b) x) ≡ frame_in w 0 (comment x)
unfolding laid
frame_laid w b x e =
    let d : List ℕ = frame_room in
    let front : List ℕ = take (1 + line_bytes w) d in
    let size : length (front ++ x) ≡ 1 + line_bytes w + length x = omega (arith, length-append front x, front_size w) in
    rw (e, ← append_assoc front x (drop (1 + line_bytes w + length x) d))
    (take_at (front ++ x) (drop (1 + line_bytes w + length x) d) (1 + line_bytes w + length x) size ∙ frame_front w x)

-- ---- a line behind a mark, in a room of its own
pub page_laid : (d x : List ℕ) → 5 + length x ≤ length d
    → take (5 + length x) (laid (laid d 0 (55 ∷ 68 ∷ 48 ∷ 50 ∷ 10 ∷ [])) 5 x) ≡ 55 ∷ 68 ∷ 48 ∷ 50 ∷ 10 ∷ x
page_laid d x h =
    let m : List ℕ = 55 ∷ 68 ∷ 48 ∷ 50 ∷ 10 ∷ [] in
    ap (take (5 + length x)) (laid_more d m x 0 5 refl h ∙ laid_front d (m ++ x))
    ∙ take_at (m ++ x) (drop (length (m ++ x)) d) (5 + length x) (length-append m x)
