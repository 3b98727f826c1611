-- What a listing's statements are like once it was read: each can be written, and each has its own place. A listing of the old form is
-- their text.
use mathlib.Core.Path.{◌≡◌, refl, sym, ap, ap₂, ◌∙◌, subst}
use mathlib.Core.List.{List, [], ◌∷◌, ◌++◌, map}
use mathlib.Core.Bool.{Bool, true, false, cond}
use Prim.Native.Nat.{ℕ, suc, ◌+◌, ◌≤◌}
use native.Mathlib.Omega.{arith}
use lib.Dec.{leb, eqb}
use lib.ListN.{length, drop}
use borrow.Author.Tests.{leb-true, eqb-true}
use Rattle.laws.specs.Lists.{every, each}
use Rattle.laws.proofs.Tests.{clash, and_true}
use Rattle.rules.specs.declared.Refusal.TheVariants.{Broken, Limit}
use Rattle.rules.specs.Answers.{at_place, ok, require, ◌>>=◌}
use Rattle.rules.specs.Programs.{Placeℕ, Stmt, gone, instr, label, variable, comment, org, bytes, words, pad, Program, at, is_gone}
use Rattle.rules.specs.Listing.{Line, ListingForm, old_form, new_form, line_bytes, lines_of, form_in, statement_lines, is_mark, unhex}
use Rattle.rules.specs.Listing.{take_byte, read_frame, read_frame_in, within_limits, well_formed, read_lines, read_listing, beside_of}
use Rattle.rules.specs.Output.{frame_of, line_of, lines_in, lines_from, text_of}
use Rattle.rules.proofs.Laws.{no_ok, then_ok, require_ok, by_instr, other}
use Rattle.promises.specs.Demand2.{own, own_from}
use Rattle.promises.specs.Room.{frame_bytes}
use Rattle.promises.proofs.Says.{says_ok}
use Rattle.promises.proofs.Frames.{is_plain, made_at, OfReading, FramedIn, frame_read_in}
use Rattle.promises.proofs.Listings.{read_made}
use Rattle.promises.proofs.Compacts.{plain_stmt}
use Rattle.promises.proofs.TextBack.{AllWritable}
use Rattle.promises.proofs.Sounds.{SoundStmt}
use Rattle.pairing.specs.Pairings.{frames_of}
use Rattle.pairing.proofs.Accepted.{AllFine, listing_read}
use Rattle.pairing.proofs.DigitsBack.{digits_back}
use Rattle.stems.proofs.Frames.{frames_with, listing_frames}
use Rattle.lines.proofs.Feeds.{with_feed, joined_back}
use Rattle.intake.specs.Intake.{listing_of}

-- ---- a statement that was read is not a dropped one: its frame has a byte

live : (s : Stmt) → 1 ≤ frame_bytes s → is_gone s ≡ false
unfolding frame_of
live gone h = absurd (omega arith)
live (instr f xs c) h = refl
live (label n) h = refl
live (variable n e) h = refl
live (comment x) h = refl
live (org l) h = refl
live (bytes es) h = refl
live (words es) h = refl
live (pad add m) h = refl

some_byte : (w : ListingForm) (i : Placeℕ) (s : List ℕ) (x : Stmt) → read_frame_in w i s ≡ ok x → suc (line_bytes w) ≤ length s
unfolding read_frame take_byte ◌>>=◌
some_byte old_form i [] x e = no_ok (Broken (at_place i)) x e
some_byte old_form i (k ∷ s) x e = omega arith
some_byte new_form i [] x e = no_ok (Broken (at_place i)) x e
some_byte new_form i (k ∷ s) x e =
    omega (arith, leb-true 4 (length s) (require_ok (leb 4 (length s)) (Broken (at_place i)) (read_frame i (k ∷ drop 4 s)) x e).0)

frame_live : (w : ListingForm) (i : Placeℕ) (s : List ℕ) (x : Stmt) → read_frame_in w i s ≡ ok x → is_gone x ≡ false
frame_live w i s x e =
    let f = says_ok (FramedIn w i s) (OfReading i) (read_frame_in w i s) x (frame_read_in w i s) e in
    live x (omega (arith, f.as_long, some_byte w i s x e))

-- ---- line by line

record First (w : ListingForm) (i sum : ℕ) (l : Line) (ls : List Line) (p : Program) : Type 0 where
  s : Stmt
  q : Program
  is : p ≡ s ∷ q
  formed : well_formed l ≡ true
  frame : read_frame_in w i (unhex l.chars) ≡ ok s
  rest : read_lines w (suc i) (sum + length l.chars) ls ≡ ok q

first : (w : ListingForm) (i sum : ℕ) (l : Line) (ls : List Line) (p : Program) → read_lines w i sum (l ∷ ls) ≡ ok p → First w i sum l ls p
unfolding read_lines
first w i sum l ls p e =
    let x = then_ok (require (within_limits w i sum l.chars) (Limit (at_place i))
    (require (well_formed l) (Broken (at_place i)) (read_frame_in w i (unhex l.chars)))) _ p e in
    let a = require_ok (within_limits w i sum l.chars) (Limit (at_place i)) _ x.0 x.1 in
    let b = require_ok (well_formed l) (Broken (at_place i)) _ x.0 a.1 in
    let y = then_ok (read_lines w (suc i) (sum + length l.chars) ls) _ p x.2 in
    let z : p ≡ x.0 ∷ y.0 = cc y.2 in
    record { s = x.0; q = y.0; is = z; formed = b.0; frame = b.1; rest = y.1 }

abbrev AllLive : Program → Type 0
AllLive [] = Unit
AllLive (s ∷ p) = (is_gone s ≡ false) × AllLive p

lines_live : (w : ListingForm) (i sum : ℕ) (ls : List Line) (p : Program) → read_lines w i sum ls ≡ ok p → AllLive p
lines_live w i sum [] p e = let z : p ≡ [] = unfold read_lines in cc e in rw z tt
lines_live w i sum (l ∷ ls) p e =
    let f = first w i sum l ls p e in
    let below = lines_live w (suc i) (sum + length l.chars) ls f.q f.rest in
    subst AllLive (sym f.is) (frame_live w i (unhex l.chars) f.s f.frame, below)

-- ---- each can be written, and has its own place

plain : (i : Placeℕ) (s : Stmt) → made_at i s ≡ true → plain_stmt s ≡ true
unfolding every
plain i = by_instr (λ s. made_at i s ≡ true → plain_stmt s ≡ true) (λ f xs c h. (and_true (eqb c i) (every is_plain xs) h).1)
    (λ s n h. ap (every is_plain) (other [] (λ x. x.args) s n))

owned : (i : Placeℕ) (s : Stmt) → made_at i s ≡ true → own i s ≡ s
owned i = by_instr (λ s. made_at i s ≡ true → own i s ≡ s)
    (λ f xs c h. ap (λ (j : Placeℕ). instr f xs j) (sym (eqb-true c i (and_true (eqb c i) (every is_plain xs) h).0)))
    (λ s n h. other s (λ x. instr x.form x.args i) s n)

own_all : (i : Placeℕ) (p : Program) → ((j : Placeℕ) → made_at (i + j) (at p j) ≡ true) → own_from i p ≡ p
unfolding own_from
own_all i [] h = refl
own_all i (s ∷ p) h =
    let z : i + 0 ≡ i = omega arith in
    ap₂ (λ (x : Stmt) (q : Program). x ∷ q) (owned i s (subst (λ (k : ℕ). made_at k s ≡ true) z (h 0))) (own_all (suc i) p below)
  where
    below : (j : Placeℕ) → made_at (suc i + j) (at p j) ≡ true
    below j = let z : i + suc j ≡ suc i + j = omega arith in subst (λ (k : ℕ). made_at k (at p j) ≡ true) z (h (suc j))

all_writable : (p : Program) → AllLive p
    → ((j : Placeℕ) → (plain_stmt (at p j) ≡ true) × SoundStmt (at p j) × (frame_bytes (at p j) ≤ 120)) → AllWritable p
all_writable [] l h = tt
all_writable (s ∷ p) l h =
    (record { sound = (h 0).1; plain = (h 0).0; live = l.0; short = (h 0).2 }, all_writable p l.1 (λ j. h (suc j)))

pub record Made (p : Program) : Type 0 where
  pub writable : AllWritable p
  pub places : own_from 0 p ≡ p

pub made : (listing : List ℕ) (p : Program) → read_listing listing ≡ ok p → Made p
unfolding read_listing
made listing p e =
    let m = read_made listing p e in
    let l = lines_live (form_in (lines_of listing)) 0 0 (statement_lines (lines_of listing)) p e in
    record {
      writable = all_writable p l (λ j. (plain j (at p j) (m.made j), m.sound j, m.short j));
      places = own_all 0 p (λ j. let z : j ≡ 0 + j = omega arith in subst (λ (k : ℕ). made_at k (at p j) ≡ true) z (m.made j));
    }

-- ---- a listing of the old form is the text of its statements

frames_text : (ns : List ℕ) (p : Program) → lines_in old_form ns p ≡ each (λ s. line_of s) (frames_with old_form ns p)
unfolding lines_in frames_with each
frames_text ns [] = refl
frames_text ns (s ∷ p) = ap (λ (t : List ℕ). line_of (frame_of s) ++ t) (frames_text (drop 1 ns) p)

lines_text : (ls : List Line) → AllFine ls → each (λ s. line_of s) (map (λ l. unhex l.chars) ls) ≡ each with_feed ls
unfolding each line_of
lines_text [] h = refl
lines_text (l ∷ ls) h =
    ap₂ (λ (a : List ℕ) (b : List ℕ). a ++ b)
    (ap (λ (t : List ℕ). t ++ (10 ∷ [])) (digits_back l.chars h.0.written.digits h.0.written.even)
    ∙ sym (ap (λ (b : Bool). l.chars ++ cond b (10 ∷ []) []) h.0.ended))
    (lines_text ls h.1)

unmarked : (ls : List Line) → form_in ls ≡ old_form → statement_lines ls ≡ ls
unmarked [] e = refl
unmarked (l ∷ ls) e = on (is_mark l) e
  where
    size : ListingForm → ℕ
    size old_form = 1
    size new_form = 0

    on : (b : Bool) → cond b new_form old_form ≡ old_form → cond b ls (l ∷ ls) ≡ l ∷ ls
    on true e = clash (ap size e)
    on false e = refl

-- source lines are no part of it
old_same : (ns ms : List ℕ) (p : Program) → lines_in old_form ns p ≡ lines_in old_form ms p
unfolding lines_in
old_same ns ms [] = refl
old_same ns ms (s ∷ p) = ap (λ (t : List ℕ). line_of (frame_of s) ++ t) (old_same (drop 1 ns) (drop 1 ms) p)

pub old_listing : (listing : List ℕ) (p : Program) → read_listing listing ≡ ok p → form_in (lines_of listing) ≡ old_form → listing_of p ≡ listing
unfolding text_of frames_of
old_listing listing p e o =
    let ls : List Line = statement_lines (lines_of listing) in
    let ns : List ℕ = (beside_of listing).lines in
    let w : (beside_of listing).form ≡ old_form = unfold beside_of in o in
    let f : map (λ l. unhex l.chars) ls ≡ frames_with old_form ns p =
    listing_frames listing p e ∙ ap (λ (w : ListingForm). frames_with w ns p) w in
    old_same (lines_from [] []) ns p
    ∙ frames_text ns p
    ∙ ap (λ fs. each (λ s. line_of s) fs) (sym f)
    ∙ lines_text ls (listing_read listing p e).fine
    ∙ ap (λ ls. each with_feed ls) (unmarked (lines_of listing) o)
    ∙ joined_back listing
