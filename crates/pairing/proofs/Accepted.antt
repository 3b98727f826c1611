-- What is known of the lines of a listing that was read: as many as statements, each of digit pairs, ended and short.
use mathlib.Core.Path.{◌≡◌, refl, ap, ◌∙◌}
use mathlib.Core.List.{List, [], ◌∷◌, map}
use mathlib.Core.Bool.{Bool, true, false}
use Prim.Native.Nat.{ℕ, zero, suc, ◌+◌, ◌≤◌, ◌<◌, ◌%◌}
use native.Mathlib.Omega.{arith}
use lib.Dec.{leb, ltb, eqb}
use lib.ListN.{length, get_or}
use borrow.Author.Tests.{leb-true, ltb-true, eqb-true}
use Rattle.std.specs.Prelude.{Err, Ok, Result}
use Rattle.laws.specs.Lists.{every}
use Rattle.laws.proofs.Tests.{and_true, clash}
use Rattle.rules.specs.declared.Refusal.{Refusal}
use Rattle.rules.specs.declared.Refusal.TheVariants.{Broken, Limit}
use Rattle.rules.specs.Answers.{at_place, Judged, ok, no, ◌>>=◌, require, is_ok}
use Rattle.rules.specs.Programs.{Program}
use Rattle.rules.specs.Listing.{Line, lines_of, statement_lines, form_in, is_digit, unhex, ListingForm, old_form}
use Rattle.rules.specs.Listing.{new_form, widest, within_limits, well_formed, read_frame_in, read_lines, read_listing}
use Rattle.listing.specs.Tables.{ListedAs}
use Rattle.pairing.specs.Lines.{chars_of, line_in, Written, CountedAs}

-- an answer that is not refused
require_ok : {A : Type 0} (t : Bool) (r : Refusal) (y : Judged A) (a : A) → require t r y ≡ ok a → (t ≡ true) × (y ≡ ok a)
unfolding require
require_ok true r y a e = (refl, e)
require_ok false r y a e = clash (cc)

bind_ok : {A B : Type 0} (x : Judged A) (f : A → Judged B) (b : B) → x >>= f ≡ ok b → (a : A) × (x ≡ ok a) × (f a ≡ ok b)
unfolding ◌>>=◌
bind_ok (ok a) f b e = (a, refl, e)
bind_ok (no r) f b e = clash (cc)

pub record Fine (l : Line) : Type 0 where
  pub written : Written l.chars
  pub ended : l.ended ≡ true

abbrev pub AllFine : List Line → Type 0
AllFine [] = Unit
AllFine (l ∷ ls) = Fine l × AllFine ls

wide : (w : ListingForm) → widest w ≤ 248
wide old_form = omega arith
wide new_form = omega arith

line_fine : (w : ListingForm) (i sum : ℕ) (l : Line) → within_limits w i sum l.chars ≡ true → well_formed l ≡ true → Fine l × (i < 1024)
unfolding within_limits well_formed
line_fine w i sum l h k =
    let a = and_true (ltb i 1024) _ h in
    let b = and_true (leb (length l.chars) (widest w)) _ a.1 in
    let c = and_true (every (λ c. is_digit c) l.chars) _ k in
    let d = and_true (eqb (length l.chars % 2) 0) l.ended c.1 in
    let short : length l.chars ≤ widest w = leb-true (length l.chars) (widest w) b.0 in
    let z : length l.chars ≤ 248 = omega (arith, wide w) in
    (record { written = record { digits = c.0; even = eqb-true _ 0 d.0; short = z }; ended = d.1 }, ltb-true i 1024 a.0)

pub record Read (ls : List Line) (p : Program) (i : ℕ) : Type 0 where
  pub fine : AllFine ls
  pub count : length ls ≡ length p
  pub few : i ≤ 1024 → i + length ls ≤ 1024

lines_read : (w : ListingForm) (i sum : ℕ) (ls : List Line) (p : Program) → read_lines w i sum ls ≡ ok p → Read ls p i
unfolding read_lines
lines_read w i sum [] p e = let z : p ≡ [] = cc in record { fine = tt; count = rw z; few = λ h. omega arith }
lines_read w i sum (l ∷ ls) p e =
    let x = bind_ok (require (within_limits w i sum l.chars) (Limit (at_place i))
    (require (well_formed l) (Broken (at_place i)) (read_frame_in w i (unhex l.chars)))) _ p e in
    let a = require_ok (within_limits w i sum l.chars) (Limit (at_place i)) _ x.0 x.1 in
    let b = require_ok (well_formed l) (Broken (at_place i)) _ x.0 a.1 in
    let y = bind_ok (read_lines w (suc i) (sum + length l.chars) ls) _ p x.2 in
    let f = line_fine w i sum l a.0 b.0 in
    let r = lines_read w (suc i) (sum + length l.chars) ls y.0 y.1 in
    let z : p ≡ x.0 ∷ y.0 = cc y.2 in
    let less : i < 1024 = f.1 in
    record {
      fine = (f.0, r.fine);
      count = rw z (omega (arith, r.count));
      few = λ h. omega (arith, r.few (omega arith));
    }

pub listing_read : (text : List ℕ) (p : Program) → read_listing text ≡ ok p → Read (statement_lines (lines_of text)) p 0
unfolding read_listing
listing_read text p e = lines_read (form_in (lines_of text)) 0 0 (statement_lines (lines_of text)) p e

-- ---- by place
pub length_map : {X Y : Type 0} (f : X → Y) (l : List X) → length (map f l) ≡ length l
length_map f [] = refl
length_map f (x ∷ l) = ap suc (length_map f l)

fine_at : (ls : List Line) (i : ℕ) → AllFine ls → i < length ls → Written (get_or (map (λ l. l.chars) ls) i [])
fine_at [] i h k = absurd (omega arith)
fine_at (l ∷ ls) zero h k = h.0.written
fine_at (l ∷ ls) (suc i) h k = fine_at ls i h.1 (omega arith)

pub ended_all : (ls : List Line) → AllFine ls → every (λ l. l.ended) ls ≡ true
unfolding every
ended_all [] h = refl
ended_all (l ∷ ls) h = rw h.0.ended (ended_all ls h.1)

-- the lines of an accepted listing
pub record AcceptedLines (text : List ℕ) (p : Program) : Type 0 where
  pub count : length (chars_of text) ≡ length p
  pub few : length (chars_of text) ≤ 1024
  pub written : (i : ℕ) → i < length (chars_of text) → Written (line_in text i)
  pub ended : every (λ l. l.ended) (statement_lines (lines_of text)) ≡ true

pub accepted_lines : (text : List ℕ) (p : Program) → read_listing text ≡ ok p → AcceptedLines text p
unfolding chars_of
accepted_lines text p e =
    let r = listing_read text p e in
    let n = length_map (λ l. l.chars) (statement_lines (lines_of text)) in
    record {
      count = n ∙ r.count;
      few = omega (arith, n, r.few (omega arith));
      written = λ i h. fine_at (statement_lines (lines_of text)) i r.fine (omega (arith, n));
      ended = ended_all (statement_lines (lines_of text)) r.fine;
    }

-- ---- how many were read
module _ (frames starts : List ℕ) (r : Result ℕ Refusal) (x : Judged Program) (h : ListedAs frames starts r x) where
  pub counted_read : (n : ℕ) → r ≡ Ok n → CountedAs (Ok n) x
  counted_read n e = on x (rw e at h)
    where
      on : (y : Judged Program) → ListedAs frames starts (Ok n) y → CountedAs (Ok n) y
      on (ok p) g = g.count
      on (no q) g = g

  pub counted_refused : (q : Refusal) → r ≡ Err q → CountedAs (Err q) x
  counted_refused q e = on x (rw e at h)
    where
      on : (y : Judged Program) → ListedAs frames starts (Err q) y → CountedAs (Err q) y
      on (ok p) g = g
      on (no s) g = g

pub is_ok_lem : {A : Type 0} (x : Judged A) → is_ok x ≡ true → (a : A) × (x ≡ ok a)
unfolding is_ok
is_ok_lem (ok a) e = (a, refl)
is_ok_lem (no r) e = clash (cc)
