-- What the entry answers, way by way.
use mathlib.Core.Path.{◌≡◌, refl, sym, ap, ◌∙◌}
use mathlib.Core.List.{List}
use mathlib.Core.Bool.{true, false}
use mathlib.Core.Option.{Option}
use Prim.Native.Nat.{ℕ, ◌≤◌, ◌<◌}
use native.Mathlib.Omega.{arith}
use lib.ListN.{length}
use borrow.Author.Tests.{le-leb, lt-leb, eq-eqb, ne_eqb}
use Rattle.differences.specs.declared.entry.Whose.TheVariants.{OfSecond, OfFirst, OfBoth}
use Rattle.std.specs.Prelude.{Err, Ok, Result, MatchResult, IsErrAnd}
use Rattle.laws.proofs.Tests.{clash}
use Rattle.rules.specs.declared.Refusal.{Refusal}
use Rattle.rules.specs.declared.Refusal.TheVariants.{Broken, Room}
use Rattle.rules.specs.Answers.{at_place, Judged, ok, no, require, is_ok}
use Rattle.rules.specs.Programs.{Program}
use Rattle.rules.specs.Listing.{lines_of, form_in, read_listing}
use Rattle.digits.specs.Digits.{laid}
use Rattle.digits.proofs.Rooms.{laid_front}
use Rattle.pairing.specs.Pairings.{Frames, frames_of, good_entries, entries_in}
use Rattle.pairing.specs.Lines.{chars_of, CountedAs}
use Rattle.pairing.specs.Tables.{pairs_in}
use Rattle.pairing.proofs.Accepted.{accepted_lines}
use Rattle.differences.specs.Changes.{changes_of, text_of}
use Rattle.differences.specs.Differences.{Differing, text, of_both}
use Rattle.differences.specs.Differences.{after, same_form, read_second, compared, differences}
use Rattle.differences.specs.Entry.{PairedAs, roomed, Leaves}

-- ---- 12, or the text
pub room_short : (t d : List ℕ) (n : ℕ) → length d < length t → Leaves (roomed t n (length d)) (Err (OfBoth (Room n))) d d
unfolding roomed require
room_short t d n h = rw (lt-leb (length t) (length d) h) (record { answer = refl; room = refl })

pub room_holds : (t d out : List ℕ) (n size : ℕ) → size ≡ length t → length t ≤ length d → out ≡ laid d 0 t
    → Leaves (roomed t n (length d)) (Ok size) d out
unfolding roomed require
room_holds t d out n size e h o = rw (le-leb (length t) (length d) h) (record { answer = ap Ok e; room = o ∙ laid_front d t })

-- ---- 13, or the pairs
module _ (a b : Frames) (pairing : Option (List ℕ)) (pairs : List ℕ) (n : ℕ) (d : List ℕ) where
  pub pairs_bad : (r : Refusal) → PairedAs a b pairing pairs (Err r)
      → Leaves (after of_both (compared a b pairing n (length d)) text) (Err (OfBoth r)) d d
  unfolding compared require
  pairs_bad r h =
      let good : ℕ = good_entries (length a) (length b) (entries_in pairing) in
      let z = ne_eqb good (length (entries_in pairing)) (λ e. omega (arith, h.0)) in
      rw z (record { answer = ap (λ (q : Refusal). Err (OfBoth q)) h.1; room = refl })

  pub pairs_good : (k : ℕ) → PairedAs a b pairing pairs (Ok k)
      → after of_both (compared a b pairing n (length d)) text ≡ roomed (text_of (changes_of a b (pairs_in pairs k))) n (length d)
  unfolding compared roomed require
  pairs_good k h = rw (eq-eqb (good_entries (length a) (length b) (entries_in pairing)) (length (entries_in pairing)) h.0, h.1)

-- ---- what `map_err` made of an answer
module _ {T E D : Type 0} (made : E → D) where
  pub told_ok : (r : Result T E) (x : Result T D) → MatchResult r (λ v. x ≡ Ok v) (λ e. IsErrAnd x (λ d. d ≡ made e)) → (v : T) → x ≡ Ok v → r ≡ Ok v
  told_ok (Ok w) x h v e = let q : w ≡ v = cc in ap Ok q
  told_ok (Err y) x h v e = absurd (rw e at h)

  pub told_err : (r : Result T E) (x : Result T D) → MatchResult r (λ v. x ≡ Ok v) (λ e. IsErrAnd x (λ d. d ≡ made e)) → (d : D) → x ≡ Err d
      → (y : E) × (r ≡ Err y) × (d ≡ made y)
  told_err (Ok w) x h d e = clash (cc)
  told_err (Err y) x h d e = (y, refl, rw e at h)

-- ---- how a listing was counted
pub counted_ok : (c : Result ℕ Refusal) (x : Judged Program) (n : ℕ) → c ≡ Ok n → CountedAs c x → (p : Program) × (x ≡ ok p) × (n ≡ length p)
counted_ok c x n e h = on x (rw e at h)
  where
    on : (y : Judged Program) → CountedAs (Ok n) y → (p : Program) × (y ≡ ok p) × (n ≡ length p)
    on (ok p) g = (p, refl, g)
    on (no r) g = absurd g

pub counted_no : (c : Result ℕ Refusal) (x : Judged Program) (r : Refusal) → c ≡ Err r → CountedAs c x → x ≡ no r
counted_no c x r e h = on x (rw e at h)
  where
    on : (y : Judged Program) → CountedAs (Err r) y → y ≡ no r
    on (ok p) g = absurd g
    on (no s) g = ap no (sym g)

pub is_read : (x : Judged Program) (p : Program) → x ≡ ok p → is_ok x ≡ true
unfolding is_ok
is_read x p e = rw e

pub lines_counted : (t : List ℕ) (p : Program) (n : ℕ) → read_listing t ≡ ok p → n ≡ length p → n ≡ length (chars_of t)
lines_counted t p n e h = h ∙ sym (accepted_lines t p e).count

-- ---- the whole, in its order
module _ (first second : List ℕ) (pairing : Option (List ℕ)) (d : List ℕ) where
  abbrev whole : Differing
  whole = differences first second pairing (length d)

  pub first_refused : (r : Refusal) → read_listing first ≡ no r → Leaves whole (Err (OfFirst r)) d d
  unfolding differences
  first_refused r e = rw e (record { answer = refl; room = refl })

  module _ (p : Program) (e : read_listing first ≡ ok p) where
    pub other_form : same_form (form_in (lines_of first)) (form_in (lines_of second)) ≡ false → Leaves whole
        (Err (OfSecond (Broken (at_place 0)))) d d
    unfolding differences read_second require
    other_form g = rw (e, g) (record { answer = refl; room = refl })

    module _ (g : same_form (form_in (lines_of first)) (form_in (lines_of second)) ≡ true) where
      pub second_refused : (r : Refusal) → read_listing second ≡ no r → Leaves whole (Err (OfSecond r)) d d
      unfolding differences read_second require
      second_refused r f = rw (e, g, f) (record { answer = refl; room = refl })

      pub both_read : (q : Program) → read_listing second ≡ ok q
          → whole ≡ after of_both (compared (frames_of first) (frames_of second) pairing (length p) (length d)) text
      unfolding differences read_second require
      both_read q f = rw (e, g, f)
