-- What the entry answers: the count is the number of lines, and 12 is judged by it.
use mathlib.Core.Path.{◌≡◌, refl, sym, ap, ◌∙◌, subst}
use mathlib.Core.List.{List}
use mathlib.Core.Bool.{Bool, true, false}
use mathlib.Core.Logic.{◌⊎◌, inl, inr}
use Prim.Native.Nat.{ℕ, ◌*◌, ◌≤◌, ◌<◌}
use native.Mathlib.Omega.{arith}
use lib.Dec.{leb}
use lib.ListN.{length}
use borrow.Author.Tests.{le-leb, lt-leb}
use Rattle.mapping.specs.declared.Counts.{Counts}
use Rattle.std.specs.Prelude.{Err, Result, Ok}
use Rattle.rules.specs.declared.Settings.{Settings}
use Rattle.rules.specs.declared.Refusal.{Refusal}
use Rattle.rules.specs.declared.Refusal.TheVariants.{Room}
use Rattle.rules.specs.Answers.{Judged, ok, no, ◌>>=◌, require}
use Rattle.rules.specs.Programs.{Program}
use Rattle.rules.specs.Rewriting.{optimized}
use Rattle.rules.specs.Run.{run}
use Rattle.laws.proofs.Tests.{clash}
use Rattle.starting.specs.Begun.{accepted}
use Rattle.starting.proofs.Accepts.{accepted_run}
use Rattle.digits.specs.Digits.{laid}
use Rattle.digits.proofs.Rooms.{laid_front}
use Rattle.mapping.specs.Rows.{Row, rows_to, rows}
use Rattle.mapping.specs.Entry.{row_lines, fitted, mapped, Leaves, Fits}
use Rattle.mapping.proofs.Listed.{length_lines}

-- ---- of so many rows
module _ (p e : Program) (count k : ℕ) (room : List ℕ) (lp : length p ≡ count) (c : k ≡ length (rows_to p e count)) where
  size : length (row_lines (rows_to p e (length p))) ≡ 37 * k
  size = omega (arith, length_lines (rows_to p e (length p)), ap (λ (n : ℕ). length (rows_to p e n)) lp)

  pub lines_fit : 37 * k ≤ length room → length (row_lines (rows_to p e count)) ≤ length room
  lines_fit h = omega (arith, length_lines (rows_to p e count))

  pub fits_short : length room < 37 * k → Fits p e (Err (Room count)) room room
  unfolding fitted require
  fits_short h =
      rw (lt-leb (length (row_lines (rows_to p e (length p)))) (length room) (omega (arith, size)))
      (record { answer = ap (λ (n : ℕ). Err (Room n)) (sym lp); room = refl })

  pub fits_whole : (out : List ℕ) → 37 * k ≤ length room → out ≡ laid room 0 (row_lines (rows_to p e count)) → Fits p e (Ok (record { bytes = 37 * k; rows = k })) room out
  unfolding fitted require
  fits_whole out h o =
      let z : rows_to p e count ≡ rows_to p e (length p) = ap (rows_to p e) (sym lp) in
      rw (le-leb (length (row_lines (rows_to p e (length p)))) (length room) (omega (arith, size)))
      (record { answer = rw (size, c, z); room = o ∙ laid_front room (row_lines (rows_to p e count)) ∙ rw z })

-- the same programs under other names
pub fits_as : (p q e f : Program) (r : Result Counts Refusal) (a b : List ℕ) → p ≡ q → e ≡ f → Fits p e r a b → Fits q f r a b
fits_as p q e f r a b x y h = subst (λ (z : Program). Fits q z r a b) y (subst (λ (z : Program). Fits z e r a b) x h)

pub fits_read : (asked : Settings) (p q : Program) {r : Result Counts Refusal} {a b : List ℕ} → p ≡ q → Fits p (optimized asked p).program r a b → Fits q (optimized asked q).program r a b
fits_read asked p q {r} {a} {b} e h = subst (λ (z : Program). Fits z (optimized asked z).program r a b) e h

-- ---- of a listing
module _ (asked : Settings) (text room : List ℕ) where
  pub mapped_refused : (q : Refusal) → accepted text ≡ no q → Leaves (mapped asked text (length room)) (Err q) room room
  unfolding mapped ◌>>=◌
  mapped_refused q e = rw e (record { answer = refl; room = refl })

  pub mapped_fits : (p : Program) (r : Result Counts Refusal) (out : List ℕ) → accepted text ≡ ok p → Fits p (optimized asked p).program r room out
      → Leaves (mapped asked text (length room)) r room out
  unfolding mapped ◌>>=◌ rows
  mapped_fits p r out e h = rw e h

-- mapped-refusal: a refusal is the run's, whatever rooms that is lent, or 12 with the statement count
module _ (asked : Settings) (text : List ℕ) (room : ℕ) (r : Refusal) (h : mapped asked text room ≡ no r) where
  abbrev AsRun : Type 0
  AsRun = ((a b : ℕ) → run asked text a b ≡ no r) ⊎ ((p : Program) × (accepted text ≡ ok p) × (r ≡ Room (length p)))

  short_of : (p : Program) (b : Bool) (rs : List Row) → require b (Room (length p)) (ok rs) ≡ no r → r ≡ Room (length p)
  unfolding require
  short_of p true rs e = clash (cc)
  short_of p false rs e = cc

  pub mapped_refusal : AsRun
  unfolding mapped ◌>>=◌ fitted
  mapped_refusal = on (accepted text) refl
    where
      on : (x : Judged Program) → accepted text ≡ x → AsRun
      on (ok p) e = inr (p, e, short_of p (leb (length (row_lines (rows asked p))) room) (rows asked p) (rw e at h))
      on (no q) e = let z : ◌≡◌ {A = Judged (List Row)} (no q) (no r) = rw e at h in let y : q ≡ r = cc in inl (λ a b. accepted_run text asked r a b (e ∙ ap no y))

-- coincide: two results that the contract allows are the same
pub coincide : (asked : Settings) (text room : List ℕ) (r q : Result Counts Refusal) (a b : List ℕ) → Leaves (mapped asked text (length room)) r room a → Leaves (mapped asked text (length room)) q room b
    → (r ≡ q) × (a ≡ b)
coincide asked text room r q a b h k = (h.answer ∙ sym k.answer, h.room ∙ sym k.room)
