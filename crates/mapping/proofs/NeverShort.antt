-- A room of 1,024 lines is never too short: 12 is not given of it.
use mathlib.Core.Path.{◌≡◌, refl, ap, ◌∙◌, subst}
use mathlib.Core.List.{List}
use mathlib.Core.Bool.{Bool, true, false}
use Prim.Native.Nat.{ℕ, zero, suc, ◌+◌, ◌≤◌}
use native.Mathlib.Numerals.{add-one}
use native.Mathlib.Omega.{arith}
use lib.Dec.{leb}
use lib.ListN.{length}
use borrow.Author.Tests.{le-leb}
use Rattle.laws.proofs.Tests.{clash}
use Rattle.rules.specs.declared.Settings.{Settings}
use Rattle.rules.specs.declared.Refusal.TheVariants.{Room}
use Rattle.rules.specs.Answers.{Judged, ok, no, ◌>>=◌, require}
use Rattle.rules.specs.Programs.{Placeℕ, Program, at}
use Rattle.rules.specs.Rewriting.{optimized}
use Rattle.promises.proofs.Listings.{read_limits}
use Rattle.starting.specs.Begun.{accepted}
use Rattle.starting.proofs.Accepts.{accepted_input, accepted_never_12}
use Rattle.mapping.specs.Rows.{Row, has_row, rows_to, rows}
use Rattle.mapping.specs.Entry.{row_lines, fitted, mapped}
use Rattle.mapping.proofs.Listed.{to_none, count_one, count_other, length_lines}

-- a line a place at most
module _ (p e : Program) where
  few_next : (i : Placeℕ) → length (rows_to p e i) ≤ i → length (rows_to p e (i + 1)) ≤ i + 1
  few_next i h = on (has_row (at p i)) refl
    where
      on : (b : Bool) → has_row (at p i) ≡ b → length (rows_to p e (i + 1)) ≤ i + 1
      on true z = omega (arith, h, count_one p e i (length (rows_to p e i)) refl z)
      on false z = omega (arith, h, count_other p e i (length (rows_to p e i)) refl z)

  few : (n : ℕ) → length (rows_to p e n) ≤ n
  few zero = omega (arith, ap length (to_none p e))
  few (suc i) = subst (λ (k : ℕ). length (rows_to p e k) ≤ k) (add-one i) (few_next i (few i))

module _ (asked : Settings) (text : List ℕ) (room n : ℕ) (l : 37888 ≤ room) where
  short : (p : Program) → accepted text ≡ ok p → length (row_lines (rows asked p)) ≤ 37888
  unfolding rows
  short p d =
      let i = accepted_input text p d in
      let e = (optimized asked p).program in
      omega (arith, length_lines (rows_to p e (length p)), few p e (length p), (read_limits i.text p i.reads).0)

  -- never-short: with that room only the listing is refused
  pub never_short : mapped asked text room ≡ no (Room n) → ⊥
  unfolding mapped fitted require ◌>>=◌
  never_short h = on (accepted text) refl
    where
      on : (x : Judged Program) → accepted text ≡ x → ⊥
      on (ok p) d =
          let fits : leb (length (row_lines (rows asked p))) room ≡ true = le-leb _ room (omega (arith, l, short p d)) in
          let z : ◌≡◌ {A = Judged (List Row)} (ok (rows asked p)) (no (Room n)) = rw (d, fits) at h in
          clash (cc)
      on (no r) d =
          let z : ◌≡◌ {A = Judged (List Row)} (no r) (no (Room n)) = rw d at h in
          let y : r ≡ Room n = cc in
          accepted_never_12 text asked n (d ∙ ap no y)
