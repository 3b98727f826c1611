-- A room of 1,024 lines is never too short: 12 is not given of it.
use mathlib.Core.Path.{◌≡◌, refl, ap, ◌∙◌, subst}
use mathlib.Core.List.{List}
use mathlib.Core.Bool.{Bool, true, false}
use Prim.Native.Nat.{ℕ, zero, suc, ◌+◌, ◌≤◌}
use native.Mathlib.Numerals.{add-one}
use native.Mathlib.Omega.{arith}
use lib.Dec.{leb}
use lib.ListN.{length}
use borrow.Author.Tests.{le-leb}
use Rattle.laws.specs.Lists.{total}
use Rattle.laws.proofs.Tests.{clash}
use Rattle.rules.specs.declared.Settings.{Settings}
use Rattle.rules.specs.declared.Refusal.TheVariants.{Room}
use Rattle.rules.specs.Answers.{Judged, ok, no, ◌>>=◌, require}
use Rattle.rules.specs.Forms.{is_transfer}
use Rattle.rules.specs.Programs.{Placeℕ, Program, at}
use Rattle.rules.specs.Rewriting.{anchor, optimized, instr_bytes}
use Rattle.promises.proofs.Anchors.{length_anchor}
use Rattle.promises.proofs.Chains.{chain_keeps}
use Rattle.promises.proofs.Listings.{read_limits}
use Rattle.promises.proofs.Weights.{step_length}
use Rattle.patterns.specs.Targets.{form_in}
use Rattle.starting.specs.Begun.{accepted}
use Rattle.starting.proofs.Accepts.{accepted_input, accepted_never_12}
use Rattle.targets.specs.Targets.{Target, targets}
use Rattle.targets.specs.Entry.{target_lines, fitted, told, targets_to}
use Rattle.targets.proofs.Listed.{to_none, count_one, count_other, length_lines}

-- the end form has a slot for each statement
end_length : (asked : Settings) (p : Program) → length (optimized asked p).program ≡ length p
unfolding optimized
end_length asked p = chain_keeps asked (λ q. length q ≡ length p) (λ r t st h. step_length r t st ∙ h) (total instr_bytes p) (anchor p) (length_anchor p)

-- a line a place at most
module _ (p e : Program) where
  few_next : (i : Placeℕ) → length (targets_to p e i) ≤ i → length (targets_to p e (i + 1)) ≤ i + 1
  few_next i h = on (is_transfer (form_in (at e i))) refl
    where
      on : (b : Bool) → is_transfer (form_in (at e i)) ≡ b → length (targets_to p e (i + 1)) ≤ i + 1
      on true z = omega (arith, h, count_one p e i (length (targets_to p e i)) refl z)
      on false z = omega (arith, h, count_other p e i (length (targets_to p e i)) refl z)

  few : (n : ℕ) → length (targets_to p e n) ≤ n
  few zero = omega (arith, ap length (to_none p e))
  few (suc i) = subst (λ (k : ℕ). length (targets_to p e k) ≤ k) (add-one i) (few_next i (few i))

module _ (asked : Settings) (text : List ℕ) (room n : ℕ) (l : 46080 ≤ room) where
  short : (p : Program) → accepted text ≡ ok p → length (target_lines (targets asked p)) ≤ 46080
  unfolding targets targets_to
  short p d =
      let i = accepted_input text p d in
      let e = (optimized asked p).program in
      omega (arith, length_lines (targets_to p e (length e)), few p e (length e), end_length asked p, (read_limits i.text p i.reads).0)

  -- never-short: with that room only the listing is refused
  pub never_short : told asked text room ≡ no (Room n) → ⊥
  unfolding told fitted require ◌>>=◌
  never_short h = on (accepted text) refl
    where
      on : (x : Judged Program) → accepted text ≡ x → ⊥
      on (ok p) d =
          let fits : leb (length (target_lines (targets asked p))) room ≡ true = le-leb _ room (omega (arith, l, short p d)) in
          let z : ◌≡◌ {A = Judged (List Target)} (ok (targets asked p)) (no (Room n)) = rw (d, fits) at h in
          clash (cc)
      on (no r) d =
          let z : ◌≡◌ {A = Judged (List Target)} (no r) (no (Room n)) = rw d at h in
          let y : r ≡ Room n = cc in
          accepted_never_12 text asked n (d ∙ ap no y)
