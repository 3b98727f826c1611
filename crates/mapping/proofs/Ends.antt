-- The end form is the definition's, and anchoring leaves each statement where it was.
use mathlib.Core.Path.{◌≡◌, sym, ap, ◌∙◌, subst}
use mathlib.Core.List.{List}
use Prim.Native.Nat.{ℕ}
use native.Mathlib.Omega.{arith}
use Rattle.laws.specs.Lists.{total}
use Rattle.rules.specs.declared.Settings.{Settings}
use Rattle.rules.specs.Programs.{Program}
use Rattle.rules.specs.Layout.{position}
use Rattle.rules.specs.Rewriting.{Chain, anchor, chain, optimized, instr_bytes}
use Rattle.promises.proofs.Anchors.{instr_bytes_anchor}
use Rattle.promises.proofs.Acceptable.{anchor_room}
use Rattle.promises.proofs.Positions.{position_same}
use Rattle.slots.specs.Slots.{Slots, program_of}
use Rattle.optimize.specs.Optimized.{Optimized}
use Rattle.starting.specs.Begun.{Holds}
use Rattle.mapping.specs.Entry.{Addressed}

-- the same program under another name
pub holds_as : (p q : Program) {t : Slots} {links : List ℕ} → p ≡ q → Holds p t links → Holds q t links
holds_as p q {t} {links} e h = subst (λ (z : Program). Holds z t links) e h

pub end_is : (asked : Settings) (t u : Slots) (p : Program) (n : ℕ) → program_of t ≡ anchor p → Optimized asked t u n → program_of u ≡ (optimized asked p).program
unfolding optimized
end_is asked t u p n e h =
    ap (λ (c : Chain). c.program) (sym (h.chain_is (total instr_bytes (program_of t)) (omega arith)))
    ∙ ap (λ (q : Program). (chain asked (total instr_bytes q) q).program) e
    ∙ ap (λ (k : ℕ). (chain asked k (anchor p)).program) (instr_bytes_anchor p)

pub anchored_addresses : (p q : Program) {n : ℕ} {positions : List ℕ} → q ≡ anchor p → Addressed q n positions → Addressed p n positions
anchored_addresses p q e h = record { address = λ i l. h.address i l ∙ ap (λ (r : Program). position r i) e ∙ position_same p (anchor p) (anchor_room p) i }

pub addressed_as : (p q : Program) {n : ℕ} {positions : List ℕ} → p ≡ q → Addressed p n positions → Addressed q n positions
addressed_as p q {n} {positions} e h = subst (λ (r : Program). Addressed r n positions) e h
