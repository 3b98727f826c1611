-- `audit::comparing::count_alike` meets its contract. The loop's invariant: what is the same in what is left is counted behind what was passed.
use borrow.Author.Rules.{rules}
use mathlib.Core.Path.{ap, ap₂, ◌∙◌}
use mathlib.Core.List.{List}
use mathlib.Core.Logic.{inl, inr}
use Prim.Native.Nat.{ℕ}
use native.Mathlib.Omega.{arith}
use lib.ListN.{length}
use Rattle.audit.specs.Audit.{alike}
use Rattle.audit.proofs.Alike.{alike_same, alike_other, alike_ended}
use Rattle.audit.proofs.comparing.count_alike.Goals as goal

pub returns-then-differs : goal.returns-then-differs
returns-then-differs c =
    let h = c.in-Some.ensures.steps in
    let v = c.loop-i.invariant in
    let z = ap₂ alike h.0.0 h.0.1 ∙ alike_other _ _ _ _ (search rules) in
    (omega (arith, v.0, z, h.1), omega (arith, v.1, h.1), omega (arith, v.2, h.1))

pub loop-i-preserved : goal.loop-i-preserved
loop-i-preserved c =
    let h = c.in-Some.ensures.steps in
    let v = c.loop-i.invariant in
    let z = ap₂ alike h.0.0 h.0.1 ∙ alike_same _ _ _ _ (search rules) in
    let a = ap (λ (l : List ℕ). length l) h.0.0 in
    let b = ap (λ (l : List ℕ). length l) h.0.1 in
    (omega (arith, v.0, z, h.2), omega (arith, v.1, a, h.2), omega (arith, v.2, b, h.2))

pub returns : goal.returns
returns c =
    let v = c.loop-i.invariant in
    let m = c.min.ensures in
    let a = c.loop-i.i-iterator.iter.a.rest.now in
    let b = c.loop-i.i-iterator.iter.b.rest.now in
    elim c.in-None.ensures.steps.0 [
      | inl k ↦ (omega (arith, v, m, k.1.0, alike_ended a b (inl k.1.0)), omega (arith, m), omega (arith, m))
      | inr k ↦ (omega (arith, v, m, k.1.0, alike_ended a b (inr k.1.0)), omega (arith, m), omega (arith, m))
    ]
