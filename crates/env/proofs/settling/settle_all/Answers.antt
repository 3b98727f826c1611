-- `settling::settle_all` meets its contract. The invariant: the tables stand up to place i.
use mathlib.Core.Path.{◌≡◌, sym, ap, ◌∙◌}
use mathlib.Core.List.{[]}
use Prim.Native.Nat.{◌≤◌, ◌<◌}
use native.Mathlib.Omega.{arith}
use lib.ListN.{length-set}
use borrow.Author.Rules.{rules}
use Rattle.expression.proofs.Signed.{at64}
use Rattle.env.specs.Answers.{moved_to}
use Rattle.env.proofs.Telling.{named_now}
use Rattle.env.proofs.OnePass.{settled_start, settled_next, settled_end, laid_at, position_stops, value_stops}
use Rattle.env.proofs.settling.settle_all.Goals as goal

pub loop-i-init : goal.loop-i-init
loop-i-init c = (
  simp length-set c.requires.held.1,
  c.requires.held.2,
  λ carry owners offsets. settled_start _ c.args.positions.now c.args.values.now (omega (arith, c.requires.held.1)),
)

pub advance-requires : goal.advance-requires
advance-requires c =
    let h = c.loop-i.invariant.2 [] [] [] in (
      c.requires.held.0,
      c.loop-i-test.true,
      omega (arith, h.held c.loop-i.i (omega arith), h.small c.loop-i.i (omega arith)),
    )

pub returns-in_default : goal.returns-in_default
returns-in_default c carry owners offsets =
    position_stops _ c.loop-i.positions c.loop-i.values c.loop-i.i (c.loop-i.invariant.2 carry owners offsets) c.loop-i-test.true _ _
    c.in_default.field-0 (sym (c.advance.ensures.moved carry owners offsets) ∙ c.in_default.is)

pub value_at-requires : goal.value_at-requires
value_at-requires c =
    record {
      held = (c.requires.held.0, c.loop-i-test.true, c.requires.held.3);
      any = λ carry owners offsets.
          let h = c.loop-i.invariant.2 carry owners offsets in (
            laid_at _ c.loop-i.positions c.loop-i.values c.loop-i.i h c.loop-i-test.true
                (c.requires.any carry owners offsets c.loop-i.i c.loop-i-test.true) _,
            h.shown,
          );
    }

pub returns-in_default-value_at : goal.returns-in_default-value_at
returns-in_default-value_at c carry owners offsets =
    value_stops _ c.loop-i.positions c.loop-i.values c.loop-i.i (c.loop-i.invariant.2 carry owners offsets)
    c.loop-i-test.true
    (named_now _ c.requires.held.0 (λ i. (c.type_inv.frames i).fits) _ (c.requires.any carry owners offsets))
    _ _ c.in_default-value_at.field-0 (sym (c.value_at.ensures carry owners offsets).0
    ∙ c.in_default-value_at.is)

pub loop-i-preserved : goal.loop-i-preserved
loop-i-preserved c =
    let e : at64 c.in-Ok-value_at.z ≡ c.in-Ok-value_at.z = search rules in
    let low : c.in-Ok.next.0 ≤ 65536 = omega (arith, ap moved_to c.in-Ok.is, c.advance.ensures.within) in
    let inside : c.loop-i.i < 1024 = omega (arith, c.requires.held.0.few) in (
      simp length-set c.loop-i.invariant.0,
      simp length-set c.loop-i.invariant.1,
      λ carry owners offsets. rw e
          (settled_next _ c.loop-i.positions c.loop-i.values c.loop-i.i (c.loop-i.invariant.2 carry owners offsets) c.loop-i-test.true
          c.requires.held.0 c.in-Ok.next c.in-Ok-value_at.z low
          (omega (arith, inside, c.loop-i.invariant.0))
          (omega (arith, inside, c.loop-i.invariant.1))
          (sym (c.advance.ensures.moved carry owners offsets) ∙ c.in-Ok.is)
          (sym (c.value_at.ensures carry owners offsets).0 ∙ c.in-Ok-value_at.is)
          (rw c.in-Ok-value_at.is at (c.value_at.ensures carry owners offsets).1)),
    )

pub returns : goal.returns
returns c carry owners offsets =
    settled_end _ c.loop-i.positions c.loop-i.values c.loop-i.i (c.loop-i.invariant.2 carry owners offsets)
    (named_now _ c.requires.held.0 (λ i. (c.type_inv.frames i).fits) _ (c.requires.any carry owners offsets)) (omega arith)
