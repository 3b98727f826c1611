-- `contexts::fill_contexts` meets its contract. The invariant: the table is filled below i, and `context` is the one before place i.
use mathlib.Core.List.{[]}
use Prim.Native.Nat.{◌<◌}
use native.Mathlib.Omega.{arith}
use lib.ListN.{length-set}
use Rattle.slots.specs.Slots.{slots, slot_at}
use Rattle.slots.specs.State.{starts_in, forms_in}
use Rattle.env.proofs.Entering.{enter_most, contexts_start, contexts_next}
use Rattle.env.proofs.contexts.fill_contexts.Goals as goal

pub loop-i-init : goal.loop-i-init
loop-i-init c = (c.requires.1, omega arith, λ carry owners offsets. contexts_start _ c.args.contexts.now)

pub loop-i-preserved : goal.loop-i-preserved
loop-i-preserved c =
    let inside : c.loop-i.i < 1024 = omega (arith, c.requires.0.few) in
    let s = slot_at (slots c.args.frames.now (starts_in c.args.state.now) c.args.count (forms_in c.args.state.now) [] [] []) c.loop-i.i in (
      simp length-set c.loop-i.invariant.0,
      omega (arith, c.context_at-context.ensures [] [] [], enter_most c.loop-i.context s),
      λ carry owners offsets.
          contexts_next _ c.loop-i.context c.args.contexts.now c.loop-i.contexts c.loop-i.i c.context_at-context.result
          (c.loop-i.invariant.2 carry owners offsets) c.loop-i-test.true
          (omega (arith, inside, c.requires.1))
          (c.context_at-context.ensures carry owners offsets),
    )
