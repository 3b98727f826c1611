-- `moving::fill_moving` meets its contract. The invariant: what is left to look at stands behind the names below i that move.
use native.Mathlib.Omega.{arith}
use lib.ListN.{length-set}
use Rattle.env.proofs.Movings.{moving_start, moving_next, moving_all}
use Rattle.env.proofs.moving.fill_moving.Goals as goal

pub loop-i-init : goal.loop-i-init
loop-i-init c = (c.requires.1, λ carry owners offsets. moving_start _ c.args.contexts.now c.args.moving.now)

pub loop-i-preserved : goal.loop-i-preserved
loop-i-preserved c = (
  simp length-set c.loop-i.invariant.0,
  λ carry owners offsets.
      moving_next _ c.args.contexts.now c.loop-i.moving c.loop-i.i c.moving_at.result
      (c.loop-i.invariant.1 carry owners offsets)
      c.loop-i-test.true
      (omega (arith, c.requires.0.few))
      (c.requires.2 carry owners offsets c.loop-i.i c.loop-i-test.true)
      (c.moving_at.ensures carry owners offsets),
)

pub returns : goal.returns
returns c carry owners offsets =
    moving_all _ c.args.contexts.now c.loop-i.moving c.loop-i.i (omega arith) (c.loop-i.invariant.1 carry owners offsets)
