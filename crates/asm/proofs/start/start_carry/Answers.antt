-- `asm::start::start_carry` meets its contract: a table filled from the front.
use mathlib.Core.Path.{refl}
use native.Mathlib.Omega.{arith}
use Rattle.laws.specs.Counts.{tab}
use Rattle.laws.proofs.Counts.{tab_more}
use Rattle.asm.proofs.start.start_carry.Goals as goal

pub loop-i-init : goal.loop-i-init
unfolding tab
loop-i-init c = refl

pub loop-i-preserved : goal.loop-i-preserved
loop-i-preserved c =
    tab_more (λ k. k) c.args.carry.now c.loop-i.carry c.loop-i.i _ c.loop-i.invariant (omega (arith, c.requires.0, c.requires.1)) refl
