-- `walks::measure` meets its contract: the statements so far and what is left make the whole. Assumes nothing.
use mathlib.Core.Path.{◌≡◌}
use Prim.Native.Nat.{◌-◌}
use lib.ListN.{length}
use Rattle.rules.specs.Programs.{Program}
use Rattle.intake.proofs.Steps.{Upto}
use Rattle.intake.proofs.walks.measure.Given as goal

abbrev pub invariant-loop-q : goal.invariant-loop-q
invariant-loop-q l = (length l.room ≡ 120) × ((p : Program) × Upto l.text l.q l.i l.sum p)

abbrev pub decreases-loop-q : goal.decreases-loop-q
decreases-loop-q l = length l.text - l.q
