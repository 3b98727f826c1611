-- `walks::write_lines` meets its contract: the lines so far stand in the room, and what is left is read. Assumes nothing.
use mathlib.Core.Path.{◌≡◌}
use Prim.Native.Nat.{◌-◌}
use lib.ListN.{length}
use Rattle.intake.proofs.Written.{Stands}
use Rattle.intake.proofs.walks.write_lines.Given as goal

abbrev pub invariant-loop-q : goal.invariant-loop-q
invariant-loop-q l = (length l.room ≡ 120) × Stands l.text l.initial.listing l.q l.i l.sum l.listing

abbrev pub decreases-loop-q : goal.decreases-loop-q
decreases-loop-q l = length l.text - l.q
