use mathlib.Core.Path.{◌≡◌}
use Prim.Native.Nat.{◌-◌, ◌≤◌}
use lib.ListN.{length}
use Rattle.series.proofs.Hexes.{Paired}
use Rattle.series.proofs.comments.comment_line.Given as goal

abbrev pub invariant-loop-i : goal.invariant-loop-i
invariant-loop-i l = (length l.out ≡ 120) × ((l.at ≤ 121) × ((l.i ≤ length l.s) × Paired l.s l.k l.out l.at l.i))

abbrev pub decreases-loop-i : goal.decreases-loop-i
decreases-loop-i l = length l.s - l.i
