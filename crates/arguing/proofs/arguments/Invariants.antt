use mathlib.Core.Path.{◌≡◌}
use Prim.Native.Nat.{◌≤◌}
use lib.ListN.{length}
use Rattle.arguing.proofs.Together.{SoFar}
use Rattle.arguing.proofs.arguments.Given as goal

abbrev pub invariant-loop-j : goal.invariant-loop-j
invariant-loop-j l = (length l.out ≡ 120) × ((l.at ≤ 121) × ((l.i ≤ length l.s) × SoFar l.form l.s l.k l.out l.at l.i l.f l.j))
