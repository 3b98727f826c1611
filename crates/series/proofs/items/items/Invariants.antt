use mathlib.Core.Path.{◌≡◌}
use mathlib.Core.List.{List}
use Prim.Native.Nat.{◌≤◌}
use lib.ListN.{length}
use Rattle.rules.specs.Expressions.{Expr}
use Rattle.rules.specs.Programs.{Stmt}
use Rattle.series.proofs.Itemized.{SoFar}
use Rattle.series.proofs.items.items.Given as goal

abbrev pub invariant-loop-n : goal.invariant-loop-n
invariant-loop-n l =
    (1 ≤ l.n) × ((l.n ≤ 16) × ((length l.out ≡ 120)
    × ((l.at ≤ 121) × ((l.i ≤ length l.s) × ((make : List Expr → Stmt) → SoFar make l.kind l.s l.k l.out l.at l.i l.n)))))
