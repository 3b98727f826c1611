use mathlib.Core.Path.{◌≡◌}
use Prim.Native.Nat.{◌≤◌}
use lib.ListN.{drop}
use Rattle.grammar.specs.Going.{digits}
use Rattle.leaves.proofs.lexing.digits.Given as goal

abbrev pub invariant-loop-i : goal.invariant-loop-i
invariant-loop-i l = (l.v ≤ l.most) × (digits l.most 0 l.s ≡ digits l.most l.v (drop l.i l.s))
