use mathlib.Core.Path.{◌≡◌}
use Prim.Native.Nat.{◌≤◌, ◌-◌}
use lib.ListN.{length, drop}
use Rattle.grammar.specs.Going.{fixed}
use Rattle.leaves.proofs.lexing.fixed.Given as goal

abbrev pub invariant-loop-i : goal.invariant-loop-i
invariant-loop-i l = (l.i ≤ length l.s) × (l.v ≤ 32767) × (fixed 32767 5 0 l.s ≡ fixed 32767 (5 - l.i) l.v (drop l.i l.s))
