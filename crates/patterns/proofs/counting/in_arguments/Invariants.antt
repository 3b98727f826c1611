-- `patterns::counting::in_arguments` meets its contract: one argument more at each turn.
use mathlib.Core.Path.{◌≡◌}
use mathlib.Core.Bool.{Bool}
use Prim.Native.Nat.{ℕ, ◌*◌, ◌≤◌}
use lib.ListN.{take}
use Rattle.laws.specs.Lists.{total}
use Rattle.rules.specs.Expressions.{mentions}
use Rattle.rules.specs.Programs.{args_of, in_operand}
use Rattle.expression.specs.Naming.{Referred}
use Rattle.patterns.specs.Mentions.{read_as}
use Rattle.patterns.proofs.counting.in_arguments.Given as goal

abbrev pub invariant-loop-j : goal.invariant-loop-j
invariant-loop-j l =
    (l.found ≤ 120 * l.j)
    × ((f : ℕ → Bool) → Referred f l.frame l.links l.place.0 → l.found ≡ total (in_operand (mentions f))
    (take l.j (args_of (read_as l.at.0 l.frame))))
