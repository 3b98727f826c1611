-- `patterns::counting::in_items` meets its contract: one item more at each turn, 16 at most.
use mathlib.Core.Path.{◌≡◌}
use mathlib.Core.Bool.{Bool}
use Prim.Native.Nat.{ℕ, ◌*◌, ◌≤◌}
use lib.ListN.{take}
use Rattle.laws.specs.Lists.{total}
use Rattle.rules.specs.Expressions.{mentions}
use Rattle.expression.specs.Naming.{Referred}
use Rattle.slots.specs.Slots.{DataIn}
use Rattle.patterns.specs.Mentions.{read_as, items_of}
use Rattle.patterns.proofs.counting.in_items.Given as goal

abbrev pub invariant-loop-j : goal.invariant-loop-j
invariant-loop-j l =
    (l.found ≤ 120 * l.j) × ((i : ℕ) → DataIn i l.frame → (f : ℕ → Bool) → Referred f l.frame l.links l.place.0 → l.found
    ≡ total (mentions f) (take l.j (items_of (read_as i l.frame))))
