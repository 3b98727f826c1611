-- `attempts::deepest::fill_deepest` meets its contract: the loop stores the label of each slot.
use mathlib.Core.Path.{◌≡◌}
use Prim.Native.Nat.{ℕ}
use lib.ListN.{length, get_or}
use Rattle.attempts.specs.Deepest.{deepest_to}
use Rattle.slots.specs.State.{table_of}
use Rattle.attempts.proofs.deepest.fill_deepest.Given as goal

abbrev pub invariant-loop-j : goal.invariant-loop-j
invariant-loop-j l =
    (length l.deepest ≡ 1024)
    × ((i : ℕ) → get_or l.deepest i 0 ≡ deepest_to (table_of l.frames l.state l.count) i l.j)
