-- `targets::writing::count_transfers` meets its contract. The loop's invariant: n is the number of transfers among the first i places,
-- whatever the
use mathlib.Core.Path.{◌≡◌}
use Prim.Native.Nat.{◌≤◌}
use lib.ListN.{length}
use Rattle.rules.specs.Programs.{Program}
use Rattle.slots.specs.Slots.{program_of}
use Rattle.slots.specs.State.{table_of}
use Rattle.targets.specs.Entry.{targets_to}
use Rattle.targets.proofs.writing.count_transfers.Given as goal

abbrev pub invariant-loop-i : goal.invariant-loop-i
invariant-loop-i l = ((p : Program) → l.n ≡ length (targets_to p (program_of (table_of l.frames l.state l.count)) l.i)) × (l.n ≤ l.i)
