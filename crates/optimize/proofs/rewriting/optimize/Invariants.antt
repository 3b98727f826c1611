-- `optimize::rewriting::optimize` meets its contract. The loop's invariant: the rewrites that were counted led to the program at hand. The
-- measure
use mathlib.Core.Path.{◌≡◌}
use Rattle.laws.specs.Lists.{total}
use Rattle.rules.specs.Rewriting.{instr_bytes}
use Rattle.slots.specs.Slots.{program_of}
use Rattle.slots.specs.State.{starts_in, table_of}
use Rattle.attempts.specs.Standing.{Standing}
use Rattle.optimize.proofs.Ends.{Led}
use Rattle.optimize.proofs.rewriting.optimize.Given as goal

abbrev pub invariant-loop-asked : goal.invariant-loop-asked
invariant-loop-asked l =
    Standing (table_of l.frames l.state l.count)
    × (starts_in l.state ≡ starts_in l.initial.state)
    × Led l.asked (program_of (table_of l.frames l.initial.state l.count)) (program_of (table_of l.frames l.state l.count)) l.rewrites

abbrev pub decreases-loop-asked : goal.decreases-loop-asked
decreases-loop-asked l =
    total instr_bytes (program_of (table_of l.frames l.state l.count))
