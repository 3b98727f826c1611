-- `steps::seats::first_change` meets its contract. The loop's invariant: the search goes on from i.
use Rattle.slots.specs.State.{table_of}
use Rattle.steps.proofs.InSlots.{Searches}
use Rattle.steps.proofs.seats.first_change.Given as goal

abbrev pub invariant-loop-i : goal.invariant-loop-i
invariant-loop-i l = Searches (table_of l.frames l.before l.count) (table_of l.frames l.state l.count) l.i
