-- `mapping::writing::write_rows` meets its contract. The loop's invariant: the room is filled with the lines of the first i places.
use Rattle.listing.specs.Tables.{input_of}
use Rattle.slots.specs.Slots.{program_of}
use Rattle.slots.specs.State.{starts_in, table_of}
use Rattle.mapping.proofs.Listed.{Written}
use Rattle.mapping.proofs.writing.write_rows.Given as goal

abbrev pub invariant-loop-i : goal.invariant-loop-i
invariant-loop-i l =
    Written (input_of l.frames (starts_in l.state) l.count) (program_of (table_of l.frames l.state l.count)) l.initial.out l.i l.n l.out
