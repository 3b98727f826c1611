-- `targets::writing::write_lines` meets its contract. The loop's invariant: the room is filled with the lines of the first i places.
use mathlib.Core.List.{List}
use Prim.Native.Nat.{ℕ}
use Rattle.rules.specs.Programs.{Program}
use Rattle.listing.specs.Tables.{input_of}
use Rattle.slots.specs.Slots.{program_of}
use Rattle.slots.specs.State.{starts_in, table_of}
use Rattle.targets.proofs.Listed.{Written}
use Rattle.targets.proofs.writing.write_lines.Given as goal

abbrev read_from : (frames : List ℕ) (state : List (List ℕ)) (count : ℕ) → Program
read_from frames state count = input_of frames (starts_in state) count

abbrev pub invariant-loop-i : goal.invariant-loop-i
invariant-loop-i l =
    Written (read_from l.frames l.state l.count) (program_of (table_of l.frames l.state l.count)) l.initial.out l.i l.n l.marked l.out
