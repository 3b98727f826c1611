-- `why::telling::write_whys` meets its contract: the lines of the reasons before each try stand in the room.
use mathlib.Core.Path.{◌≡◌}
use lib.ListN.{length}
use Rattle.slots.specs.Slots.{program_of}
use Rattle.slots.specs.State.{table_of}
use Rattle.digits.specs.Digits.{laid}
use Rattle.staying.specs.Lines.{why_lines}
use Rattle.why.proofs.Walks.{before}
use Rattle.why.proofs.telling.write_whys.Given as goal

abbrev pub invariant-loop-m : goal.invariant-loop-m
invariant-loop-m l =
    let p = program_of (table_of l.frames l.state l.count) in
    (l.n ≡ length (before l.asked p l.m)) × (l.out ≡ laid l.initial.out 0 (why_lines (before l.asked p l.m)))
