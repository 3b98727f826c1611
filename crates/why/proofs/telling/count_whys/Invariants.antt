-- `why::telling::count_whys` meets its contract: the loop counts the reasons before each try.
use mathlib.Core.Path.{◌≡◌}
use lib.ListN.{length}
use Rattle.slots.specs.Slots.{program_of}
use Rattle.slots.specs.State.{table_of}
use Rattle.why.proofs.Walks.{before}
use Rattle.why.proofs.telling.count_whys.Given as goal

abbrev pub invariant-loop-m : goal.invariant-loop-m
invariant-loop-m l = (l.n ≡ length (before l.asked (program_of (table_of l.frames l.state l.count)) l.m))
