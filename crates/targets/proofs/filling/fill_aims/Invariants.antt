-- `targets::filling::fill_aims` meets its contract. The loop's invariant: the places passed have their targets.
use mathlib.Core.Path.{◌≡◌}
use lib.ListN.{length}
use Rattle.image.specs.Tables.{tables_of, program}
use Rattle.targets.specs.Aimed.{AimsIn}
use Rattle.targets.proofs.filling.fill_aims.Given as goal

abbrev pub invariant-loop-i : goal.invariant-loop-i
invariant-loop-i l =
    AimsIn (program (tables_of l.frames l.state l.count l.links l.values l.positions)) l.i l.aims × (length l.aims ≡ 1024)
