-- `lines::pairs` meets its contract.
use lib.ListN.{length}
use Rattle.wording.proofs.lines.+pairs.Given as goal

abbrev pub decreases-pairs : goal.decreases-pairs
decreases-pairs l = length l.s.now
