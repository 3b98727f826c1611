-- `labels::count_seen` meets its contract. The measure is the slice's length, which falls with each operand. Assumes nothing.
use lib.ListN.{length}
use Rattle.expression.proofs.labels.+count_seen.Given as goal

abbrev pub decreases-count_seen : goal.decreases-count_seen
decreases-count_seen l = length l.s.now
