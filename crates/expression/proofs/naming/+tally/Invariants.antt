-- `naming::tally` meets its contract. The measure is the slice's length, which falls with each operand. Assumes nothing.
use lib.ListN.{length}
use Rattle.expression.proofs.naming.+tally.Given as goal

abbrev pub decreases-tally : goal.decreases-tally
decreases-tally l = length l.s.now
