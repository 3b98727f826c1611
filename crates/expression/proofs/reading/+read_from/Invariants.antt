-- `reading::read_from` meets its contract. The measure is the slice's length, which falls with each operand. Assumes nothing.
use lib.ListN.{length}
use Rattle.expression.proofs.reading.+read_from.Given as goal

abbrev pub decreases-read_from : goal.decreases-read_from
decreases-read_from l = length l.s.now
