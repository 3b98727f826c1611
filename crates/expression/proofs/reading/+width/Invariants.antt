-- `reading::width` ends. The measure is the slice's length, which falls with each operand. Assumes nothing.
use lib.ListN.{length}
use Rattle.expression.proofs.reading.+width.Given as goal

abbrev pub decreases-width : goal.decreases-width
decreases-width l = length l.s.now
