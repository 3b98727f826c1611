-- `worth::eval_linked` meets its contract. The measure is the slice's length, which falls with each operand. Assumes nothing.
use lib.ListN.{length}
use Rattle.expression.proofs.worth.+eval_linked.Given as goal

abbrev pub decreases-eval_linked : goal.decreases-eval_linked
decreases-eval_linked l = length l.s.now
