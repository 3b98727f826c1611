-- `worth::linked_worth` meets its contract. Assumes nothing.
use Rattle.rules.specs.Expressions.{read_expr}
use Rattle.expression.proofs.worth.linked_worth.Goals as goal

pub returns : goal.returns
unfolding read_expr
returns c env l e n h = ((c.eval_linked.ensures.worth env l).tree 32 32 e n h).0
