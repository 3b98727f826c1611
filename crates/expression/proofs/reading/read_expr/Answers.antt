-- `reading::read_expr` meets its contract. Assumes nothing.
use lib.Dec.{lit≤}
use Rattle.rules.specs.Expressions.{read_expr}
use Rattle.expression.proofs.reading.read_expr.Goals as goal

pub returns : goal.returns
unfolding read_expr
returns c = c.read_from.ensures 32 (lit≤ tt)
