-- `naming::count_links` meets its contract. Assumes nothing.
use native.Mathlib.Omega.{arith}
use Rattle.rules.specs.Expressions.{read_expr}
use Rattle.expression.proofs.naming.count_links.Goals as goal

pub returns : goal.returns
unfolding read_expr
returns c = record {
  few = omega (arith, c.tally.ensures.few, c.tally.ensures.counted.within);
  by_index = λ f l e k h. ((c.tally.ensures.counted.mentioned f l).tree 32 32 e k h).0;
}
