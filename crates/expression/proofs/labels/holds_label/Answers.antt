-- `labels::holds_label` meets its contract. Assumes nothing.
use mathlib.Core.Path.{ap}
use lib.Dec.{ltb}
use Rattle.rules.specs.Expressions.{read_expr}
use Rattle.rules.specs.Rewriting.{holds_label}
use Rattle.expression.proofs.labels.holds_label.Goals as goal

pub returns : goal.returns
unfolding read_expr holds_label
returns c e n h = ap (ltb 0) (c.count_seen.ensures.along.tree 32 32 e n h).0
