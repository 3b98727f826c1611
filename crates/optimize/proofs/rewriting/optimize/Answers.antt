-- `optimize::rewriting::optimize` meets its contract. The loop's invariant: the rewrites that were counted led to the program at hand. The
-- measure
-- is the bytes of its instructions.
use mathlib.Core.Path.{◌∙◌}
use native.Mathlib.Omega.{arith}
use Rattle.slots.specs.State.{table_of}
use Rattle.optimize.proofs.Ends.{few_bytes, went, stopped}
use Rattle.optimize.proofs.rewriting.optimize.Goals as goal

pub overflow_add-rewrites : goal.overflow_add-rewrites
overflow_add-rewrites c =
    omega (arith, c.loop-asked.invariant.2.few, few_bytes (table_of c.args.frames.now c.args.state.now c.args.count) c.requires.0)

pub loop-asked-smaller : goal.loop-asked-smaller
loop-asked-smaller c =
    (went (table_of c.args.frames.now c.args.state.now c.args.count) _ _ c.loop-asked.rewrites c.loop-asked.invariant.2 c.rewrite.ensures c.loop-asked-test.true).less

pub loop-asked-preserved : goal.loop-asked-preserved
loop-asked-preserved c = (
  c.rewrite.ensures.stands,
  c.rewrite.ensures.starts_kept ∙ c.loop-asked.invariant.1,
  (went (table_of c.args.frames.now c.args.state.now c.args.count) _ _ c.loop-asked.rewrites c.loop-asked.invariant.2 c.rewrite.ensures c.loop-asked-test.true).led,
)

pub returns : goal.returns
returns c =
    stopped (table_of c.args.frames.now c.args.state.now c.args.count) _ _ c.loop-asked.rewrites c.loop-asked.invariant.2 c.rewrite.ensures c.requires.0 c.loop-asked-test.false
    c.loop-asked.invariant.1
