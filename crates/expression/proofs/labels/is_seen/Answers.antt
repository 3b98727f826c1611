-- `labels::is_seen` meets its contract. Assumes nothing.
use mathlib.Core.Path.{sym, ◌∙◌}
use native.Mathlib.Omega.{arith}
use Rattle.expression.proofs.Keys.{seen_here, seen_below, seen_end}
use Rattle.expression.proofs.labels.is_seen.Goals as goal

pub returns-then-defines : goal.returns-then-defines
returns-then-defines c =
    let a = c.args in
    sym
    (c.loop-i.invariant.1
    ∙ seen_here a.names.now a.contexts.now a.context a.name c.loop-i.i (omega arith) (sym c.defines.ensures ∙ c.if-defines.true))

pub loop-i-preserved : goal.loop-i-preserved
loop-i-preserved c =
    let a = c.args in (
      omega arith,
      c.loop-i.invariant.1
          ∙ seen_below a.names.now a.contexts.now a.context a.name c.loop-i.i (omega arith) (sym c.defines.ensures ∙ c.if-defines.false),
    )

pub returns : goal.returns
returns c =
    let a = c.args in
    sym (c.loop-i.invariant.1 ∙ seen_end a.names.now a.contexts.now a.context a.name c.loop-i.i (omega arith))
