-- `lines::variable_line` meets its contract.
use mathlib.Core.Path.{ap}
use mathlib.Core.Bool.{false}
use Rattle.rules.specs.Expressions.{read_expr}
use Rattle.text.specs.Text.{name_text, line_text}
use Rattle.terms.proofs.Writes.{wrote_then, same_text}
use Rattle.terms.proofs.Tolds.{told_rest}
use Rattle.wording.proofs.lines.variable_line.Goals as goal

pub returns : goal.returns
unfolding line_text read_expr
returns c =
    let s = c.args.frame.now in
    λ e k g.
    wrote_then (same_text (ap name_text c.pair-n.ensures.0) c.put_name-a.ensures)
    (wrote_then c.put-b.ensures ((told_rest false s 3 c.term-x.ensures).tree 32 32 e k g).0)
