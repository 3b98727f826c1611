-- `lines::pad_line` meets its contract.
use mathlib.Core.Path.{ap, ◌∙◌}
use native.Mathlib.Omega.{arith}
use Rattle.laws.proofs.Stores.{rest_is}
use Rattle.rules.specs.Statements.{pair_at}
use Rattle.text.specs.Text.{decimal, line_text}
use Rattle.text.specs.Words.{dot_word}
use Rattle.terms.proofs.Writes.{wrote_then, same_text}
use Rattle.wording.proofs.Datas.{pair_behind}
use Rattle.wording.proofs.lines.pad_line.Goals as goal

pub put-d-requires : goal.put-d-requires
put-d-requires c =
    let w = c.digits-c.ensures 9 (omega arith) in
    (w.size, w.within)

pub returns : goal.returns
unfolding line_text dot_word
returns c =
    let s = c.args.frame.now in
    wrote_then c.put_dot_word-a.ensures
    (wrote_then c.put-b.ensures
    (wrote_then (same_text (ap decimal c.from-add.ensures) (c.digits-c.ensures 9 (omega arith)))
    (wrote_then c.put-d.ensures
    (same_text (ap decimal (c.pair-m.ensures.0 ∙ ap (λ y. pair_at y 1) (rest_is 1 s) ∙ pair_behind s))
    (c.digits.ensures 9 (omega (arith, c.pair-m.ensures.1)))))))
