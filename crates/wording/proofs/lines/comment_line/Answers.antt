-- `lines::comment_line` meets its contract.
use mathlib.Core.Path.{ap, sym}
use mathlib.Core.List.{◌++◌}
use Rattle.rules.specs.Patterns.{codes}
use Rattle.text.specs.Text.{line_text}
use Rattle.text.specs.Words.{dot_word}
use Rattle.terms.proofs.Writes.{wrote_then, same_text}
use Rattle.wording.proofs.Datas.{no_comment, some_comment}
use Rattle.wording.proofs.lines.comment_line.Goals as goal

pub returns-then-frame-lt2 : goal.returns-then-frame-lt2
unfolding line_text dot_word
returns-then-frame-lt2 c =
    let s = c.args.frame.now in
    same_text (ap (λ t. codes ".comment" ++ t) (sym (no_comment s c.if-frame-lt2.true))) c.put_dot_word-a.ensures

pub returns : goal.returns
unfolding line_text dot_word
returns c =
    let s = c.args.frame.now in
    wrote_then c.put_dot_word-a.ensures (same_text (some_comment s c.if-frame-lt2.false) (wrote_then c.put-b.ensures c.pairs.ensures))
