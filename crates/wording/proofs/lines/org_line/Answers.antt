-- `lines::org_line` meets its contract.
use mathlib.Core.Path.{ap}
use native.Mathlib.Omega.{arith}
use Rattle.text.specs.Text.{decimal, line_text}
use Rattle.text.specs.Words.{dot_word}
use Rattle.terms.proofs.Writes.{wrote_then, same_text}
use Rattle.wording.proofs.lines.org_line.Goals as goal

pub returns : goal.returns
unfolding line_text dot_word
returns c =
    let p = c.pair-n.ensures in
    wrote_then c.put_dot_word-a.ensures
    (wrote_then c.put-b.ensures (same_text (ap decimal p.0) (c.digits.ensures 9 (omega (arith, p.1)))))
