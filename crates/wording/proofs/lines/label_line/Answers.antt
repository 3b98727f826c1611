-- `lines::label_line` meets its contract.
use mathlib.Core.Path.{ap}
use Rattle.text.specs.Text.{name_text, line_text}
use Rattle.terms.proofs.Writes.{wrote_then, same_text}
use Rattle.wording.proofs.lines.label_line.Goals as goal

pub returns : goal.returns
unfolding line_text
returns c =
    wrote_then (same_text (ap name_text c.pair-n.ensures.0) c.put_name-a.ensures) c.put.ensures
