-- `standing::take_turn` meets its contract: the first line, taken out of the text. Assumes nothing.
use mathlib.Core.Path.{ap, subst, ◌∙◌}
use lib.ListN.{length}
use Rattle.rules.specs.Listing.{Line}
use Rattle.listing.specs.Form.{form_of}
use Rattle.lines.specs.Alone.{by_itself, standing}
use Rattle.lines.specs.Turns.{Numbered}
use Rattle.lines.proofs.Feeds.{taken_at}
use Rattle.lines.proofs.standing.take_turn.Goals as goal

pub judge-number-requires : goal.judge-number-requires
judge-number-requires c =
    (taken_at c.args.text.now c.line_end-end.result c.line_end-end.ensures.0 c.requires).0

pub stands_length-length-requires : goal.stands_length-length-requires
stands_length-length-requires c =
    ((taken_at c.args.text.now c.line_end-end.result c.line_end-end.ensures.0 c.requires).0, c.judge-number.ensures)

pub returns : goal.returns
returns c =
    let e = c.line_end-end in
    let w = form_of c.args.marked in
    let same = (taken_at c.args.text.now e.result e.ensures.0 c.requires).1 in
    record {
      ends = e.ensures.0;
      number_is = subst (λ (l : Line). Numbered (by_itself w l) c.judge-number.result) same c.judge-number.ensures;
      length_is = c.stands_length-length.ensures.0 ∙ ap (λ (l : Line). length (standing w l)) same;
      short = c.stands_length-length.ensures.1;
    }
