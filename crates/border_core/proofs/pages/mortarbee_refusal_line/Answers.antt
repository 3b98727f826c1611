-- `border_core::pages::mortarbee_refusal_line` meets its contract, on every input.
use mathlib.Core.Path.{◌≡◌, ◌∙◌, ap}
use lib.ListN.{length}
use lib.IntN.{ℤ}
use mir.Syntax.{w32}
use mir.Val.{SFits}
use mir.Facts.{to_z-of_z}
use borrow.Author.Rules.{rules}
use Rattle.rules.specs.Output.{refused_line}
use Rattle.rules.specs.Run.{front}
use Rattle.printing.proofs.Lines.{line_fills}
use Rattle.border_core.proofs.pages.mortarbee_refusal_line.Goals as goal

pub returns : goal.returns
returns c =
    let n : length c.args.line.now ≡ 19 = search rules in
    let fit : SFits w32 c.args.amount = search rules in
    c.refused_line.ensures
    ∙ ap (λ (v : ℤ). front (refused_line (record { number = c.args.number; place = c.args.place; argument = c.args.argument; amount = v })) c.args.line.now) (to_z-of_z fit)
    ∙ line_fills _ _ n
