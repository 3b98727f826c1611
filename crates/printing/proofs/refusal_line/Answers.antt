-- `printing::refusal_line` meets its contract.
use mathlib.Core.Path.{refl, sym, ◌∙◌, ap}
use lib.ListN.{length, replicate}
use lib.IntN.{ℤ}
use mir.Syntax.{w32}
use mir.Val.{SFits}
use mir.Facts.{to_z-of_z}
use borrow.Author.Rules.{rules}
use Rattle.rules.specs.Refusals.{Fault}
use Rattle.rules.specs.Output.{refused_line}
use Rattle.rules.specs.Run.{front}
use Rattle.fault.proofs.Told.{fault_given}
use Rattle.printing.specs.Page.{low_bytes}
use Rattle.printing.proofs.Lines.{length_refused, line_fills}
use Rattle.printing.proofs.refusal_line.Goals as goal

pub returns : goal.returns
returns c =
    let g = c.fault_of-f.result in
    let fit : SFits w32 g.amount = search rules in
    let line =
    c.refused_line.ensures
    ∙ ap (λ (v : ℤ). front (refused_line (low_bytes (record { number = g.number; place = g.place; argument = g.argument; amount = v }))) (replicate 19 0)) (to_z-of_z fit)
    ∙ line_fills _ (replicate 19 0) refl
    ∙ ap (λ (x : Fault). refused_line (low_bytes x)) (fault_given g _ c.fault_of-f.ensures) in
    (line, sym (ap length line ∙ length_refused _))
