-- `judging::judge_old` meets its contract: the mark is no frame, any other line is a listing of its own. Assumes nothing.
use mathlib.Core.Path.{refl, sym, subst, ◌∙◌}
use native.Mathlib.Omega.{arith}
use Rattle.rules.specs.Answers.{Judged}
use Rattle.rules.specs.Programs.{Program}
use Rattle.lines.specs.Turns.{Numbered}
use Rattle.lines.proofs.ByItself.{read_old, mark_broken}
use Rattle.lines.proofs.judging.judge_old.Goals as goal

pub returns-then-new_form : goal.returns-then-new_form
returns-then-new_form c =
    rw (mark_broken c.args.line.now c.requires (sym c.new_form.ensures.0 ∙ c.if-new_form.true)) (refl, omega arith)

pub returns-else-new_form : goal.returns-else-new_form
returns-else-new_form c =
    subst (λ (j : Judged Program). Numbered j c.number_of.result)
    (read_old c.args.line.now c.requires (sym c.new_form.ensures.0 ∙ c.if-new_form.false)) c.number_of.ensures
