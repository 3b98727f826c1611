use Rattle.std.specs.Prelude.{Err}
use Rattle.std.proofs.lemmas.Result.{err_from_is_err_and}
use mathlib.Core.Path.{sym, ap, ◌∙◌, subst}
use Rattle.rules.specs.Programs.{variable}
use Rattle.plans.specs.Plans.{done, expression}
use Rattle.laying.specs.Speaking.{Spoken}
use Rattle.phrases.proofs.Named.{value_ends, value_wrong}
use Rattle.phrases.proofs.names.bound.Goals as goal

-- src/names.rt:25:1
pub returns : goal.returns
returns c = λ m z.
    let a = c.args in
    subst (λ r. Spoken (expression (λ e. done (variable m e))) a.s.now a.k c.term.new.out r) (sym c.ended.ensures)
    (value_ends a.s.now a.k a.out.now c.term.new.out a.at c.term.result c.in_ok-n.n c.in_ok-n.to m c.in_ok-n.was c.term.ensures z)

-- src/names.rt:25:1
pub returns-in_err-n : goal.returns-in_err-n
returns-in_err-n c = λ m z.
    let a = c.args in
    let p = err_from_is_err_and c.from_residual.result c.from_residual.ensures.1 in
    subst (λ r. Spoken (expression (λ e. done (variable m e))) a.s.now a.k c.term.new.out r) (sym (p.1 ∙ ap Err p.2))
    (value_wrong a.s.now a.k a.out.now c.term.new.out a.at c.term.result c.in_err-n.field-0.0 m c.in_err-n.was c.term.ensures)
