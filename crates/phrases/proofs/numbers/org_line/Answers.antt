use Rattle.std.specs.Prelude.{Err}
use Rattle.std.proofs.lemmas.Result.{err_from_is_err_and}
use mathlib.Core.Path.{sym, ap, ◌∙◌, subst}
use Rattle.plans.specs.Lines.{org_plan}
use Rattle.laying.specs.Speaking.{Spoken}
use Rattle.phrases.proofs.Counting.{org_ends, org_wrong}
use Rattle.phrases.proofs.numbers.org_line.Goals as goal

-- src/numbers.rt:22:1
pub returns : goal.returns
returns c =
    let a = c.args in
    let s = a.s.now in
    subst (λ r. Spoken org_plan s a.k c.put_head-at.new.out r) (sym c.ended.ensures)
    (org_ends s a.k c.put_head-at.new.out c.number.result c.in_ok-n.n c.in_ok-n.v c.put_head-at.result c.in_ok-n.was c.number.ensures
    c.put_head-at.ensures)

-- src/numbers.rt:22:1
pub returns-in_err-n : goal.returns-in_err-n
returns-in_err-n c =
    let a = c.args in
    let s = a.s.now in
    let p = err_from_is_err_and c.from_residual.result c.from_residual.ensures.1 in
    subst (λ r. Spoken org_plan s a.k a.out.now r) (sym (p.1 ∙ ap Err p.2))
    (org_wrong s a.k a.out.now c.number.result c.in_err-n.field-0.0 c.in_err-n.was c.number.ensures)
