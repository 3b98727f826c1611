use Rattle.std.specs.Prelude.{Err}
use Rattle.std.proofs.lemmas.Result.{err_from_is_err_and}
use Rattle.rules.specs.Programs.{pad}
use Rattle.plans.specs.Lines.{align_plan}
use Rattle.laying.specs.Speaking.{Spoken}
use mathlib.Core.Path.{sym, ap, ◌∙◌, subst}
use Rattle.grammar.specs.Reading.{look}
use Rattle.leaves.proofs.Leafs.{rest_is}
use Rattle.phrases.proofs.Counting.{align_not, align_comma, align_wrong}
use Rattle.phrases.proofs.numbers.align_line.Goals as goal

-- src/numbers.rt:72:17
pub returns-then-look-eq44 : goal.returns-then-look-eq44
returns-then-look-eq44 c =
    let a = c.args in
    let s = a.s.now in
    let e = c.look.ensures ∙ ap look (rest_is c.in_ok-n.n s) in
    align_comma s a.k c.multiple_line.new.out c.number.result c.number.ensures c.in_ok-n.n c.in_ok-n.v c.in_ok-n.was c.multiple_line.result (sym e
    ∙ c.if-look-eq44.true) c.multiple_line.ensures

-- src/numbers.rt:65:1
pub returns : goal.returns
returns c =
    let a = c.args in
    let s = a.s.now in
    let e = c.look.ensures ∙ ap look (rest_is c.in_ok-n.n s) in
    align_wrong s a.k a.out.now c.number.result c.number.ensures c.in_ok-n.n c.in_ok-n.v c.in_ok-n.was (λ z. c.if-look-eq44.false (e ∙ z))

-- src/numbers.rt:65:1
pub returns-in_err-n : goal.returns-in_err-n
returns-in_err-n c =
    let a = c.args in
    let s = a.s.now in
    let p = err_from_is_err_and c.from_residual.result c.from_residual.ensures.1 in
    subst (λ r. Spoken (align_plan pad) s a.k a.out.now r) (sym (p.1 ∙ ap Err p.2))
    (align_not s a.k a.out.now c.number.result c.number.ensures c.in_err-n.field-0.0 c.in_err-n.was)
