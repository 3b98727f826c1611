use mathlib.Core.Path.{sym, ap, ◌∙◌, subst}
use Rattle.std.specs.Prelude.{Err}
use Rattle.std.proofs.lemmas.Result.{err_from_is_err_and}
use Rattle.rules.specs.Programs.{pad}
use Rattle.plans.specs.Plans.{finish}
use Rattle.plans.specs.Finals.{multiples}
use Rattle.laying.specs.Speaking.{Spoken}
use native.Mathlib.Omega.{arith}
use Rattle.phrases.proofs.Counting.{multiple_not, multiple_more, multiple_zero, multiple_ends}
use Rattle.phrases.proofs.numbers.multiple_line.Goals as goal
use Rattle.phrases.proofs.numbers.multiple_line.Goals.{then-n-s-via-then-n-s, then-n-s-via-else-n-s+then-v-eq0}

pub returns-then-n-s : goal.returns-then-n-s
returns-then-n-s c =
    let a = c.args in
    let s = a.s.now in
    elim c.then-n-s.branch [
      | then-n-s-via-then-n-s w ↦ multiple_more a.add s a.k a.out.now c.number.result c.number.ensures c.in_ok-n.n c.in_ok-n.v c.in_ok-n.was w.if-n-s.true
      | then-n-s-via-else-n-s+then-v-eq0 w ↦
          multiple_zero a.add s a.k a.out.now c.number.result c.number.ensures c.in_ok-n.n c.in_ok-n.v c.in_ok-n.was w.if-n-s.false (omega arith)
    ]

-- src/numbers.rt:47:1
pub returns : goal.returns
returns c =
    let a = c.args in
    let s = a.s.now in
    multiple_ends a.add s a.k c.put_pad.new.out c.number.result c.number.ensures c.in_ok-n.n c.in_ok-n.v c.in_ok-n.was c.put_pad.result
    c.if-n-s.false (omega arith) c.put_pad.ensures

-- src/numbers.rt:47:1
pub returns-in_err-n : goal.returns-in_err-n
returns-in_err-n c =
    let a = c.args in
    let s = a.s.now in
    let p = err_from_is_err_and c.from_residual.result c.from_residual.ensures.1 in
    subst (λ r. Spoken (finish (multiples 256 (pad a.add))) s a.k a.out.now r) (sym (p.1 ∙ ap Err p.2))
    (multiple_not a.add s a.k a.out.now c.number.result c.number.ensures c.in_err-n.field-0.0 c.in_err-n.was)
