use mathlib.Core.List.{[]}
use Rattle.std.specs.Prelude.{Err}
use Rattle.std.proofs.lemmas.Result.{err_from_is_err_and}
use Rattle.plans.specs.Families.{args_plan, family_of}
use Rattle.laying.specs.Speaking.{Spoken}
use mathlib.Core.Path.{sym, ap, ◌∙◌, subst}
use Rattle.grammar.specs.Reading.{look}
use Rattle.leaves.proofs.Leafs.{rest_is}
use Rattle.laying.proofs.Speaking.{byte_there}
use Rattle.arguing.proofs.Together.{none_yet, arg_wrong, arg_size, arg_to, arg_last, arg_other, arg_next}
use Rattle.arguing.proofs.arguments.Goals as goal

pub loop-j-init : goal.loop-j-init
loop-j-init c =
    let a = c.args in (
      c.put-at.ensures.size,
      (
        c.put-at.ensures.within,
        (
          c.requires.0,
          none_yet a.form a.s.now a.k a.out.now c.put-a.new.out c.put-at.new.out c.put-a.result c.put-at.result c.requires.1 c.requires.2
              c.put-a.ensures c.put-at.ensures,
        ),
      ),
    )

pub returns-then-operand_count-j : goal.returns-then-operand_count-j
returns-then-operand_count-j c =
    let a = c.args in
    let s = a.s.now in
    let v = c.loop-j.invariant in
    arg_last a.form s a.k c.loop-j.out c.argument.new.out c.loop-j.at c.loop-j.i c.loop-j.f c.loop-j.j v.1.1.1 c.argument.result
    c.argument.ensures c.in_ok-g.g c.in_ok-g.n c.in_ok-g.to c.in_ok-g.was c.form_end.new.out c.form_end.result
    (sym c.operand_count.ensures ∙ c.if-operand_count-j.true) c.form_end.ensures

pub returns-then-look-ne44 : goal.returns-then-look-ne44
returns-then-look-ne44 c =
    let a = c.args in
    let s = a.s.now in
    let v = c.loop-j.invariant in
    let e = c.look.ensures ∙ ap look (rest_is c.in_ok-g.n s) in
    arg_other a.form s a.k c.loop-j.out c.argument.new.out c.loop-j.at c.loop-j.i c.loop-j.f c.loop-j.j v.1.1.1 c.argument.result
    c.argument.ensures c.in_ok-g.g c.in_ok-g.n c.in_ok-g.to c.in_ok-g.was (λ z. c.if-operand_count-j.false (c.operand_count.ensures ∙ z))
    (λ z. c.if-look-ne44.true (e ∙ z))

pub returns-in_err-g : goal.returns-in_err-g
returns-in_err-g c =
    let a = c.args in
    let s = a.s.now in
    let v = c.loop-j.invariant in
    let p = err_from_is_err_and c.from_residual.result c.from_residual.ensures.1 in
    subst (λ r. Spoken (args_plan 3 (family_of a.form) []) s a.k c.argument.new.out r) (sym (p.1 ∙ ap Err p.2))
    (arg_wrong a.form s a.k c.loop-j.out c.argument.new.out c.loop-j.at c.loop-j.i c.loop-j.f c.loop-j.j v.1.1.1 c.argument.result
    c.argument.ensures c.in_err-g.field-0.0 c.in_err-g.was)

pub loop-j-preserved : goal.loop-j-preserved
loop-j-preserved c =
    let a = c.args in
    let s = a.s.now in
    let v = c.loop-j.invariant in
    let e = c.look.ensures ∙ ap look (rest_is c.in_ok-g.n s) in
    let d = sym e ∙ c.if-look-ne44.false in (
      arg_size a.form s a.k c.loop-j.out c.argument.new.out c.loop-j.at c.loop-j.i c.loop-j.f c.loop-j.j v.1.1.1 c.argument.result
          c.argument.ensures c.in_ok-g.g c.in_ok-g.n c.in_ok-g.to c.in_ok-g.was,
      (
        arg_to a.form s a.k c.loop-j.out c.argument.new.out c.loop-j.at c.loop-j.i c.loop-j.f c.loop-j.j v.1.1.1 c.argument.result
            c.argument.ensures c.in_ok-g.g c.in_ok-g.n c.in_ok-g.to c.in_ok-g.was,
        (
          byte_there s c.in_ok-g.n 43 d,
          arg_next a.form s a.k c.loop-j.out c.argument.new.out c.loop-j.at c.loop-j.i c.loop-j.f
              c.loop-j.j v.1.1.1 c.argument.result c.argument.ensures c.in_ok-g.g c.in_ok-g.n c.in_ok-g.to c.in_ok-g.was
              (λ z. c.if-operand_count-j.false (c.operand_count.ensures ∙ z)) d,
        ),
      ),
    )
