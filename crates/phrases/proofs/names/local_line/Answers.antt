use mathlib.Core.Path.{ap, ◌∙◌, subst}
use native.Mathlib.Omega.{arith}
use lib.ListN.{drop}
use Rattle.std.specs.Prelude.{Err}
use Rattle.std.proofs.lemmas.Result.{err_from_is_err_and}
use Rattle.leaves.specs.Answering.{Valued}
use mathlib.Core.Option.{none}
use Prim.Native.Nat.{◌+◌}
use lib.Dec.{eqb}
use Rattle.rules.specs.Programs.{label}
use Rattle.grammar.specs.Going.{fixed}
use Rattle.plans.specs.Plans.{done, fork}
use Rattle.plans.specs.Lines.{local_plan}
use Rattle.leaves.proofs.Leafs.{valued_after, valued_takes}
use Rattle.laying.proofs.Speaking.{name_spoken, name_wrong}
use Rattle.phrases.proofs.names.local_line.Goals as goal

pub after-requires : goal.after-requires
after-requires c = omega (arith, valued_takes _ _ _ c.fixed.result c.fixed.ensures)

pub after_local-requires : goal.after_local-requires
after_local-requires c =
    let a = c.args in
    let s = a.s.now in
    let w = valued_after a.k s (λ t. fixed 32767 5 0 t) 32767 c.fixed.result c.after.result c.requires.0 c.fixed.ensures c.after.ensures in
    let y = subst (λ x. Valued s (fixed 32767 5 0 (drop a.k s)) 32767 x) c.in_ok-n.was w in
    (y.1, c.requires.1, y.2)

pub returns : goal.returns
unfolding local_plan
returns c =
    let a = c.args in
    let s = a.s.now in
    let w = valued_after a.k s (λ t. fixed 32767 5 0 t) 32767 c.fixed.result c.after.result c.requires.0 c.fixed.ensures c.after.ensures in
    name_spoken (λ n. fork none (λ c. eqb c 58) (λ c. done (label (0x8000 + n)))) s a.k c.after_local.new.out c.after.result w c.in_ok-n.n
    c.in_ok-n.v c.after_local.result c.in_ok-n.was c.after_local.ensures

pub returns-in_err-n : goal.returns-in_err-n
unfolding local_plan
returns-in_err-n c =
    let a = c.args in
    let s = a.s.now in
    let p = err_from_is_err_and c.from_residual.result c.from_residual.ensures.1 in
    let w = valued_after a.k s (λ t. fixed 32767 5 0 t) 32767 c.fixed.result c.after.result c.requires.0 c.fixed.ensures c.after.ensures in
    name_wrong (λ n. fork none (λ c. eqb c 58) (λ c. done (label (0x8000 + n)))) s a.k a.out.now c.after.result w
    c.in_err-n.field-0.0 c.in_err-n.was c.from_residual.result (p.1 ∙ ap Err p.2)
