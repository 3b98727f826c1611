-- `term` meets its contract.
use mathlib.Core.Path.{ap, ◌∙◌, subst}
use native.Mathlib.Omega.{arith}
use lib.ListN.{replicate}
use Rattle.std.specs.Prelude.{Err}
use Rattle.std.proofs.lemmas.Result.{err_from_is_err_and}
use Rattle.grammar.specs.Going.{whole}
use Rattle.sums.proofs.Readings.{Reached, reached, took}
use Rattle.laying.proofs.Laying.{term_ends, term_stuck}
use Rattle.laying.proofs.term.Goals as goal

pub after-requires : goal.after-requires
after-requires c =
    let x = c.expression in
    omega (arith, took _ _ _ _ _ x.result x.ensures)

pub returns : goal.returns
returns c =
    let a = c.args in
    let s = a.s.now in
    let x = c.expression in
    let g = reached (whole 5) a.k s (replicate 32 0) x.new.out 0 x.result c.after.result c.requires.0 x.ensures c.after.ensures in
    term_ends s a.k a.out.now c.put_term.new.out a.at (replicate 32 0) x.new.out c.in_ok-n.n c.in_ok-n.end c.put_term.result
    (subst (λ y. Reached (whole 5) a.k s (replicate 32 0) x.new.out 0 y) c.in_ok-n.was g) c.put_term.ensures

pub returns-in_err-n : goal.returns-in_err-n
returns-in_err-n c =
    let a = c.args in
    let s = a.s.now in
    let x = c.expression in
    let g = reached (whole 5) a.k s (replicate 32 0) x.new.out 0 x.result c.after.result c.requires.0 x.ensures c.after.ensures in
    let p = err_from_is_err_and c.from_residual.result c.from_residual.ensures.1 in
    term_stuck s a.k a.out.now a.out.now a.at (replicate 32 0) x.new.out c.in_err-n.field-0.0
    (subst (λ y. Reached (whole 5) a.k s (replicate 32 0) x.new.out 0 y) c.in_err-n.was g) c.from_residual.result (p.1 ∙ ap Err p.2)
