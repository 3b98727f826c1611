-- `operands::global` meets its contract.
use mathlib.Core.Path.{ap, ◌∙◌}
use native.Mathlib.Omega.{arith}
use lib.ListN.{drop}
use Rattle.std.specs.Prelude.{Err}
use Rattle.std.proofs.lemmas.Result.{err_from_is_err_and}
use Rattle.rules.specs.Expressions.{name, bytes_of}
use Rattle.grammar.specs.Going.{fixed}
use Rattle.leaves.proofs.Leafs.{global_starts, leaf_ends, leaf_stuck, some_byte, valued_after, valued_takes}
use Rattle.leaves.proofs.operands.global.Goals as goal

pub after-requires : goal.after-requires
after-requires c = omega (arith, valued_takes _ _ _ c.fixed.result c.fixed.ensures)

pub returns : goal.returns
unfolding bytes_of
returns c =
    let a = c.args in
    let s = a.s.now in
    leaf_ends s a.out.now c.put_name.new.out a.at (λ n. name n) (fixed 32767 5 0 (drop 1 s)) 32767 (global_starts s c.requires.2)
    c.after.result
    (valued_after 1 s (λ t. fixed 32767 5 0 t) 32767 c.fixed.result c.after.result (some_byte s 102 c.requires.2) c.fixed.ensures
    c.after.ensures)
    c.in_ok-n.n c.in_ok-n.v c.put_name.result c.in_ok-n.was c.put_name.ensures

pub returns-in_err-n : goal.returns-in_err-n
returns-in_err-n c =
    let a = c.args in
    let s = a.s.now in
    let p = err_from_is_err_and c.from_residual.result c.from_residual.ensures.1 in
    leaf_stuck s a.out.now a.out.now a.at (λ n. name n) (fixed 32767 5 0 (drop 1 s)) 32767 (global_starts s c.requires.2)
    c.after.result
    (valued_after 1 s (λ t. fixed 32767 5 0 t) 32767 c.fixed.result c.after.result (some_byte s 102 c.requires.2) c.fixed.ensures
    c.after.ensures)
    c.in_err-n.field-0.0 c.in_err-n.was c.from_residual.result (p.1 ∙ ap Err p.2)
