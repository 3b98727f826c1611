-- `operands::minus` meets its contract.
use mathlib.Core.Path.{ap, ◌∙◌, subst}
use mathlib.Core.List.{◌∷◌}
use native.Mathlib.Omega.{arith}
use lib.IntN.{pos, neg_ℤ}
use lib.ListN.{drop}
use Rattle.std.specs.Prelude.{Err}
use Rattle.std.proofs.lemmas.Result.{err_from_is_err_and}
use Rattle.rules.specs.Expressions.{num, bytes_of, four}
use Rattle.grammar.specs.Going.{digits}
use Rattle.leaves.specs.Answering.{Put}
use Rattle.leaves.proofs.Leafs.{minus_starts, leaf_ends, leaf_stuck, some_byte, valued_after, valued_takes}
use Rattle.leaves.proofs.operands.minus.Goals as goal

pub after-requires : goal.after-requires
after-requires c = omega (arith, valued_takes _ _ _ c.digits.result c.digits.ensures)

pub returns : goal.returns
unfolding bytes_of
returns c =
    let a = c.args in
    let s = a.s.now in
    leaf_ends s a.out.now c.put_number.new.out a.at (λ v. num (neg_ℤ (pos v))) (digits 2147483648 0 (drop 1 s)) 2147483648
    (minus_starts s c.requires.2 c.requires.3) c.after.result
    (valued_after 1 s (λ t. digits 2147483648 0 t) 2147483648 c.digits.result c.after.result (some_byte s 44 c.requires.2) c.digits.ensures
    c.after.ensures)
    c.in_ok-n.n c.in_ok-n.v c.put_number.result c.in_ok-n.was
    (subst (λ x. Put a.out.now c.put_number.new.out a.at (0 ∷ four x) c.put_number.result) c.negative.ensures c.put_number.ensures)

pub returns-in_err-n : goal.returns-in_err-n
returns-in_err-n c =
    let a = c.args in
    let s = a.s.now in
    let p = err_from_is_err_and c.from_residual.result c.from_residual.ensures.1 in
    leaf_stuck s a.out.now a.out.now a.at (λ v. num (neg_ℤ (pos v))) (digits 2147483648 0 (drop 1 s)) 2147483648
    (minus_starts s c.requires.2 c.requires.3) c.after.result
    (valued_after 1 s (λ t. digits 2147483648 0 t) 2147483648 c.digits.result c.after.result (some_byte s 44 c.requires.2) c.digits.ensures
    c.after.ensures)
    c.in_err-n.field-0.0 c.in_err-n.was c.from_residual.result (p.1 ∙ ap Err p.2)
