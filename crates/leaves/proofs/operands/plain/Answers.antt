-- `operands::plain` meets its contract.
use mathlib.Core.Path.{ap, ◌∙◌}
use lib.IntN.{pos}
use Rattle.std.specs.Prelude.{Err}
use Rattle.std.proofs.lemmas.Result.{err_from_is_err_and}
use Rattle.rules.specs.Expressions.{num, bytes_of}
use Rattle.grammar.specs.Going.{digits}
use Rattle.leaves.proofs.Leafs.{plain_starts, leaf_ends, leaf_stuck}
use Rattle.leaves.proofs.operands.plain.Goals as goal

pub returns : goal.returns
unfolding bytes_of
returns c =
    let a = c.args in
    leaf_ends a.s.now a.out.now c.put_number.new.out a.at (λ v. num (pos v)) (digits 2147483647 0 a.s.now) 2147483647
    (plain_starts a.s.now c.requires.2) c.digits.result c.digits.ensures c.in_ok-n.n c.in_ok-n.v c.put_number.result c.in_ok-n.was
    c.put_number.ensures

pub returns-in_err-n : goal.returns-in_err-n
returns-in_err-n c =
    let a = c.args in
    let p = err_from_is_err_and c.from_residual.result c.from_residual.ensures.1 in
    leaf_stuck a.s.now a.out.now a.out.now a.at (λ v. num (pos v)) (digits 2147483647 0 a.s.now) 2147483647
    (plain_starts a.s.now c.requires.2) c.digits.result c.digits.ensures c.in_err-n.field-0.0 c.in_err-n.was c.from_residual.result
    (p.1 ∙ ap Err p.2)
