-- `encoding::operands::rel16` meets its contract. Assumes nothing.
use mathlib.Core.Path.{◌∙◌, sym, ap}
use Prim.Native.Nat.{ℕ, ◌+◌, ◌-◌, ◌%◌}
use Rattle.std.specs.Prelude.{Err, Ok}
use Rattle.std.proofs.lemmas.Result.{err_from_is_err_and}
use Rattle.rules.specs.declared.Refusal.TheVariants.{Outside}
use Rattle.rules.specs.Values.{nat}
use Rattle.encoding.proofs.Ranges.{S, is_number, no_number}
use Rattle.encoding.proofs.Fields.{rel16_in, rel16_outside}
use Rattle.encoding.proofs.operands.rel16.Goals as goal

pub returns-in_err-a : goal.returns-in_err-a
returns-in_err-a c =
    let x = c.args in
    let p = err_from_is_err_and c.from_residual.result c.from_residual.ensures.1 in
    let none = no_number 65536 (Outside x.i x.j) c.ranges.v c.number.ensures (sym c.ok_or.ensures.value ∙ c.in_err-a.was) in
    p.1 ∙ ap Err (p.2 ∙ none.1) ∙ rel16_outside x.i.0 x.j x.n.0 x.v none.0

pub returns : goal.returns
returns c =
    let x = c.args in
    let number = is_number 65536 c.in_ok-a.a (Outside x.i x.j (S x.v)) c.ranges.v c.number.ensures (sym c.ok_or.ensures.value ∙ c.in_ok-a.was) in
    ap (λ (a : ℕ). Ok ((a + 65537 - x.n.0) % 65536)) (c.from.ensures ∙ ap nat number.1) ∙ rel16_in x.i.0 x.j x.n.0 x.v number.0
