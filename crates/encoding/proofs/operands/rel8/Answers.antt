-- `encoding::operands::rel8` meets its contract. Assumes nothing.
use mathlib.Core.Path.{◌≡◌, ◌∙◌, sym, ap}
use lib.IntN.{ℤ, pos, ◌-ℤ◌}
use Rattle.std.specs.Prelude.{Err, Ok}
use Rattle.std.proofs.lemmas.Result.{err_from_is_err_and}
use Rattle.rules.specs.declared.Refusal.TheVariants.{Outside, Far}
use Rattle.rules.specs.Values.{mod256, signed_byte}
use Rattle.encoding.proofs.Ranges.{S, distance_is, is_number, no_number}
use Rattle.encoding.proofs.Fields.{rel8_in, rel8_far, rel8_outside}
use Rattle.encoding.proofs.operands.rel8.Goals as goal

pub returns-in_err-a : goal.returns-in_err-a
returns-in_err-a c =
    let x = c.args in
    let p = err_from_is_err_and c.from_residual.result c.from_residual.ensures.1 in
    let none = no_number 65536 (Outside x.i x.j) c.ranges.v c.number.ensures (sym c.ok_or.ensures.value ∙ c.in_err-a.was) in
    p.1 ∙ ap Err (p.2 ∙ none.1) ∙ rel8_outside x.i.0 x.j x.n.0 x.v none.0

pub returns-then-signed_byte : goal.returns-then-signed_byte
returns-then-signed_byte c =
    let x = c.args in
    let number = is_number 65536 c.in_ok-a.a (Outside x.i x.j (S x.v)) c.ranges.v c.number.ensures (sym c.ok_or.ensures.value ∙ c.in_ok-a.was) in
    let d : S c.distance-d.result ≡ x.v -ℤ pos x.n.0 = distance_is x.n.0 c.in_ok-a.a number.0 number.1 c.requires c.distance-d.ensures in
    ap Ok (c.low_byte.ensures ∙ ap mod256 d)
    ∙ rel8_in x.i.0 x.j x.n.0 x.v number.0 (sym (ap signed_byte d) ∙ sym c.signed_byte.ensures ∙ c.if-signed_byte.true)

pub returns-else-signed_byte : goal.returns-else-signed_byte
returns-else-signed_byte c =
    let x = c.args in
    let number = is_number 65536 c.in_ok-a.a (Outside x.i x.j (S x.v)) c.ranges.v c.number.ensures (sym c.ok_or.ensures.value ∙ c.in_ok-a.was) in
    let d : S c.distance-d.result ≡ x.v -ℤ pos x.n.0 = distance_is x.n.0 c.in_ok-a.a number.0 number.1 c.requires c.distance-d.ensures in
    ap (λ (z : ℤ). Err (Far x.i x.j z)) d
    ∙ rel8_far x.i.0 x.j x.n.0 x.v number.0 (sym (ap signed_byte d) ∙ sym c.signed_byte.ensures ∙ c.if-signed_byte.false)
