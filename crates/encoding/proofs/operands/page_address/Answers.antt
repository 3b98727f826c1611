-- `encoding::operands::page_address` meets its contract. Assumes nothing.
use mathlib.Core.Path.{◌≡◌, ◌∙◌, sym, ap}
use lib.IntN.{ℤ}
use mir.Facts.{to_z-of_z}
use borrow.Author.Tests.{eq-eqb, ne_eqb}
use Rattle.std.specs.Prelude.{Err, Ok}
use Rattle.std.proofs.lemmas.Result.{err_from_is_err_and}
use Rattle.rules.specs.declared.Refusal.TheVariants.{Range, Page}
use Rattle.rules.specs.Values.{nat}
use Rattle.rules.specs.Encoding.{page}
use Rattle.encoding.proofs.Ranges.{S, is_number, no_number}
use Rattle.encoding.proofs.Fields.{a12_in, a12_page, a12_out}
use Rattle.encoding.proofs.operands.page_address.Goals as goal

pub returns-in_err-a : goal.returns-in_err-a
returns-in_err-a c =
    let x = c.args in
    let p = err_from_is_err_and c.from_residual.result c.from_residual.ensures.1 in
    let none = no_number 65536 (Range x.i x.j) c.ranges.v c.number.ensures (sym c.ok_or.ensures.value ∙ c.in_err-a.was) in
    p.1 ∙ ap Err (p.2 ∙ none.1) ∙ a12_out x.i.0 x.j x.n.0 x.v none.0

pub returns-then-page_of : goal.returns-then-page_of
returns-then-page_of c =
    let x = c.args in
    let number = is_number 65536 c.in_ok-a.a (Range x.i x.j (S x.v)) c.ranges.v c.number.ensures (sym c.ok_or.ensures.value ∙ c.in_ok-a.was) in
    let a : c.in_ok-a.a ≡ nat x.v = ap nat number.1 in
    ap Ok a
    ∙ a12_in x.i.0 x.j x.n.0 x.v number.0
    (eq-eqb (page (nat x.v)) (page x.n.0) (sym (c.page_of.ensures ∙ ap page (c.from.ensures ∙ a)) ∙ c.if-page_of.true ∙ c.page_of-2.ensures))

pub returns-else-page_of : goal.returns-else-page_of
returns-else-page_of c =
    let x = c.args in
    let number = is_number 65536 c.in_ok-a.a (Range x.i x.j (S x.v)) c.ranges.v c.number.ensures (sym c.ok_or.ensures.value ∙ c.in_ok-a.was) in
    let a : c.in_ok-a.a ≡ nat x.v = ap nat number.1 in
    ap (λ (z : ℤ). Err (Page x.i x.j z)) (to_z-of_z c.ranges.v)
    ∙ a12_page x.i.0 x.j x.n.0 x.v number.0
    (ne_eqb (page (nat x.v)) (page x.n.0) (λ e. c.if-page_of.false (c.page_of.ensures ∙ ap page (c.from.ensures ∙ a) ∙ e ∙ sym c.page_of-2.ensures)))
