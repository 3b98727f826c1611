-- `worth::eval_linked` meets its contract. The measure is the slice's length, which falls with each operand. Assumes nothing.
use mathlib.Core.Path.{sym, ◌∙◌}
use Prim.Native.Nat.{ℕ, ◌+◌}
use native.Mathlib.Omega.{arith}
use lib.ListN.{drop}
use Rattle.std.specs.Prelude.{Err}
use Rattle.rules.specs.declared.Unvalued.TheVariants.{Nothing}
use Rattle.rules.specs.Expressions.{with2}
use Rattle.expression.specs.Linked.{Evaluated}
use Rattle.expression.proofs.Links.{rest_evaluated, empty_evaluated, bad_evaluated, number_evaluated, name_evaluated, one_evaluated, two_evaluated}
use Rattle.expression.proofs.worth.+eval_linked.Goals as goal

only : (t : ℕ) (c : goal.After-struct_known-1 t) →
    let a = c.args in
    Evaluated (drop 1 a.s.now) (drop 1 a.links.now) a.values.now a.limit c.eval_linked-a.result.value c.eval_linked-a.result.taken
only t c = let a = c.args in rest_evaluated a.s.now a.links.now a.values.now a.limit 1 _ _ c.eval_linked-a.ensures

first : (t : ℕ) (c : goal.After-struct_known-in-Two-2-1 t) →
    let a = c.args in
    Evaluated (drop 1 a.s.now) (drop 1 a.links.now) a.values.now a.limit c.eval_linked-a-in-Two.result.value
    c.eval_linked-a-in-Two.result.taken
first t c = let a = c.args in rest_evaluated a.s.now a.links.now a.values.now a.limit 1 _ _ c.eval_linked-a-in-Two.ensures

both : (t : ℕ) (c : goal.After-struct_known-in-Two-2-1 t) →
    let a = c.args in
    let x = c.eval_linked-a-in-Two.result in
    let y = c.eval_linked-b.result in
    Evaluated a.s.now a.links.now a.values.now a.limit (with2 c.in-Two.o x.value y.value) (1 + x.taken + y.taken)
both t c =
    let a = c.args in
    two_evaluated a.s.now a.links.now a.values.now a.limit c.in-Two.o (sym c.tag_of.ensures ∙ c.in-Two.is) c.if-s-lt1.false
    _ _ (first t c) _ _ (rest_evaluated a.s.now a.links.now a.values.now a.limit (1 + c.eval_linked-a-in-Two.result.taken) _ _
    c.eval_linked-b.ensures)

pub returns-then-s-lt1 : goal.returns-then-s-lt1
returns-then-s-lt1 t c = rw c.none.ensures (empty_evaluated _ _ _ _ (omega arith) (Err Nothing))

pub returns-in-Number : goal.returns-in-Number
returns-in-Number t c = rw c.number.ensures (number_evaluated _ _ _ _ (sym c.tag_of.ensures ∙ c.in-Number.is))

pub returns-in-Name : goal.returns-in-Name
returns-in-Name t c = rw c.linked.ensures (name_evaluated _ _ _ _ (sym c.tag_of.ensures ∙ c.in-Name.is))

pub returns-in-One : goal.returns-in-One
returns-in-One t c =
    rw c.with_one-value.ensures (one_evaluated _ _ _ _ c.in-One.o (sym c.tag_of.ensures ∙ c.in-One.is) c.if-s-lt1.false _ _ (only t c))

pub returns-in-Two : goal.returns-in-Two
returns-in-Two t c = rw c.with_two-value.ensures (both t c)

pub returns-in-Bad : goal.returns-in-Bad
returns-in-Bad t c = rw c.none-in-Bad.ensures (bad_evaluated _ _ _ _ (sym c.tag_of.ensures ∙ c.in-Bad.is) (Err Nothing))
