-- `reading::width` meets its contract: each step takes what the tree's node takes. Assumes nothing.
use mathlib.Core.Path.{refl, sym, ◌∙◌}
use Prim.Native.Nat.{ℕ, ◌+◌}
use native.Mathlib.Omega.{arith}
use Rattle.rules.specs.Expressions.{Expr}
use Rattle.expression.proofs.Alongs.{empty_along, bad_along, number_along, name_along, one_along, two_along, rest_along}
use Rattle.expression.proofs.reading.+width.Goals as goal

-- nothing is said of the tree but how many bytes it took
abbrev none : Expr → ℕ
none e = 0

abbrev zeros : ℕ → ℕ
zeros r = 0

abbrev itself : ℕ → ℕ
itself r = r

pub returns-then-s-lt1 : goal.returns-then-s-lt1
returns-then-s-lt1 t c = empty_along none _ (omega arith) 0

pub returns-in-Number : goal.returns-in-Number
returns-in-Number t c =
    rw c.leaf_width.ensures
    (number_along none c.args.s.now zeros itself 5 0 (sym c.tag_of.ensures ∙ c.in-Number.is) refl refl refl)

pub returns-in-Name : goal.returns-in-Name
returns-in-Name t c =
    rw c.leaf_width-in-Name.ensures
    (name_along none c.args.s.now zeros itself 3 0 (sym c.tag_of.ensures ∙ c.in-Name.is) refl refl refl)

pub returns-in-One : goal.returns-in-One
returns-in-One t c =
    let s = c.args.s.now in
    let a = c.width.result in
    one_along none s c.in-One.field-0 (sym c.tag_of.ensures ∙ c.in-One.is) c.if-s-lt1.false itself (λ e. refl) 0 a
    (rest_along none s 1 0 a c.width.ensures)

pub returns-in-Two : goal.returns-in-Two
returns-in-Two t c =
    let s = c.args.s.now in
    let a = c.width-k.result in
    let b = c.width-in-Two.result in
    two_along none s c.in-Two.field-0 (sym c.tag_of.ensures ∙ c.in-Two.is) c.if-s-lt1.false ◌+◌ (λ e d. refl) 0 a
    (rest_along none s 1 0 a c.width-k.ensures) 0 b (rest_along none s (1 + a) 0 b c.width-in-Two.ensures)

pub returns-in-Bad : goal.returns-in-Bad
returns-in-Bad t c = bad_along none _ (sym c.tag_of.ensures ∙ c.in-Bad.is) 0
