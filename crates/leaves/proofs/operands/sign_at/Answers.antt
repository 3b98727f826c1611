-- `operands::sign_at` meets its contract.
use mathlib.Core.Path.{sym, ap, ◌∙◌}
use mathlib.Core.Bool.{true, false}
use native.Mathlib.Omega.{arith}
use Rattle.grammar.specs.Reading.{is_decimal, look}
use Rattle.leaves.proofs.Leafs.{sign_upper, sign_lower, sign_minus, sign_none, rest_is}
use Rattle.leaves.proofs.operands.sign_at.Goals as goal

pub returns-in-62 : goal.returns-in-62
returns-in-62 c = sym (sign_upper c.args.s.now (sym c.look.ensures ∙ c.in-62.is))

pub returns-in-60 : goal.returns-in-60
returns-in-60 c = sym (sign_lower c.args.s.now (sym c.look.ensures ∙ c.in-60.is))

pub returns-in-45 : goal.returns-in-45
returns-in-45 c = sym (sign_minus c.args.s.now false (sym c.look.ensures
    ∙ c.in-45.is) (ap (λ x. is_decimal (look x)) (sym (rest_is 1 c.args.s.now)) ∙ ap is_decimal (sym c.look-in-45-1.ensures)
    ∙ sym c.is_decimal.ensures ∙ c.if-not-is_decimal.true))

pub returns-in_default : goal.returns-in_default
returns-in_default c = sym (sign_minus c.args.s.now true (sym c.look.ensures
    ∙ c.in-45.is) (ap (λ x. is_decimal (look x)) (sym (rest_is 1 c.args.s.now)) ∙ ap is_decimal (sym c.look-in-45-1.ensures)
    ∙ sym c.is_decimal.ensures ∙ c.if-not-is_decimal.false))

pub returns-in_default-2 : goal.returns-in_default-2
returns-in_default-2 c = sym (sign_none c.args.s.now (λ e. omega arith) (λ e. omega arith) (λ e. omega arith))
