-- `slots::is_register` meets its contract: by what the operand is.
use mathlib.Core.Path.{◌≡◌, refl, sym, ap, ◌∙◌}
use mathlib.Core.List.{List, [], ◌∷◌}
use mathlib.Core.Bool.{Bool, false}
use Prim.Native.Nat.{ℕ, zero, suc}
use Rattle.std.specs.Prelude.{Option, None, Some}
use Rattle.std.proofs.Common.{rules}
use Rattle.rules.specs.declared.Kind.{Kind}
use Rattle.rules.specs.declared.Kind.TheVariants.{Reg, I8, D9, Bit, Rel8, A12, A16, Rel16}
use Rattle.rules.specs.Forms.{operands_at}
use Rattle.instruction.specs.Tables.{operand_in}
use Rattle.slots.specs.Slots.{is_reg, register_at}
use Rattle.slots.proofs.is_register.Goals as goal

register_of : Option Kind → Bool
register_of (Some k) = is_reg k
register_of None = false

same_register : (ks : List Kind) (j : ℕ) → register_of (operand_in ks j) ≡ register_at ks j
unfolding register_of
same_register [] j = refl
same_register (k ∷ ks) zero = refl
same_register (k ∷ ks) (suc j) = same_register ks j

by : (f j : ℕ) {o p : Option Kind} → o ≡ operand_in (operands_at f) j → o ≡ p → register_of p ≡ register_at (operands_at f) j
by f j e g = ap register_of (sym g ∙ e) ∙ same_register (operands_at f) j

not_reg : (k : Kind) → (k ≡ Reg → ⊥) → is_reg k ≡ false
not_reg Reg h = absurd (h refl)
not_reg I8 h = refl
not_reg D9 h = refl
not_reg Bit h = refl
not_reg Rel8 h = refl
not_reg A12 h = refl
not_reg A16 h = refl
not_reg Rel16 h = refl

pub returns-in-Some-Reg : goal.returns-in-Some-Reg
unfolding register_of
returns-in-Some-Reg c = by c.args.form c.args.j c.operand_kind.ensures (c.in-Some-Reg.is ∙ ap Some c.in-Some-Reg.field-0-is)

pub returns-in_default : goal.returns-in_default
unfolding register_of
returns-in_default c =
    sym (not_reg c.in_default.field-0 (λ e. search (rules, e))) ∙ by c.args.form c.args.j c.operand_kind.ensures c.in_default.is

pub returns-in_default-2 : goal.returns-in_default-2
unfolding register_of
returns-in_default-2 c = by c.args.form c.args.j c.operand_kind.ensures c.in_default.is
