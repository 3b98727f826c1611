-- Document 02, C-21: what is shown of the first byte, and which arguments are plain.
use Rattle.std.specs.Prelude.{◌≡◌, Bool, true, false, ℕ, ◌<◌}
use Rattle.rules.specs.Expressions.{Expr, num, name, two, one}
use Rattle.rules.specs.Programs.{Operand, register, value, inner}
use Rattle.decoding.specs.Opcodes.{form_of_byte}
use Rattle.decoding.specs.Cells.{begins}

-- "each of the 256 values has exactly one form": of the seventy patterns that of the form which the ranges name begins so, and no other's
pub record OneForm (b : ℕ) : Type 0 where
  pub form : form_of_byte b < 70
  pub begins_so : begins (form_of_byte b) b ≡ true
  pub no_other : (f : ℕ) → f < 70 → begins f b ≡ true → f ≡ form_of_byte b

-- ---- "plain numbers": an argument that is a register or a number

abbrev pub is_plain_number : Expr → Bool
is_plain_number (num z) = true
is_plain_number (name n) = false
is_plain_number (two o e d) = false
is_plain_number (one o e) = false

abbrev pub is_plain_operand : Operand → Bool
is_plain_operand (register r) = true
is_plain_operand (value e) = is_plain_number e
is_plain_operand (inner i o) = false
