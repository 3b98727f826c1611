-- What is written for an operand or an item of data, as the code's answers have it.
use Rattle.rules.specs.declared.Refusal.{Refusal}
use Rattle.std.specs.Prelude.{cond, ℕ, ℤ, pos, Err, Result, Ok, None, Option, Some}
use Rattle.rules.specs.declared.Kind.{Kind}
use Rattle.rules.specs.declared.Kind.TheVariants.{Reg, I8, D9, Bit, Rel8, A12, A16, Rel16}
use Rattle.rules.specs.declared.Refusal.TheVariants.{Range}
use Rattle.rules.specs.Answers.{at_place, Judged, ok, no, require}
use Rattle.rules.specs.Values.{below, nat}

abbrev pub field_as : Judged ℕ → Result ℕ Refusal
field_as (ok n) = Ok n
field_as (no r) = Err r

-- the number below a bound that a value is, if it is one
abbrev pub number_as : (bound : ℕ) → ℤ → Option ℕ
number_as bound v = cond (below bound v) (Some (nat v)) None

-- "Ranges: i8 and byte data 0..255, d9 0..511, bit 0..7, 16-bit and word 0..65,535. Negative values are refused there."
unfoldable pub ranged : (i j bound : ℕ) (v : ℤ) → Judged ℕ
ranged i j bound v = require (below bound v) (Range (at_place i) j v) (ok (nat v))

-- "A register is one byte, 0 to 3": a number that no byte pair holds is none, and counts as 0
abbrev pub held : Kind → ℤ → ℤ
held Reg v = cond (below 65536 v) v (pos 0)
held I8 v = v
held D9 v = v
held Bit v = v
held Rel8 v = v
held A12 v = v
held A16 v = v
held Rel16 v = v
