-- Document 02, C-21: what the bytes of an instruction say of its arguments. "write instruction frames with plain numbers".
use Rattle.std.specs.Prelude.{List, [], ◌∷◌, Bool, true, ◌&&◌, cond, ℕ, zero, suc, ◌+◌, ◌*◌, ◌%◌, ltb, get_or, ℤ, pos, ◌-ℤ◌}
use Rattle.laws.specs.Lists.{each}
use Rattle.laws.specs.Bits.{bits}
use Rattle.rules.specs.declared.Kind.{Kind}
use Rattle.rules.specs.declared.Kind.TheVariants.{Reg, I8, D9, Bit, Rel8, A12, A16, Rel16}
use Rattle.rules.specs.Values.{below}
use Rattle.rules.specs.Expressions.{Expr, num}
use Rattle.rules.specs.Programs.{Addressℕ, Operand, register, value}
use Rattle.rules.specs.Encoding.{page}
use Rattle.decoding.specs.Cells.{all_cells, place_in}

-- ---- the bits of an argument

-- the bits of bytes, the highest of each first
unfoldable pub bits_of : List ℕ → List ℕ
bits_of s = each (λ b. bits b 0 8) s

-- the number whose bit n is F n, for each n below w
abbrev pub from_bits : (ℕ → ℕ) → (w : ℕ) → ℕ
from_bits F zero = 0
from_bits F (suc w) = F 0 + 2 * from_bits (λ n. F (suc n)) w

-- how many bits of an argument an instruction holds
abbrev pub width : Kind → ℕ
width Reg = 2
width I8 = 8
width D9 = 9
width Bit = 3
width Rel8 = 8
width A12 = 12
width A16 = 16
width Rel16 = 16

-- bit n of argument j of form f, if s are its bytes: the bit that stands where the pattern has [j n]
unfoldable pub held_bit : (f : ℕ) (s : List ℕ) (j n : ℕ) → ℕ
held_bit f s j n = get_or (bits_of s) (place_in j n (all_cells f)) 0

-- what an instruction holds of its argument j, which has w bits
unfoldable pub held_in : (f : ℕ) (s : List ℕ) (j w : ℕ) → ℕ
held_in f s j w = from_bits (held_bit f s j) w

-- ---- the number that is written for it: v is held, n is the address after the instruction

-- rel8: "address - n in -128..127", in eight bits
abbrev pub near : (n : Addressℕ) (v : ℕ) → ℤ
near n v = cond (ltb v 128) (pos (n + v)) (pos (n + v) -ℤ pos 256)

-- "Relative targets become addresses". Of a 12-bit address bits 12 to 15 are those of n; of (address - n + 1) mod 65,536 there is one
-- address
abbrev pub reads : (n : Addressℕ) → Kind → (v : ℕ) → ℤ
reads n Reg v = pos v
reads n I8 v = pos v
reads n D9 v = pos v
reads n Bit v = pos v
reads n Rel8 v = near n v
reads n A12 v = pos (page n * 4096 + v)
reads n A16 v = pos v
reads n Rel16 v = pos ((v + n + 65535) % 65536)

abbrev pub plain : ℕ → Expr
plain v = num (pos v)

abbrev pub operand_of : (n : Addressℕ) → Kind → (v : ℕ) → Operand
operand_of n Reg v = register v
operand_of n I8 v = value (num (reads n I8 v))
operand_of n D9 v = value (num (reads n D9 v))
operand_of n Bit v = value (num (reads n Bit v))
operand_of n Rel8 v = value (num (reads n Rel8 v))
operand_of n A12 v = value (num (reads n A12 v))
operand_of n A16 v = value (num (reads n A16 v))
operand_of n Rel16 v = value (num (reads n Rel16 v))

-- the arguments of form f whose bytes are s, from argument j on
unfoldable pub operands_from : (f : ℕ) (s : List ℕ) (n : Addressℕ) (j : ℕ) → List Kind → List Operand
operands_from f s n j [] = []
operands_from f s n j (d ∷ ds) = operand_of n d (held_in f s j (width d)) ∷ operands_from f s n (suc j) ds

-- none "falls outside 0..65,535"
unfoldable pub none_outside : (f : ℕ) (s : List ℕ) (n : Addressℕ) (j : ℕ) → List Kind → Bool
none_outside f s n j [] = true
none_outside f s n j (d ∷ ds) = below 65536 (reads n d (held_in f s j (width d))) && none_outside f s n (suc j) ds
