-- Where the arguments of an instruction lie in its bytes, by their kind: what `Operands.held_in` finds by the pattern, said as runs of bits.
use Rattle.std.specs.Prelude.{List, [], ◌∷◌, Bool, ◌||◌, cond, ℕ, ◌+◌, ◌*◌, ◌/◌, ◌%◌, ◌^◌, eqb, get_or}
use Rattle.rules.specs.declared.Kind.{Kind}
use Rattle.rules.specs.declared.Kind.TheVariants.{Reg, I8, D9, Bit, Rel8, A12, A16, Rel16}
use Rattle.rules.specs.Forms.{size_at}

-- `count` bits of byte `byte` of the instruction, from bit `low` on
pub record Run : Type 0 where
  pub byte : ℕ
  pub low : ℕ
  pub count : ℕ

abbrev pub run : ℕ → ℕ → ℕ → Run
run byte low count = record { byte = byte; low = low; count = count }

-- Bp, Bpc, Bn, Clr1, Set1 and Not1 have a bit number among their arguments: then bit 8 of the direct address is bit 4 of the first byte, and
-- not bit 0
abbrev pub has_bit : ℕ → Bool
has_bit f = eqb f 0x30 || (eqb f 0x31 || (eqb f 0x32 || (eqb f 0x40 || (eqb f 0x41 || eqb f 0x42))))

abbrev pub mov_direct : ℕ
mov_direct = 0x23

-- the runs of an argument of form f and kind d, the lowest bits first. The immediate of Mov_d9 stands behind the address; a relative target
-- is the last byte
abbrev pub runs_of : (f : ℕ) → Kind → List Run
runs_of f Reg = run 0 0 2 ∷ []
runs_of f I8 = run (cond (eqb f mov_direct) 2 1) 0 8 ∷ []
runs_of f D9 = run 1 0 8 ∷ run 0 (cond (has_bit f) 4 0) 1 ∷ []
runs_of f Bit = run 0 0 3 ∷ []
runs_of f Rel8 = run (cond (eqb (size_at f) 3) 2 1) 0 8 ∷ []
runs_of f A12 = run 1 0 8 ∷ run 0 0 3 ∷ run 0 4 1 ∷ []
runs_of f A16 = run 2 0 8 ∷ run 1 0 8 ∷ []
runs_of f Rel16 = run 1 0 8 ∷ run 2 0 8 ∷ []

-- the number that runs of the bytes s make
abbrev pub number_in : (s : List ℕ) → List Run → ℕ
number_in s [] = 0
number_in s (r ∷ rs) = get_or s r.byte 0 / 2 ^ r.low % 2 ^ r.count + 2 ^ r.count * number_in s rs
