-- What the code says of one statement: its frame, laid in a room of seventeen bytes.
use Rattle.std.specs.Prelude.{◌≡◌, List, [], ◌∷◌, Bool, true, false, cond, ℕ, ◌+◌, ◌≤◌, eqb, length, get_or, take, Option, None, Some}
use Rattle.laws.specs.Lists.{each}
use Rattle.rules.specs.declared.Kind.{Kind}
use Rattle.rules.specs.declared.Kind.TheVariants.{Reg}
use Rattle.rules.specs.Expressions.{bytes_of}
use Rattle.rules.specs.Forms.{operands_at}
use Rattle.rules.specs.Values.{below}
use Rattle.rules.specs.Programs.{Placeℕ, Addressℕ, Operand, byte_count}
use Rattle.rules.specs.Layout.{after}
use Rattle.rules.specs.Output.{operand_bytes, frame_of}
use Rattle.digits.specs.Digits.{laid}
use Rattle.decoding.specs.Operands.{width, held_in, reads, plain, operand_of, operands_from, none_outside}
use Rattle.readback.specs.declared.frames.Step.{Step}
use Rattle.readback.specs.ReadBack.{read_one}

-- argument j of form f with the bytes s, of which n is the address after: its kind, and what is held
abbrev pub kind_at : (f j : ℕ) → Kind
kind_at f j = get_or (operands_at f) j Reg

abbrev pub held_at : (f : ℕ) (s : List ℕ) (j : ℕ) → ℕ
held_at f s j = held_in f s j (width (kind_at f j))

abbrev pub operand_at : (f : ℕ) (s : List ℕ) (n : Addressℕ) (j : ℕ) → Operand
operand_at f s n j = operand_of n (kind_at f j) (held_at f s j)

-- a register, which alone has two bits
abbrev pub is_register : Kind → Bool
is_register d = eqb (width d) 2

-- the bytes of an argument whose number is v
abbrev pub value_bytes : Kind → (v : ℕ) → List ℕ
value_bytes d v = cond (is_register d) (v ∷ []) (bytes_of (plain v))

-- that argument, stored from `at` on, or outside 0..65,535
abbrev pub Argument : (f : ℕ) (s : List ℕ) (n : Addressℕ) (j : ℕ) (room : List ℕ) (at : ℕ) → Option ℕ → (after : List ℕ) → Type 0
Argument f s n j room at (Some end) x =
    (below 65536 (reads n (kind_at f j) (held_at f s j)) ≡ true)
    × (x ≡ laid room at (operand_bytes (operand_at f s n j)))
    × (end ≡ at + length (operand_bytes (operand_at f s n j)))
Argument f s n j room at None x = below 65536 (reads n (kind_at f j) (held_at f s j)) ≡ false

-- an instruction's frame at the front of a room, or an argument outside
abbrev pub instr_frame : (f : ℕ) (s : List ℕ) (n : Addressℕ) → List ℕ
instr_frame f s n = 1 ∷ f ∷ each (λ x. operand_bytes x) (operands_from f s n 0 (operands_at f))

abbrev pub Instruction : (f : ℕ) (s : List ℕ) (n : Addressℕ) → Option ℕ → (room : List ℕ) → Type 0
Instruction f s n (Some end) x = (none_outside f s n 0 (operands_at f) ≡ true) × (take end x ≡ instr_frame f s n) × (end ≤ 17)
Instruction f s n None x = none_outside f s n 0 (operands_at f) ≡ false

-- the statement that the bytes s at q begin with, at whatever place: how many bytes it takes, and its frame at the front of the room
pub record FrameOf (q : Addressℕ) (s : List ℕ) (r : Step) (room : List ℕ) : Type 0 where
  pub takes : (i : Placeℕ) → byte_count q (read_one i q s) ≡ r.0
  pub goes_on : (i : Placeℕ) → after q (read_one i q s) ≡ q + r.0
  pub some : 1 ≤ r.0
  pub there : r.0 ≤ length s
  pub frame : (i : Placeℕ) → take r.1 room ≡ frame_of (read_one i q s)
  pub short : r.1 ≤ 17
