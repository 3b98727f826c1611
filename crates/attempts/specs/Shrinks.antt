-- One shorter form at a place: what rules' `shrink_at` tries for each form in its order.
use Rattle.std.proofs.Math.Option.{Option}
use Rattle.std.specs.Prelude.{ℕ, get_or, set}
use Rattle.laws.specs.Options.{given}
use Rattle.rules.specs.Programs.{Placeℕ, instr, args_of, Program}
use Rattle.rules.specs.Rewriting.{candidate, no_interior_label_at}
use Rattle.slots.specs.Slots.{Slots, slot_at, program_of}

-- form f with the operands and the target of the instruction in slot i
unfoldable pub shrunk : Slots → (i : Placeℕ) (f : ℕ) → Option Program
shrunk t i f =
    given (no_interior_label_at (program_of t) i)
    (candidate (set (program_of t) i (instr f (args_of (slot_at t i)) (get_or t.carry i 0))))
