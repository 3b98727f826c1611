-- What stands at a place, as a pattern asks: a form, a local label, the target of a transfer.
use Rattle.std.specs.Prelude.{◌≡◌, true, List, ℕ, ◌-◌, ◌<◌, length, get_or, drop, Option as AnOption, None, Some}
use Rattle.std.proofs.Math.Option.{Option, none, some}
use Rattle.rules.specs.Forms.{is_transfer, operands_at}
use Rattle.rules.specs.Programs.{Placeℕ, Stmt, Instruction, on_instr, args_of, at}
use Rattle.rules.specs.Statements.{argument_at}
use Rattle.listing.specs.Tables.{frame_at}
use Rattle.slots.specs.Slots.{Slots, gone_form, slot_at, program_of}

-- the statement at a place of the program; `gone` past the end
abbrev pub stands_at : Slots → (i : Placeℕ) → Stmt
stands_at t i = at (program_of t) i

-- the form of an instruction; of any other statement the number that no form has
abbrev pub form_in : Stmt → ℕ
form_in s = on_instr gone_form (λ x. x.form) s

-- the instruction in a slot; asked of a slot that holds one
abbrev pub instr_at : Slots → (i : Placeℕ) → Instruction
instr_at t i = record { form = get_or t.forms i 0; args = args_of (slot_at t i); carried = get_or t.carry i 0 }

abbrev pub label_as : Option ℕ → AnOption ℕ
label_as none = None
label_as (some n) = Some n

-- ---- the target that was written at a place: the last argument of its frame

pub record TargetIn (frames starts : List ℕ) (count : ℕ) (c : Placeℕ) : Type 0 where
  pub inside : c < count
  pub instruction : get_or (frame_at frames starts c) 0 0 ≡ 1
  pub transfer : is_transfer (get_or (frame_at frames starts c) 1 0) ≡ true

-- the bytes of a frame from the last argument on
unfoldable pub last_bytes : (s : List ℕ) → List ℕ
last_bytes s = let kinds = operands_at (get_or s 1 0) in drop (argument_at s kinds 2 (length kinds - 1)) s

-- and the links beside them: those of the frame s from its last argument on
unfoldable pub last_links : (s links : List ℕ) → List ℕ
last_links s links = let kinds = operands_at (get_or s 1 0) in drop (argument_at s kinds 2 (length kinds - 1)) links
