-- The tables that an encoding is judged with: the slots, the names' entries, and each place's context and position.
use Rattle.std.specs.Prelude.{◌≡◌, List, Bool, ◌&&◌, ℕ, suc, ◌-◌, ◌≤◌, ◌<◌, eqb, ℤ, get_or, length}
use Rattle.rules.specs.Answers.{judged_or}
use Rattle.rules.specs.Forms.{is_transfer, operands_at}
use Rattle.rules.specs.Listing.{read_frame}
use Rattle.rules.specs.Programs.{Placeℕ, Operand, register, gone, args_of, Program}
use Rattle.rules.specs.Layout.{position}
use Rattle.rules.specs.Names.{Entry, context_at}
use Rattle.rules.specs.Judging.{names_of}
use Rattle.listing.specs.Tables.{Held}
use Rattle.slots.specs.Slots.{Slots, slots, slot_at, program_of, no_owner, WroteTarget, Sound}
use Rattle.slots.specs.State.{starts_in, forms_in, carry_in, owners_in, offsets_in}
use Rattle.slots.specs.Links.{contexts_read, Says, Together}

pub record Tables : Type 0 where
  pub slots : Slots
  pub entries : List Entry
  pub contexts : List ℕ
  pub links : List ℕ
  pub values : List ℤ
  pub positions : List ℕ

-- the names and the contexts are those of the program in the slots; the tables have links and values in their place
abbrev pub tables : (frames starts : List ℕ) (count : ℕ) (forms carry owners offsets links : List ℕ) (values : List ℤ) (positions : List ℕ) → Tables
tables fs ss n f c w o links values positions =
    let t : Slots = slots fs ss n f c w o in
    record { slots = t; entries = names_of (program_of t); contexts = contexts_read fs ss n; links = links; values = values; positions = positions }

abbrev pub tables_of : (frames : List ℕ) (state : List (List ℕ)) (count : ℕ) (links : List ℕ) (values : List ℤ) (positions : List ℕ) → Tables
tables_of fs s n links values positions = tables fs (starts_in s) n (forms_in s) (carry_in s) (owners_in s) (offsets_in s) links values positions

abbrev pub program : Tables → Program
program d = program_of d.slots

-- argument j of a form is its target: the last of a transfer
abbrev pub is_target : (f j : ℕ) → Bool
is_target f j = is_transfer f && eqb (length (operands_at f) - 1) j

-- operand j of the instruction in frame s of place i, as it was read
abbrev pub operand_in : (i : Placeℕ) (s : List ℕ) (j : ℕ) → Operand
operand_in i s j = get_or (args_of (judged_or (read_frame i s) gone)) j (register 0)

-- operand j of the instruction in slot i
abbrev pub operand_at : Slots → (i : Placeℕ) (j : ℕ) → Operand
operand_at t i j = get_or (args_of (slot_at t i)) j (register 0)

-- "Positions reach at most 65,536."
abbrev pub Low : (positions : List ℕ) (n : ℕ) → Type 0
Low positions n = (i : Placeℕ) → i < n → get_or positions i 0 ≤ 65536

-- the target that was written at place c can be evaluated there: its owner, if it has one, has a position
pub record Aims (t : Slots) (positions : List ℕ) (c : Placeℕ) : Type 0 where
  pub held : Held t.frames t.starts t.count
  pub wrote : WroteTarget t c
  pub low : get_or t.owners c 0 < no_owner → get_or positions (get_or t.owners c 0) 0 ≤ 65536

-- what is known before the encoding: links and values say what the names mean, the tables hold each statement's context and position, and where
-- the last one ends; "an org below the
-- position is refused. Positions reach at most 65,536."
pub record Ready (d : Tables) : Type 0 where
  pub sound : Sound d.slots
  pub says : Says d.slots d.entries d.links d.values
  pub together : Together d.slots
  pub context : (i : Placeℕ) → i < d.slots.count → get_or d.contexts i 0 ≡ context_at (program d) i
  pub position : (i : Placeℕ) → i ≤ d.slots.count → get_or d.positions i 0 ≡ position (program d) i
  pub rises : (i : Placeℕ) → i < d.slots.count → get_or d.positions i 0 ≤ get_or d.positions (suc i) 0
  pub low : (i : Placeℕ) → i ≤ d.slots.count → get_or d.positions i 0 ≤ 65536
