-- What stands in a slot, as the code's enum: it means the definition's statement.
use Rattle.std.specs.Prelude.{◌≡◌, true, List, ℕ, ◌≤◌, get_or}
use Rattle.rules.specs.declared.Statement.{Statement}
use Rattle.rules.specs.declared.Statement.TheVariants.{Instr as OfInstr, Label, Variable, Comment, Org, Bytes, Words, Pad}
use Rattle.rules.specs.Answers.{is_ok}
use Rattle.rules.specs.Listing.{read_frame}
use Rattle.rules.specs.Programs.{Placeℕ, Stmt, instr, on_instr, kind_of}
use Rattle.rules.specs.Statements.{statement_of, stmt_of}
use Rattle.listing.specs.Tables.{frame_at}
use Rattle.slots.specs.Slots.{Slots, slot_at, aimed_at, Agree}
use Rattle.slots.specs.declared.Slot.{Slot}
use Rattle.slots.specs.declared.Slot.TheVariants.{Gone, Form, Holds}

-- a frame that was read at place i and is no instruction's
pub record OtherIn (i : Placeℕ) (s : List ℕ) : Type 0 where
  pub reads : is_ok (read_frame i s) ≡ true
  pub kind : get_or s 0 0 ≡ 1 → ⊥

-- an instruction with the target that it carries
abbrev pub aiming : Slots → (i : Placeℕ) → Stmt → Stmt
aiming t i x = on_instr x (λ q. instr q.form (aimed_at t q.form (get_or t.carry i 0) q.args) (get_or t.carry i 0)) x

-- the definition's statement, place i of t given
abbrev pub meant_by : Slots → (i : Placeℕ) → Statement → Stmt
meant_by t i s = aiming t i (stmt_of i (frame_at t.frames t.starts i) s)

-- the kind of a statement by its variant, and of a slot; 0 where it is gone
abbrev pub kind_for : Statement → ℕ
kind_for (OfInstr x) = 1
kind_for (Label n) = 2
kind_for (Variable n a) = 3
kind_for (Comment n) = 4
kind_for (Org l) = 5
kind_for (Bytes n a) = 6
kind_for (Words n a) = 7
kind_for (Pad a m) = 8

abbrev pub kind_in : Slot → ℕ
kind_in Gone = 0
kind_in (Form f) = 1
kind_in (Holds s) = kind_for s

-- an instruction there has a form that may stand for the one that was read
abbrev pub Agrees : Slots → (i : Placeℕ) → Type 0
Agrees t i = kind_of (slot_at t i) ≡ 1 → Agree (get_or t.forms i 0) (get_or (frame_at t.frames t.starts i) 1 0)

-- s is what stands in slot i, and no instruction: the statement as it was read
pub record StandsAs (t : Slots) (i : Placeℕ) (s : Statement) : Type 0 where
  pub other : 2 ≤ kind_for s
  pub read : s ≡ statement_of (frame_at t.frames t.starts i)
  pub means : slot_at t i ≡ meant_by t i s

-- r is what stands in slot i: an instruction by its form
pub record Stands (t : Slots) (i : Placeℕ) (r : Slot) : Type 0 where
  pub kind : kind_of (slot_at t i) ≡ kind_in r
  pub form : (f : ℕ) → r ≡ Form f → f ≡ get_or t.forms i 0
  pub holds : (s : Statement) → r ≡ Holds s → StandsAs t i s
