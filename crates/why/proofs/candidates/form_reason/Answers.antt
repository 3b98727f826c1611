-- `why::candidates::form_reason` meets its contract: the copy holds the program with the form in place.
use Prim.Native.Nat.{ℕ}
use mathlib.Core.Path.{ap, ◌∙◌}
use mathlib.Core.List.{List}
use lib.ListN.{get_or, set}
use Rattle.rules.specs.Programs.{instr, args_of, Program}
use Rattle.slots.specs.Slots.{Slots, slot_at, program_of}
use Rattle.slots.specs.State.{forms_in, carry_in, table_of}
use Rattle.attempts.proofs.Attempts.{Holding, formed_holds, held_kept, beside_kept}
use Rattle.staying.specs.Reasons.{reason_of}
use Rattle.why.proofs.candidates.form_reason.Goals as goal

module _ (s : goal.After-tried-3-1) where
  abbrev state : List (List ℕ)
  state = s.args.state.now

  abbrev i : ℕ
  i = s.args.at.0

  abbrev old : Slots
  old = table_of s.args.frames.now state s.args.count

  abbrev formed : Program
  formed = set (program_of old) i (instr s.args.form (args_of (slot_at old i)) (get_or (carry_in state) i 0))

module _ (s : goal.After-reason_of) where
  abbrev state_2 : List (List ℕ)
  state_2 = s.args.state.now

  abbrev i_2 : ℕ
  i_2 = s.args.at.0

  abbrev old_2 : Slots
  old_2 = table_of s.args.frames.now state_2 s.args.count

  abbrev formed_2 : Program
  formed_2 = set (program_of old_2) i_2 (instr s.args.form (args_of (slot_at old_2 i_2)) (get_or (carry_in state_2) i_2 0))

-- with the form in place
module _ (c : goal.After-tried-3-1) where
  abbrev edited : List (List ℕ)
  edited = c.put_form.new.state

  held : Holding (table_of c.args.frames.now edited c.args.count) (formed c)
  held =
      held_kept c.args.frames.now (state c) edited c.args.count c.put_form.ensures.kept (formed c)
      (formed_holds _ _ _ _ _ _ _ c.requires.0 c.args.form (i c) (forms_in edited) (carry_in edited) c.requires.1 c.requires.2 c.requires.3
      c.put_form.ensures.forms c.put_form.ensures.carry)

-- with the form in place
module _ (c : goal.After-reason_of) where
  abbrev edited_2 : List (List ℕ)
  edited_2 = c.put_form.new.state

  held_2 : Holding (table_of c.args.frames.now edited_2 c.args.count) (formed_2 c)
  held_2 =
      held_kept c.args.frames.now (state_2 c) edited_2 c.args.count c.put_form.ensures.kept (formed_2 c)
      (formed_holds _ _ _ _ _ _ _ c.requires.0 c.args.form (i_2 c) (forms_in edited_2) (carry_in edited_2) c.requires.1 c.requires.2
      c.requires.3
      c.put_form.ensures.forms c.put_form.ensures.carry)

pub reason_of-requires : goal.reason_of-requires
reason_of-requires c =
    ((held c).stands, beside_kept c.args.frames.now (state c) (edited c) c.args.count c.put_form.ensures.kept _ c.requires.4)

pub returns : goal.returns
returns c = c.reason_of.ensures ∙ ap reason_of (held_2 c).is
