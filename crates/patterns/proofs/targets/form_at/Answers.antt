-- `patterns::targets::form_at` meets its contract: an instruction's form is the table's, and of nothing else is there one.
use borrow.Enum.Refused.{opened}
use mathlib.Core.Path.{◌≡◌, refl, sym, ap, ◌∙◌}
use mathlib.Core.List.{List, [], ◌∷◌}
use Prim.Native.Nat.{ℕ}
use native.Mathlib.Omega.{arith}
use denote.Enum.Declared.{tag_of}
use types.Run.{OneOf, miss}
use Rattle.slots.specs.contracts.Slot.{the_type as slot_type}
use Rattle.slots.specs.Slots.{Slots, slots, gone_form, slot_at}
use Rattle.slots.specs.declared.Slot.{Slot}
use Rattle.slots.specs.declared.Slot.TheVariants.{Gone, Form, Holds}
use Rattle.slots.specs.Meaning.{kind_in, Stands}
use Rattle.slots.proofs.Stands.{form_stands}
use Rattle.patterns.specs.Targets.{stands_at, form_in}
use Rattle.patterns.proofs.Programs.{at_program, past_program}
use Rattle.patterns.proofs.Instructions.{not_instr, slot_form}
use Rattle.slots.specs.State.{starts_in, forms_in}
use Rattle.patterns.proofs.targets.form_at.Goals as goal

abbrev over : (c : goal.Then-count-i) (carry owners offsets : List ℕ) → Slots
over c carry owners offsets = slots c.args.frames.now (starts_in c.args.state.now) c.args.count (forms_in c.args.state.now) carry owners
    offsets

abbrev over_2 : (c : goal.In_default) (carry owners offsets : List ℕ) → Slots
over_2 c carry owners offsets = slots c.args.frames.now (starts_in c.args.state.now) c.args.count (forms_in c.args.state.now) carry owners
    offsets

abbrev over_3 : (c : goal.In-Form) (carry owners offsets : List ℕ) → Slots
over_3 c carry owners offsets = slots c.args.frames.now (starts_in c.args.state.now) c.args.count (forms_in c.args.state.now) carry owners
    offsets

-- gone, or what is no instruction
other : (t : Slots) (i : ℕ) (r : Slot) → Stands t i r → OneOf (0 ∷ 2 ∷ []) (tag_of slot_type r) → kind_in r ≡ 1 → ⊥
other t i Gone h k e = omega arith
other t i (Form f) h k e = miss (0 ∷ 2 ∷ []) 1 tt k
other t i (Holds x) h k e = let o = (h.holds x refl).other in omega arith

-- behind the slot
module _ (c : goal.In_default) (carry owners offsets : List ℕ) where
  abbrev here : Slots
  here = over_2 c carry owners offsets

  abbrev place : ℕ
  place = c.args.at.0

  stands : Stands here place c.slot_at.result
  stands = c.slot_at.ensures carry owners offsets

  in_slot : form_in (stands_at here place) ≡ form_in (slot_at here place)
  in_slot = ap form_in (at_program here place c.if-count-i.false)

  none : OneOf (0 ∷ 2 ∷ []) (tag_of slot_type c.slot_at.result) → form_in (stands_at here place) ≡ gone_form
  none k = in_slot ∙ not_instr (slot_at here place) (λ e. other here place c.slot_at.result stands k (sym stands.kind ∙ e))

-- behind the slot
module _ (c : goal.In-Form) (carry owners offsets : List ℕ) where
  abbrev here_2 : Slots
  here_2 = over_3 c carry owners offsets

  abbrev place_2 : ℕ
  place_2 = c.args.at.0

  stands_2 : Stands here_2 place_2 c.slot_at.result
  stands_2 = c.slot_at.ensures carry owners offsets

  in_slot_2 : form_in (stands_at here_2 place_2) ≡ form_in (slot_at here_2 place_2)
  in_slot_2 = ap form_in (at_program here_2 place_2 c.if-count-i.false)

  formed_2 : (f : ℕ) → c.slot_at.result ≡ Form f → form_in (stands_at here_2 place_2) ≡ f
  formed_2 f e =
      in_slot_2 ∙ slot_form here_2 c.requires place_2 c.if-count-i.false (form_stands here_2 place_2 c.slot_at.result stands_2 f e)
      ∙ sym (stands_2.form f e)

pub returns-then-count-i : goal.returns-then-count-i
returns-then-count-i c carry owners offsets = sym (ap form_in (past_program (over c carry owners offsets) c.args.at.0 c.if-count-i.true))

pub returns-in_default : goal.returns-in_default
returns-in_default c carry owners offsets = sym (none c carry owners offsets (opened c.in_default.in_default-own.keys2))

pub returns : goal.returns
returns c carry owners offsets = sym (formed_2 c carry owners offsets _ c.in-Form.is)
