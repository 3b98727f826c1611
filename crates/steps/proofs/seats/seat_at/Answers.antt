-- `steps::seats::seat_at` meets its contract.
use borrow.Enum.Refused.{opened}
use mathlib.Core.Path.{ap, ◌∙◌}
use Prim.Native.Nat.{ℕ}
use lib.ListN.{get_or}
use Rattle.slots.specs.Slots.{Slots}
use Rattle.slots.specs.State.{carry_in, owners_in, offsets_in, table_of}
use Rattle.slots.specs.Meaning.{Stands}
use Rattle.slots.proofs.Stands.{form_stands, no_instr}
use Rattle.steps.specs.declared.Seat.{Seat}
use Rattle.steps.proofs.InSlots.{seat_past, seat_plain, seat_instr}
use Rattle.steps.proofs.seats.seat_at.Goals as goal

abbrev seat : (form carried : ℕ) → Seat
seat form carried = record { form = form; carried = carried }

-- behind the slot
module _ (c : goal.In_default) where
  abbrev here : Slots
  here = table_of c.args.frames.now c.args.state.now c.args.count

  abbrev place : ℕ
  place = c.args.place.0

  stands : Stands here place c.slot_at.result
  stands = c.slot_at.ensures (carry_in c.args.state.now) (owners_in c.args.state.now) (offsets_in c.args.state.now)

-- behind the slot
module _ (c : goal.After-result-1) where
  abbrev here_2 : Slots
  here_2 = table_of c.args.frames.now c.args.state.now c.args.count

  abbrev place_2 : ℕ
  place_2 = c.args.place.0

  stands_2 : Stands here_2 place_2 c.slot_at.result
  stands_2 = c.slot_at.ensures (carry_in c.args.state.now) (owners_in c.args.state.now) (offsets_in c.args.state.now)

pub returns-then-count-i : goal.returns-then-count-i
returns-then-count-i c = seat_past _ c.args.place.0 c.if-count-i.true

pub returns-in_default : goal.returns-in_default
returns-in_default c =
    seat_plain (here c) (place c) c.if-count-i.false (no_instr (here c) (place c) c.slot_at.result (stands c) (opened c.in_default.in_default-own.keys2))

pub returns : goal.returns
returns c =
    ap (λ (z : ℕ). seat z (get_or (carry_in c.args.state.now) (place_2 c) 0)) ((stands_2 c).form c.in-Form.form c.in-Form.is)
    ∙ seat_instr (here_2 c) (place_2 c) c.requires c.if-count-i.false (form_stands (here_2 c) (place_2 c) c.slot_at.result (stands_2 c) c.in-Form.form c.in-Form.is)
