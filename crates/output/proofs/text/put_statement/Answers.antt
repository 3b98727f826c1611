-- `output::text::put_statement` meets its contract: an instruction, or the frame as it stands.
use borrow.Enum.Refused.{opened}
use mathlib.Core.Path.{◌≡◌, refl, sym, ap, ◌∙◌}
use mathlib.Core.List.{List}
use Prim.Native.Nat.{ℕ, ◌+◌, ◌*◌, ◌≤◌}
use native.Mathlib.Omega.{arith}
use lib.ListN.{length, get_or}
use Rattle.rules.specs.Programs.{kind_of}
use Rattle.slots.specs.Slots.{Slots, slot_at}
use Rattle.slots.specs.State.{carry_in, owners_in, offsets_in, table_of}
use Rattle.slots.specs.Meaning.{Stands}
use Rattle.slots.proofs.Stands.{form_stands, no_instr}
use Rattle.output.specs.Lines.{instr_bytes, bytes_at}
use Rattle.output.proofs.Sizes.{drawn}
use Rattle.output.proofs.Slots.{bytes_instr, bytes_other}
use Rattle.output.proofs.text.put_statement.Goals as goal

-- the tables of a start, and the bytes of the place
module _ (s : goal.After-put_bytes-arg-1) where
  abbrev place : ℕ
  place = s.args.place.0

  abbrev over : Slots
  over = table_of s.args.frames.now s.args.state.now s.args.count

  abbrev whole : List ℕ
  whole = bytes_at over s.args.positions.now place

-- the tables of a start, and the bytes of the place
module _ (s : goal.After-slice_known-in_default-1) where
  abbrev place_2 : ℕ
  place_2 = s.args.place.0

  abbrev over_2 : Slots
  over_2 = table_of s.args.frames.now s.args.state.now s.args.count

  abbrev whole_2 : List ℕ
  whole_2 = bytes_at over_2 s.args.positions.now place_2

-- the tables of a start, and the bytes of the place
module _ (s : goal.After-put_instruction-arg-1) where
  abbrev place_3 : ℕ
  place_3 = s.args.place.0

  abbrev over_3 : Slots
  over_3 = table_of s.args.frames.now s.args.state.now s.args.count

  abbrev whole_3 : List ℕ
  whole_3 = bytes_at over_3 s.args.positions.now place_3

-- the tables of a start, and the bytes of the place
module _ (s : goal.After-slice_known-2-1) where
  abbrev place_4 : ℕ
  place_4 = s.args.place.0

  abbrev over_4 : Slots
  over_4 = table_of s.args.frames.now s.args.state.now s.args.count

  abbrev whole_4 : List ℕ
  whole_4 = bytes_at over_4 s.args.positions.now place_4

stands : (c : goal.After-put_bytes-arg-1) → Stands (over c) (place c) c.slot_at.result
stands c = c.slot_at.ensures (carry_in c.args.state.now) (owners_in c.args.state.now) (offsets_in c.args.state.now)

stands_2 : (c : goal.After-slice_known-in_default-1) → Stands (over_2 c) (place_2 c) c.slot_at.result
stands_2 c = c.slot_at.ensures (carry_in c.args.state.now) (owners_in c.args.state.now) (offsets_in c.args.state.now)

stands_3 : (c : goal.After-put_instruction-arg-1) → Stands (over_3 c) (place_3 c) c.slot_at.result
stands_3 c = c.slot_at.ensures (carry_in c.args.state.now) (owners_in c.args.state.now) (offsets_in c.args.state.now)

stands_4 : (c : goal.After-slice_known-2-1) → Stands (over_4 c) (place_4 c) c.slot_at.result
stands_4 c = c.slot_at.ensures (carry_in c.args.state.now) (owners_in c.args.state.now) (offsets_in c.args.state.now)

-- a statement that is no instruction: its frame
module _ (c : goal.After-put_bytes-arg-1) where
  frame : whole c ≡ c.frame_at-frame.result.now
  frame =
      bytes_other (over c) c.args.positions.now (place c)
      (no_instr (over c) (place c) c.slot_at.result (stands c) (opened c.in_default.in_default-own.keys2)) ∙ sym c.frame_at-frame.ensures

  room : c.args.at + 2 * length c.frame_at-frame.result.now ≤ length c.args.out.now
  room = omega (arith, c.requires.3, ap length frame)

-- a statement that is no instruction: its frame
module _ (c : goal.After-slice_known-in_default-1) where
  frame_2 : whole_2 c ≡ c.frame_at-frame.result.now
  frame_2 =
      bytes_other (over_2 c) c.args.positions.now (place_2 c)
      (no_instr (over_2 c) (place_2 c) c.slot_at.result (stands_2 c) (opened c.in_default.in_default-own.keys2))
      ∙ sym c.frame_at-frame.ensures

  room_2 : c.args.at + 2 * length c.frame_at-frame.result.now ≤ length c.args.out.now
  room_2 = omega (arith, c.requires.3, ap length frame_2)

-- an instruction's bytes
module _ (c : goal.After-put_instruction-arg-1) where
  one : kind_of (slot_at (over_3 c) (place_3 c)) ≡ 1
  one = form_stands (over_3 c) (place_3 c) c.slot_at.result (stands_3 c) _ c.in-Form.is

  instruction : whole_3 c ≡ instr_bytes (over_3 c) c.args.positions.now (place_3 c)
  instruction = bytes_instr (over_3 c) c.args.positions.now (place_3 c) one

-- an instruction's bytes
module _ (c : goal.After-slice_known-2-1) where
  one_2 : kind_of (slot_at (over_4 c) (place_4 c)) ≡ 1
  one_2 = form_stands (over_4 c) (place_4 c) c.slot_at.result (stands_4 c) _ c.in-Form.is

  instruction_2 : whole_4 c ≡ instr_bytes (over_4 c) c.args.positions.now (place_4 c)
  instruction_2 = bytes_instr (over_4 c) c.args.positions.now (place_4 c) one_2

pub put_bytes-requires : goal.put_bytes-requires
put_bytes-requires c = room c

pub overflow_add-result : goal.overflow_add-result
overflow_add-result c = record { fits = omega (arith, room_2 c, c.well_formed) }

pub returns-in_default : goal.returns-in_default
returns-in_default c = rw (frame_2 c) (record { is = c.put_bytes.ensures; ends = refl })

pub put_instruction-requires : goal.put_instruction-requires
put_instruction-requires c =
    let is = one c in
    let from = get_or (carry_in c.args.state.now) (place_3 c) 0 in (
      drawn (over_3 c) c.requires.0 (place_3 c) c.requires.2 is,
      λ t h. c.requires.1.low (get_or (owners_in c.args.state.now) from 0)
          (c.requires.0.owned from (c.requires.0.carried (place_3 c) c.requires.2 is t).inside h),
      omega (arith, c.requires.3, ap length (instruction c)),
    )

pub returns : goal.returns
returns c = rw (instruction_2 c) c.put_instruction.ensures
