-- `writing::write_at` meets its contract, variant by variant: what is in the room is what the statement encodes to.
use borrow.Enum.Refused.{opened}
use mathlib.Core.Path.{◌≡◌, sym, ap, ◌∙◌}
use mathlib.Core.List.{List, []}
use Prim.Native.Nat.{ℕ}
use native.Mathlib.Omega.{arith}
use lib.ListN.{get_or, replicate}
use Rattle.rules.specs.declared.Arg.{Arg}
use Rattle.rules.specs.declared.Statement.{Statement}
use Rattle.rules.specs.Programs.{byte_count, kind_of}
use Rattle.rules.specs.Layout.{position}
use Rattle.encoding.specs.Encode.{bytes_of_code}
use Rattle.slots.specs.declared.Slot.TheVariants.{Holds}
use Rattle.slots.specs.Slots.{slot_at}
use Rattle.slots.specs.State.{starts_in, carry_in, owners_in, offsets_in}
use Rattle.slots.specs.Meaning.{Stands}
use Rattle.slots.proofs.Linking.{spans}
use Rattle.slots.proofs.Stands.{none_stands, form_stands, kind_stands}
use Rattle.image.specs.declared.data.Data.{Data}
use Rattle.image.specs.declared.data.Data.TheVariants.{Bytes, Words}
use Rattle.image.specs.Tables.{Tables, tables_of, program}
use Rattle.image.specs.Encoding.{encode_at}
use Rattle.image.specs.Image.{put, size_of}
use Rattle.image.proofs.Passes.{ok_same, plain_tag, plain_zeros}
use Rattle.image.proofs.DataSlots.{DataSlot, of_code, data_slot}
use Rattle.image.proofs.Rooms.{put_none}
use Rattle.image.proofs.Images.{empty_is, size_here, size_here_lem, bytes_count, Coded, coded, instr_short}
use Rattle.image.proofs.writing.write_at.Goals as goal

module _ (c : goal.After-write_code-arg-1) where
  abbrev here : Tables
  here =
      tables_of c.args.frames.now c.args.state.now c.args.count
      c.args.links.now c.args.values.now c.args.positions.now

  abbrev place : ℕ
  place = c.args.at.0

  abbrev where_at : ℕ
  where_at = get_or c.args.positions.now place 0

  q_is : c.address-q.result.0 ≡ where_at
  q_is = c.address-q.ensures

  stands : Stands here.slots place c.slot_at.result
  stands = c.slot_at.ensures (carry_in c.args.state.now) (owners_in c.args.state.now) (offsets_in c.args.state.now)

module _ (c : goal.After-write_items-arg-1) where
  abbrev here_2 : Tables
  here_2 =
      tables_of c.args.frames.now c.args.state.now c.args.count
      c.args.links.now c.args.values.now c.args.positions.now

  abbrev place_2 : ℕ
  place_2 = c.args.at.0

  abbrev where_at_2 : ℕ
  where_at_2 = get_or c.args.positions.now place_2 0

  q_is_2 : c.address-q.result.0 ≡ where_at_2
  q_is_2 = c.address-q.ensures

  stands_2 : Stands here_2.slots place_2 c.slot_at.result
  stands_2 = c.slot_at.ensures (carry_in c.args.state.now) (owners_in c.args.state.now) (offsets_in c.args.state.now)

module _ (c : goal.After-write_items-arg-in-Words-1) where
  abbrev here_3 : Tables
  here_3 =
      tables_of c.args.frames.now c.args.state.now c.args.count
      c.args.links.now c.args.values.now c.args.positions.now

  abbrev place_3 : ℕ
  place_3 = c.args.at.0

  abbrev where_at_3 : ℕ
  where_at_3 = get_or c.args.positions.now place_3 0

  q_is_3 : c.address-q.result.0 ≡ where_at_3
  q_is_3 = c.address-q.ensures

  stands_3 : Stands here_3.slots place_3 c.slot_at.result
  stands_3 = c.slot_at.ensures (carry_in c.args.state.now) (owners_in c.args.state.now) (offsets_in c.args.state.now)

module _ (c : goal.In-Gone) where
  abbrev here_4 : Tables
  here_4 =
      tables_of c.args.frames.now c.args.state.now c.args.count
      c.args.links.now c.args.values.now c.args.positions.now

  abbrev place_4 : ℕ
  place_4 = c.args.at.0

  abbrev room_4 : List ℕ
  room_4 = c.args.image.now

  abbrev where_at_4 : ℕ
  where_at_4 = get_or c.args.positions.now place_4 0

  stands_4 : Stands here_4.slots place_4 c.slot_at.result
  stands_4 = c.slot_at.ensures (carry_in c.args.state.now) (owners_in c.args.state.now) (offsets_in c.args.state.now)

module _ (c : goal.After-slice_known-in-Form-1) where
  abbrev here_5 : Tables
  here_5 =
      tables_of c.args.frames.now c.args.state.now c.args.count
      c.args.links.now c.args.values.now c.args.positions.now

  abbrev place_5 : ℕ
  place_5 = c.args.at.0

  abbrev room_5 : List ℕ
  room_5 = c.args.image.now

  abbrev where_at_5 : ℕ
  where_at_5 = get_or c.args.positions.now place_5 0

  q_is_5 : c.address-q.result.0 ≡ where_at_5
  q_is_5 = c.address-q.ensures

  stands_5 : Stands here_5.slots place_5 c.slot_at.result
  stands_5 = c.slot_at.ensures (carry_in c.args.state.now) (owners_in c.args.state.now) (offsets_in c.args.state.now)

module _ (c : goal.After-slice_known-in-Bytes-1) where
  abbrev here_6 : Tables
  here_6 =
      tables_of c.args.frames.now c.args.state.now c.args.count
      c.args.links.now c.args.values.now c.args.positions.now

  abbrev place_6 : ℕ
  place_6 = c.args.at.0

  abbrev room_6 : List ℕ
  room_6 = c.args.image.now

  abbrev where_at_6 : ℕ
  where_at_6 = get_or c.args.positions.now place_6 0

  q_is_6 : c.address-q.result.0 ≡ where_at_6
  q_is_6 = c.address-q.ensures

  stands_6 : Stands here_6.slots place_6 c.slot_at.result
  stands_6 = c.slot_at.ensures (carry_in c.args.state.now) (owners_in c.args.state.now) (offsets_in c.args.state.now)

module _ (c : goal.After-slice_known-in-Words-1) where
  abbrev here_7 : Tables
  here_7 =
      tables_of c.args.frames.now c.args.state.now c.args.count
      c.args.links.now c.args.values.now c.args.positions.now

  abbrev place_7 : ℕ
  place_7 = c.args.at.0

  abbrev room_7 : List ℕ
  room_7 = c.args.image.now

  abbrev where_at_7 : ℕ
  where_at_7 = get_or c.args.positions.now place_7 0

  q_is_7 : c.address-q.result.0 ≡ where_at_7
  q_is_7 = c.address-q.ensures

  stands_7 : Stands here_7.slots place_7 c.slot_at.result
  stands_7 = c.slot_at.ensures (carry_in c.args.state.now) (owners_in c.args.state.now) (offsets_in c.args.state.now)

module _ (c : goal.After-slice_known-in-Instr-1) where
  abbrev here_8 : Tables
  here_8 =
      tables_of c.args.frames.now c.args.state.now c.args.count
      c.args.links.now c.args.values.now c.args.positions.now

  abbrev place_8 : ℕ
  place_8 = c.args.at.0

  abbrev room_8 : List ℕ
  room_8 = c.args.image.now

  abbrev where_at_8 : ℕ
  where_at_8 = get_or c.args.positions.now place_8 0

  q_is_8 : c.address-q.result.0 ≡ where_at_8
  q_is_8 = c.address-q.ensures

  stands_8 : Stands here_8.slots place_8 c.slot_at.result
  stands_8 = c.slot_at.ensures (carry_in c.args.state.now) (owners_in c.args.state.now) (offsets_in c.args.state.now)

-- ---- an instruction
one_kind : (c : goal.After-write_code-arg-1) → kind_of (slot_at (here c).slots (place c)) ≡ 1
one_kind c =
    form_stands (here c).slots (place c) c.slot_at.result (stands c) _ c.in-Form.is

-- ---- an instruction
one_kind_2 : (c : goal.After-slice_known-in-Form-1) → kind_of (slot_at (here_5 c).slots (place_5 c)) ≡ 1
one_kind_2 c =
    form_stands (here_5 c).slots (place_5 c) c.slot_at.result (stands_5 c) _ c.in-Form.is

-- the code is that of the slot's bytes
code_is : (c : goal.After-write_code-arg-1) →
    Coded (encode_at (here c) (place c)) c.in-Ok.code
code_is c =
    coded (encode_at (here c) (place c)) (λ b e. instr_short (here c) c.requires.0 (place c) c.requires.1 (one_kind c) b e)
    c.encode_at.ensures c.in-Ok.is

-- the code is that of the slot's bytes
code_is_2 : (c : goal.After-slice_known-in-Form-1) →
    Coded (encode_at (here_5 c) (place_5 c)) c.in-Ok.code
code_is_2 c =
    coded (encode_at (here_5 c) (place_5 c)) (λ b e. instr_short (here_5 c) c.requires.0 (place_5 c) c.requires.1 (one_kind_2 c) b e)
    c.encode_at.ensures c.in-Ok.is

-- behind the links: what the statement is
module _ (c : goal.After-write_items-arg-1) where
  abbrev found : Statement
  found = c.in-Holds.statement

  is : c.slot_at.result ≡ Holds found
  is = c.in-Holds.is

  data_here : (what : Data) (n : ℕ) (a : Arg) → found ≡ of_code what n a
      → DataSlot (here_2 c) (place_2 c) what n c.frame_at-frame.result.now c.links_at-beside.result.now
  data_here what n a e =
      data_slot (here_2 c) c.requires.0 (place_2 c) c.requires.1 c.slot_at.result (stands_2 c) n a what
      (is ∙ ap Holds e) _ _ c.frame_at-frame.ensures c.links_at-beside.ensures

-- behind the links: what the statement is
module _ (c : goal.After-write_items-arg-in-Words-1) where
  abbrev found_2 : Statement
  found_2 = c.in-Holds.statement

  is_2 : c.slot_at.result ≡ Holds found_2
  is_2 = c.in-Holds.is

  data_here_2 : (what : Data) (n : ℕ) (a : Arg) → found_2 ≡ of_code what n a
      → DataSlot (here_3 c) (place_3 c) what n c.frame_at-frame.result.now c.links_at-beside.result.now
  data_here_2 what n a e =
      data_slot (here_3 c) c.requires.0 (place_3 c) c.requires.1 c.slot_at.result (stands_3 c) n a what
      (is_2 ∙ ap Holds e) _ _ c.frame_at-frame.ensures c.links_at-beside.ensures

-- behind the links: what the statement is
module _ (c : goal.After-slice_known-in-Bytes-1) where
  abbrev found_3 : Statement
  found_3 = c.in-Holds.statement

  is_3 : c.slot_at.result ≡ Holds found_3
  is_3 = c.in-Holds.is

  data_here_3 : (what : Data) (n : ℕ) (a : Arg) → found_3 ≡ of_code what n a
      → DataSlot (here_6 c) (place_6 c) what n c.frame_at-frame.result.now c.links_at-beside.result.now
  data_here_3 what n a e =
      data_slot (here_6 c) c.requires.0 (place_6 c) c.requires.1 c.slot_at.result (stands_6 c) n a what
      (is_3 ∙ ap Holds e) _ _ c.frame_at-frame.ensures c.links_at-beside.ensures

-- behind the links: what the statement is
module _ (c : goal.After-slice_known-in-Words-1) where
  abbrev found_4 : Statement
  found_4 = c.in-Holds.statement

  is_4 : c.slot_at.result ≡ Holds found_4
  is_4 = c.in-Holds.is

  data_here_4 : (what : Data) (n : ℕ) (a : Arg) → found_4 ≡ of_code what n a
      → DataSlot (here_7 c) (place_7 c) what n c.frame_at-frame.result.now c.links_at-beside.result.now
  data_here_4 what n a e =
      data_slot (here_7 c) c.requires.0 (place_7 c) c.requires.1 c.slot_at.result (stands_7 c) n a what
      (is_4 ∙ ap Holds e) _ _ c.frame_at-frame.ensures c.links_at-beside.ensures

-- behind the links: what the statement is
module _ (c : goal.After-slice_known-in-Instr-1) where
  abbrev found_5 : Statement
  found_5 = c.in-Holds.statement

  is_5 : c.slot_at.result ≡ Holds found_5
  is_5 = c.in-Holds.is

count_is : (c : goal.After-slice_known-in-Instr-1) → c.size_at.result ≡ size_of (here_8 c) (place_8 c)
count_is c =
    let t = c.args.state.now in
    c.size_at.ensures (carry_in t) (owners_in t) (offsets_in t) ∙ ap (λ a. byte_count a (slot_at (here_8 c).slots (place_8 c))) (q_is_8 c)

pub write_code-requires : goal.write_code-requires
write_code-requires c =
    let h = code_is c in
    let n = bytes_count (here c) (place c) h.bytes h.is ∙ sym (size_here_lem (here c) c.requires.0 (place c) c.requires.1) in
    (omega (arith, h.len, h.short), λ some. omega (arith, c.requires.2 (omega (arith, some, h.len, n)), h.len, n, q_is c))

pub links_at-beside-requires : goal.links_at-beside-requires
links_at-beside-requires c =
    spans c.args.frames.now (starts_in c.args.state.now) c.args.count c.requires.0.sound.held c.args.links.now c.requires.0.says.full
    c.args.at.0 c.requires.1

pub write_items-requires : goal.write_items-requires
write_items-requires c =
    let d = data_here c Bytes _ _ c.in-Bytes.is in
    (d.read, d.count, c.requires.0.sound.held.few, d.beside, omega (arith, c.requires.2 (omega (arith, d.some, d.size)), d.size, q_is_2 c))

pub write_items-requires-in-Words : goal.write_items-requires-in-Words
write_items-requires-in-Words c =
    let d = data_here_2 c Words _ _ c.in-Words.is in
    (d.read, d.count, c.requires.0.sound.held.few, d.beside, omega (arith, c.requires.2 (omega (arith, d.some, d.size)), d.size, q_is_3 c))

-- a slot that is gone has no bytes
pub returns-in-Gone : goal.returns-in-Gone
returns-in-Gone c b e =
    let gone_is = none_stands (here_4 c).slots (place_4 c) c.slot_at.result (stands_4 c) c.in-Gone.is in
    let none : b ≡ [] = empty_is b (bytes_count (here_4 c) (place_4 c) b e ∙ ap (byte_count (position (program (here_4 c)) (place_4 c)))
    gone_is) in
    sym (ap (put (room_4 c) (where_at_4 c)) none ∙ put_none (room_4 c) (where_at_4 c))

pub returns-in-Ok : goal.returns-in-Ok
returns-in-Ok c b e =
    let h = code_is_2 c in
    let same : h.bytes ≡ b = ok_same (sym h.is ∙ e) in
    c.write_code.ensures
    ∙ ap (λ n. put (room_5 c) n (bytes_of_code c.in-Ok.code)) (q_is_5 c)
    ∙ ap (put (room_5 c) (where_at_5 c)) (h.holds ∙ same)

pub returns-in-Bytes : goal.returns-in-Bytes
returns-in-Bytes c b e =
    let d = data_here_3 c Bytes _ _ c.in-Bytes.is in
    c.write_items.ensures _ _ d.linked b (sym d.encodes ∙ e) ∙ ap (λ n. put (room_6 c) n b) (q_is_6 c)

pub returns-in-Words : goal.returns-in-Words
returns-in-Words c b e =
    let d = data_here_4 c Words _ _ c.in-Words.is in
    c.write_items-in-Words.ensures _ _ d.linked b (sym d.encodes ∙ e) ∙ ap (λ n. put (room_7 c) n b) (q_is_7 c)

pub returns-in-Instr : goal.returns-in-Instr
returns-in-Instr c b e =
    let other = ((stands_8 c).holds (found_5 c) (is_5 c)).other in
    let kind = kind_stands (here_8 c).slots (place_8 c) c.slot_at.result (stands_8 c) (found_5 c) (is_5 c) in
    let n : c.size_at.result ≡ size_here (here_8 c) (place_8 c) = count_is c ∙ size_here_lem (here_8 c) c.requires.0 (place_8 c)
    c.requires.1 in
    let zeros : replicate (size_here (here_8 c) (place_8 c)) 0 ≡ b =
    ok_same (sym (plain_zeros (here_8 c) (place_8 c) (rw kind (plain_tag (found_5 c) other (opened c.in-Instr.in-Instr-own.keys3)))) ∙ e) in
    c.clear.ensures ∙ ap (λ a. put (room_8 c) a (replicate c.size_at.result 0)) (q_is_8 c)
    ∙ ap (λ k. put (room_8 c) (where_at_8 c) (replicate k 0)) n ∙ ap (put (room_8 c) (where_at_8 c)) zeros
