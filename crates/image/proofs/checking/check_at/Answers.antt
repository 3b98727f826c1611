-- `checking::check_at` meets its contract, variant by variant.
use borrow.Enum.Refused.{opened}
use mathlib.Core.Path.{◌≡◌, sym, ap, ◌∙◌}
use mathlib.Core.Bool.{true}
use Prim.Native.Nat.{ℕ}
use Rattle.std.specs.Prelude.{Ok}
use Rattle.rules.specs.declared.Arg.{Arg}
use Rattle.rules.specs.declared.Statement.{Statement}
use Rattle.rules.specs.Programs.{kind_of}
use Rattle.slots.specs.declared.Slot.TheVariants.{Holds}
use Rattle.slots.specs.Slots.{slot_at}
use Rattle.slots.specs.State.{starts_in, carry_in, owners_in, offsets_in}
use Rattle.slots.specs.Meaning.{kind_in, Stands}
use Rattle.slots.proofs.Linking.{spans}
use Rattle.slots.proofs.Stands.{kind_stands}
use Rattle.image.specs.declared.data.Data.{Data}
use Rattle.image.specs.declared.data.Data.TheVariants.{Bytes, Words}
use Rattle.image.specs.Tables.{Tables, tables_of}
use Rattle.image.specs.Encoding.{encode_at, checked_as, write_of}
use Rattle.image.proofs.Passes.{plain, plain_tag, plain_zeros}
use Rattle.image.proofs.DataSlots.{DataSlot, of_code, data_slot}
use Rattle.image.proofs.checking.check_at.Goals as goal

module _ (c : goal.In-Bytes) where
  abbrev here : Tables
  here =
      tables_of c.args.frames.now c.args.state.now c.args.count
      c.args.links.now c.args.values.now c.args.positions.now

  abbrev place : ℕ
  place = c.args.at.0

  stands : Stands here.slots place c.slot_at.result
  stands = c.slot_at.ensures (carry_in c.args.state.now) (owners_in c.args.state.now) (offsets_in c.args.state.now)

module _ (c : goal.In-Words) where
  abbrev here_2 : Tables
  here_2 =
      tables_of c.args.frames.now c.args.state.now c.args.count
      c.args.links.now c.args.values.now c.args.positions.now

  abbrev place_2 : ℕ
  place_2 = c.args.at.0

  stands_2 : Stands here_2.slots place_2 c.slot_at.result
  stands_2 = c.slot_at.ensures (carry_in c.args.state.now) (owners_in c.args.state.now) (offsets_in c.args.state.now)

module _ (c : goal.In-Gone) where
  abbrev here_3 : Tables
  here_3 =
      tables_of c.args.frames.now c.args.state.now c.args.count
      c.args.links.now c.args.values.now c.args.positions.now

  abbrev place_3 : ℕ
  place_3 = c.args.at.0

  stands_3 : Stands here_3.slots place_3 c.slot_at.result
  stands_3 = c.slot_at.ensures (carry_in c.args.state.now) (owners_in c.args.state.now) (offsets_in c.args.state.now)

  passes_3 : plain (kind_of (slot_at here_3.slots place_3)) ≡ true → (Ok tt) ≡ checked_as (encode_at here_3 place_3)
  passes_3 o = sym (ap checked_as (plain_zeros here_3 place_3 o))

module _ (c : goal.After-check_items) where
  abbrev here_4 : Tables
  here_4 =
      tables_of c.args.frames.now c.args.state.now c.args.count
      c.args.links.now c.args.values.now c.args.positions.now

  abbrev place_4 : ℕ
  place_4 = c.args.at.0

  stands_4 : Stands here_4.slots place_4 c.slot_at.result
  stands_4 = c.slot_at.ensures (carry_in c.args.state.now) (owners_in c.args.state.now) (offsets_in c.args.state.now)

module _ (c : goal.After-check_items-in-Words) where
  abbrev here_5 : Tables
  here_5 =
      tables_of c.args.frames.now c.args.state.now c.args.count
      c.args.links.now c.args.values.now c.args.positions.now

  abbrev place_5 : ℕ
  place_5 = c.args.at.0

  stands_5 : Stands here_5.slots place_5 c.slot_at.result
  stands_5 = c.slot_at.ensures (carry_in c.args.state.now) (owners_in c.args.state.now) (offsets_in c.args.state.now)

module _ (c : goal.In-Instr) where
  abbrev here_6 : Tables
  here_6 =
      tables_of c.args.frames.now c.args.state.now c.args.count
      c.args.links.now c.args.values.now c.args.positions.now

  abbrev place_6 : ℕ
  place_6 = c.args.at.0

  stands_6 : Stands here_6.slots place_6 c.slot_at.result
  stands_6 = c.slot_at.ensures (carry_in c.args.state.now) (owners_in c.args.state.now) (offsets_in c.args.state.now)

  passes_6 : plain (kind_of (slot_at here_6.slots place_6)) ≡ true → (Ok tt) ≡ checked_as (encode_at here_6 place_6)
  passes_6 o = sym (ap checked_as (plain_zeros here_6 place_6 o))

-- behind the links: what the statement is
module _ (c : goal.In-Bytes) where
  abbrev found : Statement
  found = c.in-Holds.statement

  is : c.slot_at.result ≡ Holds found
  is = c.in-Holds.is

  data_here : (what : Data) (n : ℕ) (a : Arg) → found ≡ of_code what n a
      → DataSlot (here c) (place c) what n c.frame_at-frame.result.now c.links_at-beside.result.now
  data_here what n a e =
      data_slot (here c) c.requires.0 (place c) c.requires.1 c.slot_at.result (stands c) n a what
      (is ∙ ap Holds e) _ _ c.frame_at-frame.ensures c.links_at-beside.ensures

-- behind the links: what the statement is
module _ (c : goal.In-Words) where
  abbrev found_2 : Statement
  found_2 = c.in-Holds.statement

  is_2 : c.slot_at.result ≡ Holds found_2
  is_2 = c.in-Holds.is

  data_here_2 : (what : Data) (n : ℕ) (a : Arg) → found_2 ≡ of_code what n a
      → DataSlot (here_2 c) (place_2 c) what n c.frame_at-frame.result.now c.links_at-beside.result.now
  data_here_2 what n a e =
      data_slot (here_2 c) c.requires.0 (place_2 c) c.requires.1 c.slot_at.result (stands_2 c) n a what
      (is_2 ∙ ap Holds e) _ _ c.frame_at-frame.ensures c.links_at-beside.ensures

-- behind the links: what the statement is
module _ (c : goal.After-check_items) where
  abbrev found_3 : Statement
  found_3 = c.in-Holds.statement

  is_3 : c.slot_at.result ≡ Holds found_3
  is_3 = c.in-Holds.is

  data_here_3 : (what : Data) (n : ℕ) (a : Arg) → found_3 ≡ of_code what n a
      → DataSlot (here_4 c) (place_4 c) what n c.frame_at-frame.result.now c.links_at-beside.result.now
  data_here_3 what n a e =
      data_slot (here_4 c) c.requires.0 (place_4 c) c.requires.1 c.slot_at.result (stands_4 c) n a what
      (is_3 ∙ ap Holds e) _ _ c.frame_at-frame.ensures c.links_at-beside.ensures

-- behind the links: what the statement is
module _ (c : goal.After-check_items-in-Words) where
  abbrev found_4 : Statement
  found_4 = c.in-Holds.statement

  is_4 : c.slot_at.result ≡ Holds found_4
  is_4 = c.in-Holds.is

  data_here_4 : (what : Data) (n : ℕ) (a : Arg) → found_4 ≡ of_code what n a
      → DataSlot (here_5 c) (place_5 c) what n c.frame_at-frame.result.now c.links_at-beside.result.now
  data_here_4 what n a e =
      data_slot (here_5 c) c.requires.0 (place_5 c) c.requires.1 c.slot_at.result (stands_5 c) n a what
      (is_4 ∙ ap Holds e) _ _ c.frame_at-frame.ensures c.links_at-beside.ensures

-- behind the links: what the statement is
module _ (c : goal.In-Instr) where
  abbrev found_5 : Statement
  found_5 = c.in-Holds.statement

  is_5 : c.slot_at.result ≡ Holds found_5
  is_5 = c.in-Holds.is

pub links_at-beside-requires : goal.links_at-beside-requires
links_at-beside-requires c =
    spans c.args.frames.now (starts_in c.args.state.now) c.args.count c.requires.0.sound.held c.args.links.now c.requires.0.says.full
    c.args.at.0 c.requires.1

pub check_items-requires : goal.check_items-requires
check_items-requires c =
    let d = data_here c Bytes _ _ c.in-Bytes.is in
    (d.read, d.count, c.requires.0.sound.held.few, d.beside)

pub check_items-requires-in-Words : goal.check_items-requires-in-Words
check_items-requires-in-Words c =
    let d = data_here_2 c Words _ _ c.in-Words.is in
    (d.read, d.count, c.requires.0.sound.held.few, d.beside)

pub returns-in-Gone : goal.returns-in-Gone
returns-in-Gone c = passes_3 c (ap plain ((stands_3 c).kind ∙ ap kind_in c.in-Gone.is))

pub returns-in-Bytes : goal.returns-in-Bytes
returns-in-Bytes c =
    let d = data_here_3 c Bytes _ _ c.in-Bytes.is in
    c.check_items.ensures _ _ d.linked (write_of Bytes) ∙ sym (ap checked_as d.encodes)

pub returns-in-Words : goal.returns-in-Words
returns-in-Words c =
    let d = data_here_4 c Words _ _ c.in-Words.is in
    c.check_items-in-Words.ensures _ _ d.linked (write_of Words) ∙ sym (ap checked_as d.encodes)

pub returns-in-Instr : goal.returns-in-Instr
returns-in-Instr c =
    let other = ((stands_6 c).holds (found_5 c) (is_5 c)).other in
    let kind = kind_stands (here_6 c).slots (place_6 c) c.slot_at.result (stands_6 c) (found_5 c) (is_5 c) in
    passes_6 c (rw kind (plain_tag (found_5 c) other (opened c.in-Instr.in-Instr-own.keys3)))
