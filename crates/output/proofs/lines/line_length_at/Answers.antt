-- `output::lines::line_length_at` meets its contract: nothing, an instruction, or a frame.
use mathlib.Core.Path.{◌≡◌, sym, ap, ◌∙◌}
use mathlib.Core.List.{List}
use Prim.Native.Nat.{ℕ, ◌≤◌}
use native.Mathlib.Omega.{arith}
use borrow.Author.Rules.{rules}
use lib.ListN.{length, get_or}
use Rattle.laws.specs.Counts.{tab}
use Rattle.rules.specs.Layout.{position}
use Rattle.rules.specs.Listing.{ListingForm}
use Rattle.rules.specs.Programs.{kind_of}
use Rattle.expression.specs.Sound.{AreBytes}
use Rattle.listing.specs.Form.{form_of}
use Rattle.slots.specs.Slots.{Slots, slots, slot_at, program_of}
use Rattle.slots.specs.State.{starts_in, forms_in, carry_in, owners_in}
use Rattle.slots.specs.Meaning.{kind_in, Stands}
use Rattle.output.proofs.Slots.{line_gone, bytes_instr, bytes_other}
use Rattle.output.proofs.Sizes.{frame_most, line_size, drawn}
use Rattle.output.proofs.lines.line_length_at.Goals as goal

-- the tables, the form of the listing and what stands in the slot, whatever the offsets
module _ (c : goal.In-Form) (offsets : List ℕ) where
  abbrev over : Slots
  over = slots c.args.frames.now (starts_in c.args.state.now) c.args.count (forms_in c.args.state.now) (carry_in c.args.state.now)
      (owners_in c.args.state.now) offsets

  stands : Stands over c.args.at.0 c.slot_at.result
  stands = c.slot_at.ensures (carry_in c.args.state.now) (owners_in c.args.state.now) offsets

-- the tables, the form of the listing and what stands in the slot, whatever the offsets
module _ (c : goal.After-frame_at) (offsets : List ℕ) where
  abbrev form_2 : ListingForm
  form_2 = form_of c.args.marked

  abbrev over_2 : Slots
  over_2 = slots c.args.frames.now (starts_in c.args.state.now) c.args.count (forms_in c.args.state.now) (carry_in c.args.state.now)
      (owners_in c.args.state.now) offsets

  stands_2 : Stands over_2 c.args.at.0 c.slot_at.result
  stands_2 = c.slot_at.ensures (carry_in c.args.state.now) (owners_in c.args.state.now) offsets

  all_bytes_2 : AreBytes c.args.frames.now
  all_bytes_2 i = search rules

-- the tables, the form of the listing and what stands in the slot, whatever the offsets
module _ (c : goal.In-Gone) (offsets : List ℕ) where
  abbrev form_3 : ListingForm
  form_3 = form_of c.args.marked

  abbrev over_3 : Slots
  over_3 = slots c.args.frames.now (starts_in c.args.state.now) c.args.count (forms_in c.args.state.now) (carry_in c.args.state.now)
      (owners_in c.args.state.now) offsets

  stands_3 : Stands over_3 c.args.at.0 c.slot_at.result
  stands_3 = c.slot_at.ensures (carry_in c.args.state.now) (owners_in c.args.state.now) offsets

-- the tables, the form of the listing and what stands in the slot, whatever the offsets
module _ (c : goal.After-instruction_length) (offsets : List ℕ) where
  abbrev form_4 : ListingForm
  form_4 = form_of c.args.marked

  abbrev over_4 : Slots
  over_4 = slots c.args.frames.now (starts_in c.args.state.now) c.args.count (forms_in c.args.state.now) (carry_in c.args.state.now)
      (owners_in c.args.state.now) offsets

  stands_4 : Stands over_4 c.args.at.0 c.slot_at.result
  stands_4 = c.slot_at.ensures (carry_in c.args.state.now) (owners_in c.args.state.now) offsets

  all_bytes_4 : AreBytes c.args.frames.now
  all_bytes_4 i = search rules

-- an instruction
one : (c : goal.In-Form) (offsets : List ℕ) →
    kind_of (slot_at (over c offsets) c.args.at.0) ≡ 1
one c offsets = (stands c offsets).kind ∙ ap kind_in c.in-Form.is

-- an instruction
one_2 : (c : goal.After-instruction_length) (offsets : List ℕ) →
    kind_of (slot_at (over_4 c offsets) c.args.at.0) ≡ 1
one_2 c offsets = (stands_4 c offsets).kind ∙ ap kind_in c.in-Form.is

-- any other statement
module _ (c : goal.After-frame_at) where
  most : length c.frame_at.result.now ≤ 28672
  most =
      omega (
        arith,
        ap length c.frame_at.ensures,
        frame_most c.args.frames.now (starts_in c.args.state.now) c.args.count
            c.requires.0.1.held c.args.at.0 c.requires.1,
      )

  above : (offsets : List ℕ) → 2 ≤ kind_of (slot_at (over_2 c offsets) c.args.at.0)
  above offsets =
      omega (arith, (stands_2 c offsets).kind, ap kind_in c.in-Holds.is, ((stands_2 c offsets).holds _ c.in-Holds.is).other)

pub instruction_length-requires : goal.instruction_length-requires
instruction_length-requires c =
    let o = c.requires.0.0 in
    drawn (over c o) c.requires.0.1 c.args.at.0 c.requires.1 (one c o)

pub overflow_mul-result-in-Holds : goal.overflow_mul-result-in-Holds
overflow_mul-result-in-Holds c = omega (arith, most c, c.line_bytes-b.ensures.1)

pub overflow_add-result-in-Holds-2 : goal.overflow_add-result-in-Holds-2
overflow_add-result-in-Holds-2 c = omega (arith, most c, c.line_bytes-b.ensures.1)

pub returns-in-Gone : goal.returns-in-Gone
returns-in-Gone c = (
  omega arith,
  λ lines offsets sound.
      sym (ap length (line_gone (form_3 c offsets) (get_or lines c.args.at.0 0) (program_of (over_3 c offsets))
      (slot_at (over_3 c offsets) _) ((stands_3 c offsets).kind ∙ ap kind_in c.in-Gone.is))),
)

pub returns-in-Form : goal.returns-in-Form
returns-in-Form c =
    let b = c.line_bytes-b.ensures in (
      omega (arith, c.instruction_length.ensures.0, b.1),
      λ lines offsets sound.
          let t = over_4 c offsets in
          let positions = tab (position (program_of t)) t.count in
          let is = one_2 c offsets in
          let n = line_size (form_4 c offsets) (get_or lines c.args.at.0 0) t sound (all_bytes_4 c offsets) c.args.at.0 c.requires.1
          (omega (arith, is)) in
          let m = ap length (bytes_instr t positions c.args.at.0 is) in
          omega (arith, n, m, b.0, c.instruction_length.ensures.1 offsets positions),
    )

pub returns-in-Holds : goal.returns-in-Holds
returns-in-Holds c =
    let b = c.line_bytes-b.ensures in (
      omega (arith, most c, b.1),
      λ lines offsets sound.
          let t = over_2 c offsets in
          let positions = tab (position (program_of t)) t.count in
          let n = line_size (form_2 c offsets) (get_or lines c.args.at.0 0) t sound (all_bytes_2 c offsets) c.args.at.0 c.requires.1
          (omega (arith, above c offsets)) in
          let m = ap length (bytes_other t positions c.args.at.0 (λ e. omega (arith, above c offsets))) in
          omega (arith, n, m, b.0, ap length c.frame_at.ensures),
    )
