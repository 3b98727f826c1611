-- `output::lines::instruction_length` meets its contract: its own bytes, and a transfer's target.
use Rattle.rules.specs.Forms.{is_transfer}
use mathlib.Core.Path.{◌≡◌, sym, ap, ◌∙◌}
use mathlib.Core.List.{List, ◌++◌}
use Prim.Native.Nat.{ℕ, ◌+◌, ◌≤◌}
use native.Mathlib.Omega.{arith}
use lib.ListN.{length, get_or, length-append}
use Rattle.listing.specs.Tables.{frame_at}
use Rattle.slots.specs.Slots.{Slots, slots}
use Rattle.output.specs.Lines.{own_end, own_bytes, target_bytes, carried_bytes}
use Rattle.output.proofs.Sizes.{length_own, carried_transfer, carried_other, frame_most}
use Rattle.output.proofs.Targets.{end_within}
use Rattle.slots.specs.State.{starts_in, forms_in, carry_in, owners_in}
use Rattle.output.proofs.lines.instruction_length.Goals as goal
use Rattle.output.proofs.lines.instruction_length.Goals.{After-is_transfer}

-- the frame and the form of a start, and its tables
module _ (s : After-is_transfer) where
  abbrev frame : List ℕ
  frame = frame_at s.args.frames.now (starts_in s.args.state.now) s.args.at.0

  abbrev form : ℕ
  form = get_or (forms_in s.args.state.now) s.args.at.0 0

  abbrev from : ℕ
  from = get_or (carry_in s.args.state.now) s.args.at.0 0

  abbrev over : List ℕ → Slots
  over offsets = slots s.args.frames.now (starts_in s.args.state.now) s.args.count (forms_in s.args.state.now) (carry_in s.args.state.now)
      (owners_in s.args.state.now) offsets

  own_is : s.own_end-own.result ≡ own_end frame
  own_is = s.own_end-own.ensures ∙ ap own_end s.frame_at-frame.ensures

  most : s.own_end-own.result ≤ 28672
  most =
      omega (
        arith,
        own_is,
        (end_within s.args.at.0 frame s.requires.own.reads).1,
        frame_most s.args.frames.now (starts_in s.args.state.now) s.args.count s.requires.held s.args.at.0 s.requires.own.inside,
      )

  all_length : (x : List ℕ) → length (own_bytes form frame ++ x) ≡ s.own_end-own.result + length x
  all_length x =
      length-append (own_bytes form frame) x
      ∙ ap (λ n. n + length x) (length_own form s.args.at.0 frame s.requires.own.reads ∙ sym own_is)

pub overflow_add-result : goal.overflow_add-result
overflow_add-result c = omega (arith, most (goal.at.overflow_add-result c).After-is_transfer, c.target_length.ensures.0)

pub returns-then-is_transfer : goal.returns-then-is_transfer
returns-then-is_transfer c =
    let s = (goal.at.returns-then-is_transfer c).After-is_transfer in (
      omega (arith, most s, c.target_length.ensures.0),
      λ offsets positions.
          let carried = carried_transfer (over s offsets) positions (form s) (from s) (sym (ap is_transfer c.form_in.ensures)
          ∙ sym c.is_transfer.ensures ∙ c.if-is_transfer.true) in
          let n = c.target_length.ensures.1 offsets positions ∙ ap (λ k. length (target_bytes c.args.frames.now
          (starts_in c.args.state.now) (owners_in c.args.state.now) offsets positions k)) c.carry_at.ensures in
          let m = ap length carried in
          omega (arith, all_length s (carried_bytes (over s offsets) positions (form s) (from s))),
    )

pub returns-else-is_transfer : goal.returns-else-is_transfer
returns-else-is_transfer c =
    let s = (goal.at.returns-else-is_transfer c).After-is_transfer in (
      omega (arith, most s),
      λ offsets positions.
          let carried = carried_other (over s offsets) positions (form s) (from s) (sym (ap is_transfer c.form_in.ensures)
          ∙ sym c.is_transfer.ensures ∙ c.if-is_transfer.false) in
          let m = ap length carried in
          omega (arith, all_length s (carried_bytes (over s offsets) positions (form s) (from s))),
    )
