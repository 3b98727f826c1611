-- `output::text::put_instruction` meets its contract: its own bytes, and a transfer's target behind them.
use mathlib.Core.Path.{◌≡◌, sym, ap, ◌∙◌}
use mathlib.Core.Bool.{true}
use mathlib.Core.List.{List, [], append-nil}
use Prim.Native.Nat.{ℕ, ◌+◌, ◌*◌, ◌≤◌}
use native.Mathlib.Omega.{arith}
use lib.ListN.{length, get_or, length-append}
use Rattle.rules.specs.Forms.{is_transfer}
use Rattle.listing.specs.Tables.{frame_at}
use Rattle.slots.specs.Slots.{Slots}
use Rattle.output.specs.Digits.{Put}
use Rattle.output.specs.Lines.{own_end, own_bytes, target_bytes, carried_bytes}
use Rattle.output.proofs.Rooms.{put_more}
use Rattle.output.proofs.Sizes.{length_own, carried_transfer, carried_other}
use Rattle.slots.specs.State.{table_of}
use Rattle.output.proofs.text.put_instruction.Goals as goal
use Rattle.output.proofs.text.put_instruction.Goals.{After-frame_at-frame, After-put_own-end, After-carry_at-from}

-- the own bytes of place i, and the target that it carries
module _ (t : Slots) (i : ℕ) where
  abbrev own : List ℕ
  own = own_bytes (get_or t.forms i 0) (frame_at t.frames t.starts i)

  abbrev carried : (positions : List ℕ) → List ℕ
  carried positions = carried_bytes t positions (get_or t.forms i 0) (get_or t.carry i 0)

-- the tables; the own bytes have room, with the target behind them
module _ (s : After-frame_at-frame) where
  abbrev over : Slots
  over = table_of s.args.frames.now s.args.state.now s.args.count

  own_length : length (own over s.args.place.0) ≡ own_end s.frame_at-frame.result.now
  own_length =
      length_own (get_or over.forms s.args.place.0 0) s.args.place.0 _ s.requires.0.own.reads
      ∙ ap own_end (sym s.frame_at-frame.ensures)

  room : s.args.at + 2 * (length (own over s.args.place.0) + length (carried over s.args.place.0 s.args.positions.now))
      ≤ length s.args.out.now
  room = omega (arith, length-append (own over s.args.place.0) (carried over s.args.place.0 s.args.positions.now))

-- the own bytes stand there
put : (s : After-put_own-end) → Put s.args.out.now s.args.at (own (table_of s.args.frames.now s.args.state.now s.args.count) s.args.place.0)
    s.put_own-end.new.out s.put_own-end.result
put s = rw (← s.frame_at-frame.ensures, ← s.form_in-form.ensures) s.put_own-end.ensures

-- a transfer's target is that of the place that it carries
module _ (s : After-carry_at-from) where
  abbrev tables : Slots
  tables = table_of s.args.frames.now s.args.state.now s.args.count

  transfers : is_transfer (get_or tables.forms s.args.place.0 0) ≡ true
  transfers = sym (ap is_transfer s.form_in-form.ensures) ∙ sym s.is_transfer.ensures ∙ s.if-is_transfer.true

  target_is : target_bytes s.args.frames.now tables.starts tables.owners tables.offsets s.args.positions.now s.carry_at-from.result.0
      ≡ carried tables s.args.place.0 s.args.positions.now
  target_is =
      ap (target_bytes s.args.frames.now tables.starts tables.owners tables.offsets s.args.positions.now) s.carry_at-from.ensures
      ∙ sym (carried_transfer tables s.args.positions.now _ _ transfers)

pub put_own-end-requires : goal.put_own-end-requires
put_own-end-requires c =
    let s = (goal.at.put_own-end-requires c).After-frame_at-frame in
    let e = c.frame_at-frame.ensures in (
      rw e c.requires.0.own.reads,
      omega (arith, own_length s, room s),
      omega (arith, c.requires.0.own.inside, c.requires.0.held.few),
      rw e (c.requires.0.held.noted c.args.place.0 c.requires.0.own.inside),
    )

pub put_target-requires : goal.put_target-requires
put_target-requires c =
    let s = (goal.at.put_target-requires c).After-carry_at-from in (
      c.requires.0.held,
      rw c.carry_at-from.ensures (c.requires.0.target (transfers s)),
      rw c.carry_at-from.ensures (c.requires.1 (transfers s)),
      omega (
        arith,
        room (goal.at.put_target-requires c).After-frame_at-frame,
        (put (goal.at.put_target-requires c).After-put_own-end).ends,
        ap length (target_is s),
      ),
    )

pub returns-then-is_transfer : goal.returns-then-is_transfer
returns-then-is_transfer c =
    let s = (goal.at.returns-then-is_transfer c).After-carry_at-from in
    let b = (goal.at.returns-then-is_transfer c).After-frame_at-frame in
    let target = carried (tables s) c.args.place.0 c.args.positions.now in
    let behind : Put c.put_own-end.new.out c.put_own-end.result target c.put_target.new.out c.put_target.result =
    rw (← target_is s) c.put_target.ensures in
    put_more c.args.out.now c.args.at (own (over b) c.args.place.0) c.put_own-end.new.out c.put_own-end.result target
    c.put_target.new.out c.put_target.result (put (goal.at.returns-then-is_transfer c).After-put_own-end) behind (room b)

pub returns : goal.returns
returns c =
    let b = (goal.at.returns c).After-frame_at-frame in
    let none : carried (over b) c.args.place.0 c.args.positions.now ≡ [] = carried_other (over b) c.args.positions.now _ _
    (sym (ap is_transfer c.form_in-form.ensures) ∙ sym c.is_transfer.ensures ∙ c.if-is_transfer.false) in
    rw (none, append-nil) (put (goal.at.returns c).After-put_own-end)
