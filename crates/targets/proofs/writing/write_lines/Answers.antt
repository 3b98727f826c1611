-- `targets::writing::write_lines` meets its contract. The loop's invariant: the room is filled with the lines of the first i places.
use mathlib.Core.Path.{◌≡◌, sym, ap, ◌∙◌, subst}
use mathlib.Core.List.{List, []}
use mathlib.Core.Bool.{true}
use Prim.Native.Nat.{ℕ, ◌+◌, ◌*◌, ◌≤◌, ◌<◌}
use native.Mathlib.Omega.{arith}
use lib.ListN.{length, get_or}
use borrow.Author.Tests.{not-true, not-false}
use Rattle.rules.specs.Forms.{is_transfer}
use Rattle.rules.specs.Programs.{Program, at}
use Rattle.listing.specs.Tables.{input_of}
use Rattle.slots.specs.Slots.{Slots, program_of}
use Rattle.slots.specs.State.{starts_in, carry_in, owners_in, offsets_in, table_of}
use Rattle.patterns.specs.Targets.{form_in}
use Rattle.digits.specs.Digits.{laid}
use Rattle.targets.specs.Targets.{target_at, is_same, target_line}
use Rattle.targets.specs.Aimed.{AimIs}
use Rattle.targets.specs.Entry.{mark_of}
use Rattle.targets.proofs.Same.{length_aim}
use Rattle.targets.proofs.Listed.{mark_low, written_start, written_other, written_length, written_room, written_one}
use Rattle.targets.proofs.Reading.{carried_is, carried_inside, carried_transfers}
use mathlib.Core.Bool.{not}
use Rattle.targets.proofs.writing.write_lines.Goals as goal

abbrev read_from : (frames : List ℕ) (state : List (List ℕ)) (count : ℕ) → Program
read_from frames state count = input_of frames (starts_in state) count

abbrev here : (s : goal.After-slice_known-1) → Slots
here s = table_of s.args.frames.now s.args.state.now s.args.count

abbrev here_2 : (s : goal.Then-not-is_transfer) → Slots
here_2 s = table_of s.args.frames.now s.args.state.now s.args.count

abbrev here_3 : (s : goal.After-put_target-arg-1) → Slots
here_3 s = table_of s.args.frames.now s.args.state.now s.args.count

abbrev here_4 : (s : goal.After-put_target-arg-in-loop-i-2-1) → Slots
here_4 s = table_of s.args.frames.now s.args.state.now s.args.count

abbrev here_5 : (s : goal.After-slice_known-in-loop-i-1) → Slots
here_5 s = table_of s.args.frames.now s.args.state.now s.args.count

abbrev read : (s : goal.After-slice_known-1) → Program
read s = read_from s.args.frames.now s.args.state.now s.args.count

abbrev read_2 : (s : goal.Then-not-is_transfer) → Program
read_2 s = read_from s.args.frames.now s.args.state.now s.args.count

abbrev read_4 : (s : goal.After-put_target-arg-in-loop-i-2-1) → Program
read_4 s = read_from s.args.frames.now s.args.state.now s.args.count

abbrev read_5 : (s : goal.After-slice_known-in-loop-i-1) → Program
read_5 s = read_from s.args.frames.now s.args.state.now s.args.count

abbrev end : (s : goal.After-slice_known-1) → Program
end s = program_of (here s)

abbrev end_2 : (s : goal.Then-not-is_transfer) → Program
end_2 s = program_of (here_2 s)

abbrev end_3 : (s : goal.After-put_target-arg-1) → Program
end_3 s = program_of (here_3 s)

abbrev end_4 : (s : goal.After-put_target-arg-in-loop-i-2-1) → Program
end_4 s = program_of (here_4 s)

abbrev end_5 : (s : goal.After-slice_known-in-loop-i-1) → Program
end_5 s = program_of (here_5 s)

-- what was asked is the transfer of the place
asked : (c : goal.Then-not-is_transfer) → c.is_transfer.result ≡ is_transfer (form_in (at (end_2 c) c.loop-i.i))
asked c =
    let z = c.args.state.now in
    c.is_transfer.ensures ∙ ap is_transfer (c.form_at.ensures (carry_in z) (owners_in z) (offsets_in z))

-- what was asked is the transfer of the place
asked_2 : (c : goal.After-put_target-arg-1) → c.is_transfer.result ≡ is_transfer (form_in (at (end_3 c) c.loop-i.i))
asked_2 c =
    let z = c.args.state.now in
    c.is_transfer.ensures ∙ ap is_transfer (c.form_at.ensures (carry_in z) (owners_in z) (offsets_in z))

-- what was asked is the transfer of the place
asked_3 : (c : goal.After-put_target-arg-in-loop-i-2-1) → c.is_transfer.result ≡ is_transfer (form_in (at (end_4 c) c.loop-i.i))
asked_3 c =
    let z = c.args.state.now in
    c.is_transfer.ensures ∙ ap is_transfer (c.form_at.ensures (carry_in z) (owners_in z) (offsets_in z))

-- what was asked is the transfer of the place
asked_4 : (c : goal.After-slice_known-in-loop-i-1) → c.is_transfer.result ≡ is_transfer (form_in (at (end_5 c) c.loop-i.i))
asked_4 c =
    let z = c.args.state.now in
    c.is_transfer.ensures ∙ ap is_transfer (c.form_at.ensures (carry_in z) (owners_in z) (offsets_in z))

-- ---- a transfer
module _ (c : goal.After-put_target-arg-1) where
  abbrev place : ℕ
  place = c.loop-i.i

  abbrev carry : ℕ
  carry = get_or (here_3 c).carry place 0

  inside : place < c.args.count
  inside = c.loop-i-test.true

  few : c.args.count ≤ 1024
  few = c.requires.0.held.few

  transfers : is_transfer (form_in (at (end_3 c) place)) ≡ true
  transfers = sym (asked_2 c) ∙ not-false _ (ap not c.if-not-is_transfer.false)

  carry_inside : carry < c.args.count
  carry_inside = carried_inside (here_3 c) c.requires.0 place inside transfers

-- ---- a transfer
module _ (c : goal.After-put_target-arg-in-loop-i-2-1) where
  abbrev place_2 : ℕ
  place_2 = c.loop-i.i

  abbrev carry_2 : ℕ
  carry_2 = get_or (here_4 c).carry place_2 0

  inside_2 : place_2 < c.args.count
  inside_2 = c.loop-i-test.true

  few_2 : c.args.count ≤ 1024
  few_2 = c.requires.0.held.few

  transfers_2 : is_transfer (form_in (at (end_4 c) place_2)) ≡ true
  transfers_2 = sym (asked_3 c) ∙ not-false _ (ap not c.if-not-is_transfer.false)

  carry_inside_2 : carry_2 < c.args.count
  carry_inside_2 = carried_inside (here_4 c) c.requires.0 place_2 inside_2 transfers_2

  length_out_2 : length c.loop-i.out ≡ length c.args.out.now
  length_out_2 =
      written_length (read_4 c) (end_4 c) c.args.out.now place_2 c.loop-i.n c.loop-i.marked c.loop-i.out c.loop-i.invariant
      c.args.count (omega (arith, inside_2)) c.requires.3

  room_2 : 45 * c.loop-i.n + 45 ≤ length c.args.out.now
  room_2 =
      written_room (read_4 c) (end_4 c) c.args.out.now place_2 c.loop-i.n c.loop-i.marked c.loop-i.out c.loop-i.invariant
      c.args.count (omega (arith, inside_2)) c.requires.3 inside_2 transfers_2

  came_to_2 : AimIs (read_4 c) carry_2 (get_or c.args.before.now carry_2 [])
  came_to_2 = c.requires.1.aim carry_2 carry_inside_2 (carried_transfers (here_4 c) c.requires.0 place_2 inside_2 transfers_2)

  comes_to_2 : AimIs (end_4 c) place_2 (get_or c.args.after.now place_2 [])
  comes_to_2 = c.requires.2.aim place_2 inside_2 transfers_2

-- ---- a transfer
module _ (c : goal.After-slice_known-in-loop-i-1) where
  abbrev place_3 : ℕ
  place_3 = c.loop-i.i

  abbrev carry_3 : ℕ
  carry_3 = get_or (here_5 c).carry place_3 0

  inside_3 : place_3 < c.args.count
  inside_3 = c.loop-i-test.true

  few_3 : c.args.count ≤ 1024
  few_3 = c.requires.0.held.few

  transfers_3 : is_transfer (form_in (at (end_5 c) place_3)) ≡ true
  transfers_3 = sym (asked_4 c) ∙ not-false _ (ap not c.if-not-is_transfer.false)

  carry_inside_3 : carry_3 < c.args.count
  carry_inside_3 = carried_inside (here_5 c) c.requires.0 place_3 inside_3 transfers_3

  came_to_3 : AimIs (read_5 c) carry_3 (get_or c.args.before.now carry_3 [])
  came_to_3 = c.requires.1.aim carry_3 carry_inside_3 (carried_transfers (here_5 c) c.requires.0 place_3 inside_3 transfers_3)

  comes_to_3 : AimIs (end_5 c) place_3 (get_or c.args.after.now place_3 [])
  comes_to_3 = c.requires.2.aim place_3 inside_3 transfers_3

carry_low : (c : goal.After-put_target-arg-1) → c.carry_at-c.result.0 < 1024
carry_low c = omega (arith, c.carry_at-c.ensures, carry_inside c, few c)

carry_low_2 : (c : goal.After-put_target-arg-in-loop-i-2-1) → c.carry_at-c.result.0 < 1024
carry_low_2 c = omega (arith, c.carry_at-c.ensures, carry_inside_2 c, few_2 c)

-- as it is read from the table
came_by : (c : goal.After-put_target-arg-in-loop-i-2-1) → AimIs (read_4 c) c.carry_at-c.result.0
    (get_or c.args.before.now c.carry_at-c.result.0 [])
came_by c =
    subst (λ (k : ℕ). AimIs (read_4 c) k (get_or c.args.before.now k [])) (sym c.carry_at-c.ensures) (came_to_2 c)

-- as it is read from the table
came_by_2 : (c : goal.After-slice_known-in-loop-i-1) → AimIs (read_5 c) c.carry_at-c.result.0
    (get_or c.args.before.now c.carry_at-c.result.0 [])
came_by_2 c =
    subst (λ (k : ℕ). AimIs (read_5 c) k (get_or c.args.before.now k [])) (sym c.carry_at-c.ensures) (came_to_3 c)

-- the line that was put
module _ (w : goal.After-slice_known-in-loop-i-1) where
  put : (w.put_target-marked.new.out ≡ laid w.loop-i.out (45 * w.loop-i.n)
      (target_line (target_at (read_5 w) (end_5 w) (place_3 w) w.carry_at-c.result.0)))
      × (w.put_target-marked.result ≡ mark_of (target_at (read_5 w) (end_5 w) (place_3 w) w.carry_at-c.result.0))
  put = w.put_target-marked.ensures (read_5 w) (end_5 w) (came_by_2 w) (comes_to_3 w)

pub loop-i-init : goal.loop-i-init
loop-i-init c = written_start (read c) (end c) c.args.out.now

pub loop-i-preserved-then-not-is_transfer : goal.loop-i-preserved-then-not-is_transfer
loop-i-preserved-then-not-is_transfer c =
    written_other (read_2 c) (end_2 c) c.args.out.now c.loop-i.i c.loop-i.n c.loop-i.marked c.loop-i.out c.loop-i.invariant
    (sym (asked c) ∙ not-true _ (ap not c.if-not-is_transfer.true))

pub offset_bounds-before-c : goal.offset_bounds-before-c
offset_bounds-before-c c = omega (arith, carry_low c)

pub bounds-before-c : goal.bounds-before-c
bounds-before-c c = carry_low c

pub put_target-marked-requires : goal.put_target-marked-requires
put_target-marked-requires c = (
  omega (arith, room_2 c, length_out_2 c),
  omega (arith, inside_2 c, few_2 c),
  omega (arith, carry_low_2 c),
  length_aim _ _ _
      (came_by c),
  length_aim _ _ _ (comes_to_2 c),
)

pub overflow_add-marked : goal.overflow_add-marked
overflow_add-marked c =
    omega (
      arith,
      (put c).1,
      mark_low (is_same (target_at (read_5 c) (end_5 c) (place_3 c) c.carry_at-c.result.0)),
      c.loop-i.invariant.marked_few,
      inside_3 c,
      few_3 c,
    )

pub loop-i-preserved : goal.loop-i-preserved
loop-i-preserved c =
    written_one (read_5 c) (end_5 c) c.args.out.now (place_3 c) c.loop-i.n c.loop-i.marked c.loop-i.out c.loop-i.invariant c.args.count
    (omega (arith, inside_3 c)) c.requires.3
    (inside_3 c) (transfers_3 c) c.carry_at-c.result.0 c.put_target-marked.result _
    (c.carry_at-c.ensures ∙ carried_is (here_5 c) c.requires.0 (place_3 c) (inside_3 c) (transfers_3 c)) (put c).0 (put c).1
