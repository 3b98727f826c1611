-- `output::text::put_target` meets its contract: the number of an inner label, or the rest of the frame that wrote the target.
use mathlib.Core.Path.{◌≡◌, sym, ap, ◌∙◌}
use mathlib.Core.List.{List, ◌∷◌}
use Prim.Native.Nat.{ℕ, ◌+◌, ◌-◌, ◌≤◌, ◌<◌}
use native.Mathlib.Omega.{arith}
use lib.ListN.{length, get_or, take, drop, length-drop}
use Rattle.laws.proofs.Stores.{rest_is}
use Rattle.rules.specs.Expressions.{four}
use Rattle.listing.specs.Tables.{frame_at}
use Rattle.slots.specs.Slots.{no_owner}
use Rattle.digits.specs.Digits.{hex_of, laid}
use Rattle.output.specs.Lines.{own_end, target_bytes}
use Rattle.output.proofs.Sizes.{target_inner, target_own}
use Rattle.output.proofs.Targets.{end_within}
use Rattle.slots.specs.State.{starts_in, owners_in, offsets_in}
use Rattle.output.proofs.text.put_target.Goals as goal
use Rattle.output.proofs.text.put_target.Goals.{After-owner_at-owner, After-own_end-e}

-- the target's bytes: of an inner label, or as written
module _ (s : After-owner_at-owner) where
  abbrev place : ℕ
  place = s.args.from.0

  abbrev target : List ℕ
  target = target_bytes s.args.frames.now (starts_in s.args.state.now) (owners_in s.args.state.now) (offsets_in s.args.state.now)
      s.args.positions.now place

  abbrev number : ℕ
  number = get_or s.args.positions.now (get_or (owners_in s.args.state.now) place 0) 0 + get_or (offsets_in s.args.state.now) place 0

  as_number : s.owner_at-owner.result < no_owner → target ≡ 0 ∷ four number
  as_number h = target_inner s.args.frames.now (starts_in s.args.state.now) (owners_in s.args.state.now) (offsets_in s.args.state.now)
      s.args.positions.now place (omega arith)

-- the frame of its place, of which the rest is the target
module _ (s : After-own_end-e) where
  abbrev frame : List ℕ
  frame = frame_at s.args.frames.now (starts_in s.args.state.now) s.args.from.0

  abbrev written : List ℕ
  written = target_bytes s.args.frames.now (starts_in s.args.state.now) (owners_in s.args.state.now) (offsets_in s.args.state.now)
      s.args.positions.now s.args.from.0

  as_written : written ≡ drop (own_end frame) frame
  as_written = target_own s.args.frames.now (starts_in s.args.state.now) (owners_in s.args.state.now) (offsets_in s.args.state.now)
      s.args.positions.now s.args.from.0 (omega arith)

  size : length s.frame_at-frame.result.now ≡ length frame
  size = ap length s.frame_at-frame.ensures

  ends_at : s.own_end-e.result ≡ own_end frame
  ends_at = s.own_end-e.ensures ∙ ap own_end s.frame_at-frame.ensures

  within : s.own_end-e.result ≤ length s.frame_at-frame.result.now
  within = omega (arith, ends_at, size, (end_within s.args.from.0 frame s.requires.1.reads).1)

  part_is : let r = s.frame_at-frame.result.now in take (length r - s.own_end-e.result) (drop s.own_end-e.result r) ≡ written
  part_is =
      rest_is s.own_end-e.result s.frame_at-frame.result.now ∙ ap (λ k. drop k s.frame_at-frame.result.now) ends_at
      ∙ ap (drop (own_end frame)) s.frame_at-frame.ensures
      ∙ sym as_written

  rest_length : length s.frame_at-frame.result.now - s.own_end-e.result ≡ length written
  rest_length = omega (arith, ends_at, size, ap length as_written, length-drop (own_end frame) frame)

pub put_number-requires : goal.put_number-requires
put_number-requires c =
    let s = (goal.at.put_number-requires c).After-owner_at-owner in
    omega (arith, ap length (as_number s c.if-owner-lt-NO_OWNER.true))

pub returns-then-owner-lt-NO_OWNER : goal.returns-then-owner-lt-NO_OWNER
returns-then-owner-lt-NO_OWNER c =
    let a = c.args in
    let s = (goal.at.returns-then-owner-lt-NO_OWNER c).After-owner_at-owner in
    let inner = as_number s c.if-owner-lt-NO_OWNER.true in
    let sum =
    ap (λ k. get_or a.positions.now k 0 + c.from.result) c.owner_at-owner.ensures
    ∙ ap (λ n. get_or a.positions.now (get_or (owners_in a.state.now) (place s) 0) 0 + n) c.from.ensures in
    record {
      is = c.put_number.ensures ∙ ap (λ n. laid a.out.now a.at (hex_of (0 ∷ four n))) sum ∙ ap (λ l. laid a.out.now a.at (hex_of l))
          (sym inner);
      ends = omega (arith, ap length inner);
    }

pub slice_bounds-put_bytes-count : goal.slice_bounds-put_bytes-count
slice_bounds-put_bytes-count c = within (goal.at.slice_bounds-put_bytes-count c).After-own_end-e

pub slice_bounds-put_bytes-start : goal.slice_bounds-put_bytes-start
slice_bounds-put_bytes-start c = within (goal.at.slice_bounds-put_bytes-start c).After-own_end-e

pub put_bytes-requires : goal.put_bytes-requires
put_bytes-requires c = omega (arith, ap length (part_is (goal.at.put_bytes-requires c).After-own_end-e))

pub overflow_sub-result : goal.overflow_sub-result
overflow_sub-result c = within (goal.at.overflow_sub-result c).After-own_end-e

pub overflow_add-result-2 : goal.overflow_add-result-2
overflow_add-result-2 c =
    record { fits = omega (arith, c.requires.3, rest_length (goal.at.overflow_add-result-2 c).After-own_end-e, c.well_formed) }

pub returns : goal.returns
returns c =
    let s = (goal.at.returns c).After-own_end-e in
    record {
      is = c.put_bytes.ensures ∙ ap (λ l. laid c.args.out.now c.args.at (hex_of l)) (part_is s);
      ends = omega (arith, rest_length s);
    }
