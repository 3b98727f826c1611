-- `output::lines::target_length` meets its contract: five bytes of a plain number, or what is left of the frame.
use Rattle.slots.specs.Slots.{no_owner}
use mathlib.Core.Path.{◌≡◌, sym, ap, ◌∙◌}
use mathlib.Core.List.{List}
use Prim.Native.Nat.{ℕ, ◌-◌, ◌≤◌, ◌<◌}
use native.Mathlib.Omega.{arith}
use lib.ListN.{length, length-drop, get_or}
use Rattle.listing.specs.Tables.{frame_at}
use Rattle.output.specs.Lines.{own_end}
use Rattle.output.proofs.Sizes.{target_inner, target_own, frame_most}
use Rattle.output.proofs.Targets.{end_within}
use Rattle.slots.specs.State.{starts_in, owners_in}
use Rattle.output.proofs.lines.target_length.Goals as goal

-- the frame of the place
module _ (c : goal.After-own_end) where
  abbrev frame : List ℕ
  frame = frame_at c.args.frames.now (starts_in c.args.state.now) c.args.from.0

  ends : c.own_end.result ≡ own_end frame
  ends = c.own_end.ensures ∙ ap own_end c.frame_at-frame.ensures

  within : own_end frame ≤ length frame
  within = (end_within c.args.from.0 frame c.requires.1.reads).1

  rest_is : length c.frame_at-frame.result.now - c.own_end.result ≡ length frame - own_end frame
  rest_is = omega (arith, ends, ap length c.frame_at-frame.ensures)

  most : length frame ≤ 28672
  most = frame_most c.args.frames.now (starts_in c.args.state.now) c.args.count c.requires.0 c.args.from.0 c.requires.1.inside

pub returns-then-owner_at-lt-NO_OWNER : goal.returns-then-owner_at-lt-NO_OWNER
returns-then-owner_at-lt-NO_OWNER c =
    let low : get_or (owners_in c.args.state.now) c.args.from.0 0 < no_owner
    = omega (arith, c.owner_at.ensures, c.if-owner_at-lt-NO_OWNER.true) in
    (omega arith, λ offsets positions. sym (ap length (target_inner _ _ _ offsets positions _ low)))

pub overflow_sub-result : goal.overflow_sub-result
overflow_sub-result c = omega (arith, ends c, within c, ap length c.frame_at-frame.ensures)

pub returns : goal.returns
returns c =
    let high : no_owner ≤ get_or (owners_in c.args.state.now) c.args.from.0 0
    = omega (arith, c.owner_at.ensures, c.if-owner_at-lt-NO_OWNER.false) in (
      omega (arith, rest_is c, most c),
      λ offsets positions.
          rest_is c ∙ sym (length-drop (own_end (frame c)) (frame c)) ∙ sym (ap length (target_own _ _ _ offsets positions _ high)),
    )
