-- `writing::write_image` meets its contract. The invariant: zeros, then the image from slot i on, then the room as it was.
use mathlib.Core.Path.{◌≡◌, sym, ap, ◌∙◌}
use mathlib.Core.List.{List, [], ◌++◌}
use Prim.Native.Nat.{ℕ, suc, ◌-◌, ◌<◌, ◌≤◌}
use native.Mathlib.Omega.{arith}
use lib.ListN.{length, drop, get_or, replicate, length-append, length-replicate}
use lib.Seq.{drop_at}
use Rattle.rules.specs.Answers.{ok}
use Rattle.image.specs.Tables.{Tables, tables_of}
use Rattle.image.specs.Encoding.{encode_slots}
use Rattle.image.specs.Image.{image_of, put}
use Rattle.image.proofs.Passes.{ok_same, from_slot, from_start, from_end}
use Rattle.image.proofs.Rooms.{put_first, room_of, room_start, room_end}
use Rattle.image.proofs.Images.{image_is, slot_fits, laid}
use Rattle.slots.specs.State.{carry_in, owners_in, offsets_in}
use Rattle.image.proofs.writing.write_image.Goals as goal
use Rattle.image.proofs.writing.write_image.Goals.{After-clear}

-- the cleared room: zeros, and behind them what was there
module _ (s : After-clear) where
  abbrev here : Tables
  here =
      tables_of s.args.frames.now s.args.state.now s.args.count
      s.args.links.now s.args.values.now s.args.positions.now

  abbrev size : ℕ
  size = length (image_of here)

  whole : encode_slots here ≡ ok (image_of here)
  whole = image_is here s.requires.1

  size_is : s.image_length-n.result ≡ size
  size_is =
      s.image_length-n.ensures (carry_in s.args.state.now) (owners_in s.args.state.now) (offsets_in s.args.state.now)
      s.args.links.now s.args.values.now s.requires.0 s.requires.1

  abbrev cleared : List ℕ
  cleared = s.clear.new.image

  abbrev behind : List ℕ
  behind = drop size s.args.image.now

  cleared_is : cleared ≡ replicate size 0 ++ behind
  cleared_is = s.clear.ensures ∙ ap (λ n. put s.args.image.now 0 (replicate n 0)) size_is ∙ put_first s.args.image.now size

  behind_is : drop size cleared ≡ behind
  behind_is = ap (drop size) cleared_is ∙ drop_at (replicate size 0) behind size (length-replicate size 0)

  holds_it : size ≤ length cleared
  holds_it = omega (arith, ap length cleared_is, length-append (replicate size 0) behind, length-replicate {A = ℕ} size 0)

pub loop-i-init : goal.loop-i-init
loop-i-init c =
    let s = (goal.at.loop-i-init c).After-clear in
    let n = size s in
    let room : cleared s ≡ room_of n [] (drop n (cleared s)) =
    cleared_is s ∙ ap (λ z. replicate n 0 ++ z) (sym (behind_is s)) ∙ room_start n (drop n (cleared s)) in
    ([], from_end (here s) c.args.count (omega arith), room)

pub write_at-requires : goal.write_at-requires
write_at-requires c =
    let s = (goal.at.write_at-requires c).After-clear in
    let l = c.loop-i in
    let below : l.i - 1 < c.args.count = omega arith in (
      c.requires.0,
      below,
      λ some. omega (arith, slot_fits (here s) c.requires.0 (image_of (here s)) (whole s) (l.i - 1) below some, holds_it s),
    )

pub loop-i-preserved : goal.loop-i-preserved
loop-i-preserved c =
    let s = (goal.at.loop-i-preserved c).After-clear in
    let l = c.loop-i in
    let n = size s in
    let d = here s in
    let next : l.i ≡ suc (l.i - 1) = omega arith in
    let after = l.invariant.0 in
    let tail = drop n (cleared s) in
    let h = laid d c.requires.0 (image_of d) (whole s) (l.i - 1) (omega arith) after tail (rw next at l.invariant.1) in
    let room : c.write_at.new.image ≡ room_of n h.rest tail =
    c.write_at.ensures h.bytes h.encodes ∙ ap (λ r. put r (get_or d.positions (l.i - 1) 0) h.bytes) l.invariant.2 ∙ h.room in
    (h.rest, h.from, room)

pub returns : goal.returns
returns c =
    let s = (goal.at.returns c).After-clear in
    let l = c.loop-i in
    let d = here s in
    let zero : l.i ≡ 0 = omega arith in
    let from : from_slot d 0 ≡ ok l.invariant.0 = rw zero at l.invariant.1 in
    let all : l.invariant.0 ≡ image_of d = ok_same (sym from ∙ sym (from_start d) ∙ whole s) in
    l.invariant.2
    ∙ ap (λ r. room_of (size s) r (drop (size s) (cleared s))) all
    ∙ room_end (image_of d) (drop (size s) (cleared s))
    ∙ ap (λ z. image_of d ++ z) (behind_is s)
