-- `output::text::write_text` meets its contract: after i turns the mark and the first i lines stand at the front.
use mathlib.Core.Path.{◌≡◌, sym, ap, ◌∙◌}
use mathlib.Core.List.{List}
use Prim.Native.Nat.{ℕ, ◌+◌, ◌≤◌, ◌<◌}
use native.Mathlib.Omega.{arith}
use lib.ListN.{length, take}
use lib.Seq.{get_or-take}
use Rattle.rules.specs.Listing.{ListingForm}
use Rattle.listing.specs.Form.{form_of}
use Rattle.slots.specs.Slots.{Slots, slot_at, program_of}
use Rattle.digits.specs.Digits.{laid}
use Rattle.output.specs.Lines.{line_in, line_at, lines_to, listing_of, beside_in}
use Rattle.output.proofs.Listings.{lines_all, lines_none, lines_more, length_more, lines_within}
use Rattle.digits.proofs.Rooms.{laid_more, laid_front}
use Rattle.slots.specs.State.{table_of}
use Rattle.output.proofs.text.write_text.Goals as goal
use Rattle.output.proofs.text.write_text.Goals.{Start}

-- the tables and the source lines at a start
module _ (s : Start) where
  abbrev over : Slots
  over = table_of s.args.frames.now s.args.state.now s.args.count

  abbrev form : ListingForm
  form = form_of s.args.marked

  abbrev sources : List ℕ
  sources = take s.args.count s.args.lines.now

  -- the lines up to that of place i have room
  room : (i : ℕ) → i < s.args.count
      → length (lines_to form sources over i) + length (line_at form sources over i) ≤ length s.args.out.now
  room i l = omega (arith, length_more over form sources i, lines_within over form sources (i + 1) (omega arith), s.requires.2)

  same_line : (i : ℕ) → i < s.args.count → line_at form s.args.lines.now over i ≡ line_at form sources over i
  same_line i l = ap (λ (n : ℕ). line_in form n (program_of over) (slot_at over i))
      (sym (get_or-take s.args.count s.args.lines.now i 0 l))

pub put_mark-at-requires : goal.put_mark-at-requires
put_mark-at-requires c =
    let s = (goal.at.put_mark-at-requires c).Start in
    omega (
      arith,
      lines_within (over s) (form s) (sources s) 0 (omega arith),
      ap length (lines_none (over s) (form s) (sources s)),
      c.requires.2,
    )

pub loop-i-init : goal.loop-i-init
loop-i-init c =
    let s = (goal.at.loop-i-init c).Start in
    let e = lines_none (over s) (form s) (sources s) in
    (c.put_mark-at.ensures.1 ∙ sym (ap length e), λ d z n h. z)

pub put_line-at-requires : goal.put_line-at-requires
put_line-at-requires c =
    let s = (goal.at.put_line-at-requires c).Start in
    let l = c.loop-i in
    let t = c.loop-i-test.true in (
      c.requires.0,
      c.requires.1,
      t,
      omega (arith, room s l.i t, ap length (same_line s l.i t)),
    )

pub loop-i-preserved : goal.loop-i-preserved
loop-i-preserved c =
    let s = (goal.at.loop-i-preserved c).Start in
    let p = c.put_line-at in
    let l = c.loop-i in
    let t = c.loop-i-test.true in
    let fits = room s l.i t in
    let same = same_line s l.i t in
    let line = line_at (form s) (sources s) (over s) l.i in
    let before = lines_to (form s) (sources s) (over s) l.i in
    let more = length_more (over s) (form s) (sources s) l.i in (
      omega (arith, p.ensures.1, ap length same, l.invariant.0),
      λ d z n h.
          p.ensures.0 ∙ ap (laid l.out l.at) same
          ∙ ap (λ (x : List ℕ). laid x l.at line) (l.invariant.1 d z n (omega (arith, h)))
          ∙ laid_more d before line 0 l.at (omega (arith, l.invariant.0)) (omega (arith, l.invariant.0, h))
          ∙ ap (laid d 0) (sym (lines_more (over s) (form s) (sources s) l.i)),
    )

pub returns : goal.returns
returns c =
    let s = (goal.at.returns c).Start in
    let l = c.loop-i in
    let w = form s in
    let ns = sources s in
    let d = c.args.out.now in
    let e : l.i ≡ c.args.count = omega arith in
    let first = c.put_mark-at.ensures.0 ∙ ap (laid d 0) (sym (lines_none (over s) w ns)) in
    let all : length (lines_to w ns (over s) l.i) ≤ length d = omega (
      arith,
      lines_within (over s) w ns l.i (omega arith),
      c.requires.2,
    ) in
    l.invariant.1 d first c.put_mark-at.auto.out all ∙ ap (λ n. laid d 0 (lines_to w ns (over s) n)) e ∙ ap (laid d 0)
    (lines_all (over s) w ns)
    ∙ laid_front d (listing_of (beside_in c.args.marked c.args.lines.now c.args.count) (over s))
