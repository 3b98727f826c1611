-- `output::text::put_line` meets its contract: nothing, or the bytes, the source line behind the kind, and the line feed.
use mathlib.Core.Path.{◌≡◌, sym, ap, ◌∙◌}
use mathlib.Core.List.{List, [], ◌∷◌}
use Prim.Native.Nat.{ℕ, suc, ◌+◌, ◌-◌, ◌*◌, ◌≤◌, ◌<◌}
use native.Mathlib.Omega.{arith}
use lib.ListN.{length, get_or}
use borrow.Author.Tests.{leb-true, leb-false}
use Rattle.rules.specs.Listing.{ListingForm, line_bytes}
use Rattle.rules.specs.Output.{line_of}
use Rattle.rules.specs.Programs.{kind_of}
use Rattle.listing.specs.Form.{form_of}
use Rattle.slots.specs.Slots.{Slots, slot_at, program_of}
use Rattle.laws.proofs.Stores.{get_in}
use Rattle.slots.proofs.Slots.{slot_gone}
use Rattle.slots.proofs.Stands.{first_is}
use Rattle.digits.specs.Digits.{laid}
use Rattle.output.specs.Digits.{Put}
use Rattle.output.specs.Lines.{line_at, bytes_at, bytes_in, sourced}
use Rattle.digits.proofs.Rooms.{laid_nothing, length_line}
use Rattle.output.proofs.Rooms.{put_line, put_source}
use Rattle.output.proofs.Sizes.{length_bytes_in}
use Rattle.output.proofs.Slots.{line_gone, line_kept, kept_form, kind_kept_first}
use Rattle.slots.specs.State.{table_of}
use Rattle.output.proofs.text.put_line.Goals as goal

-- the tables of a start
module _ (s : goal.Then-is_gone) where
  abbrev place : ℕ
  place = s.args.place.0

  abbrev form : ListingForm
  form = form_of s.args.marked

  abbrev source : ℕ
  source = get_or s.args.lines.now place 0

  abbrev over : Slots
  over = table_of s.args.frames.now s.args.state.now s.args.count

-- the tables of a start
module _ (s : goal.After-put_statement-arg-1) where
  abbrev place_2 : ℕ
  place_2 = s.args.place.0

  abbrev form_2 : ListingForm
  form_2 = form_of s.args.marked

  abbrev source_2 : ℕ
  source_2 = get_or s.args.lines.now place_2 0

  abbrev over_2 : Slots
  over_2 = table_of s.args.frames.now s.args.state.now s.args.count

  abbrev whole_2 : List ℕ
  whole_2 = bytes_at over_2 s.args.positions.now place_2

-- the tables of a start
module _ (s : goal.After-shared_slice_known-2-1-unread) where
  abbrev place_3 : ℕ
  place_3 = s.args.place.0

  abbrev over_3 : Slots
  over_3 = table_of s.args.frames.now s.args.state.now s.args.count

-- the tables of a start
module _ (s : goal.After-put_source-arg-2-1) where
  abbrev place_4 : ℕ
  place_4 = s.args.place.0

  abbrev form_4 : ListingForm
  form_4 = form_of s.args.marked

  abbrev source_4 : ℕ
  source_4 = get_or s.args.lines.now place_4 0

  abbrev over_4 : Slots
  over_4 = table_of s.args.frames.now s.args.state.now s.args.count

  abbrev whole_4 : List ℕ
  whole_4 = bytes_at over_4 s.args.positions.now place_4

-- the tables of a start
module _ (s : goal.After-end_line-arg-1) where
  abbrev place_5 : ℕ
  place_5 = s.args.place.0

  abbrev form_5 : ListingForm
  form_5 = form_of s.args.marked

  abbrev source_5 : ℕ
  source_5 = get_or s.args.lines.now place_5 0

  abbrev over_5 : Slots
  over_5 = table_of s.args.frames.now s.args.state.now s.args.count

  abbrev whole_5 : List ℕ
  whole_5 = bytes_at over_5 s.args.positions.now place_5

-- the tables of a start
module _ (s : goal.After-slice_known-4-1) where
  abbrev place_6 : ℕ
  place_6 = s.args.place.0

  abbrev form_6 : ListingForm
  form_6 = form_of s.args.marked

  abbrev source_6 : ℕ
  source_6 = get_or s.args.lines.now place_6 0

  abbrev over_6 : Slots
  over_6 = table_of s.args.frames.now s.args.state.now s.args.count

  abbrev whole_6 : List ℕ
  whole_6 = bytes_at over_6 s.args.positions.now place_6

-- the line of a slot that is not gone
module _ (c : goal.After-put_statement-arg-1) where
  kept : 1 ≤ kind_of (slot_at (over_2 c) (place_2 c))
  kept = kept_form (over_2 c) c.requires.0.held (place_2 c) c.requires.2 (leb-false _ _ (sym c.is_gone.ensures ∙ c.if-is_gone.false))

  line_is : line_at (form_2 c) c.args.lines.now (over_2 c) (place_2 c) ≡ line_of (bytes_in (form_2 c) (source_2 c) (whole_2 c))
  line_is =
      line_kept (over_2 c) c.requires.0 (λ i. (c.shared_slice_known-1.given i).fits) c.args.positions.now c.requires.1.are (place_2 c)
      c.requires.2
      (form_2 c) (source_2 c) kept

  first : (r : List ℕ) × (whole_2 c ≡ kind_of (slot_at (over_2 c) (place_2 c)) ∷ r)
  first = kind_kept_first (over_2 c) c.requires.0 (λ i. (c.shared_slice_known-1.given i).fits) c.args.positions.now c.requires.1.are
      (place_2 c) c.requires.2 kept

  size : length (bytes_in (form_2 c) (source_2 c) (whole_2 c)) ≡ length (whole_2 c) + line_bytes (form_2 c)
  size = length_bytes_in (form_2 c) (source_2 c) (kind_of (slot_at (over_2 c) (place_2 c))) (whole_2 c) first.0 first.1

  room : c.args.at + (2 * (length (whole_2 c) + line_bytes (form_2 c)) + 1) ≤ length c.args.out.now
  room = omega (arith, c.requires.3, ap length line_is, length_line (bytes_in (form_2 c) (source_2 c) (whole_2 c)), size)

-- the line of a slot that is not gone
module _ (c : goal.After-shared_slice_known-2-1-unread) where
  kept_2 : 1 ≤ kind_of (slot_at (over_3 c) (place_3 c))
  kept_2 = kept_form (over_3 c) c.requires.0.held (place_3 c) c.requires.2 (leb-false _ _ (sym c.is_gone.ensures ∙ c.if-is_gone.false))

-- the line of a slot that is not gone
module _ (c : goal.After-put_source-arg-2-1) where
  kept_3 : 1 ≤ kind_of (slot_at (over_4 c) (place_4 c))
  kept_3 = kept_form (over_4 c) c.requires.0.held (place_4 c) c.requires.2 (leb-false _ _ (sym c.is_gone.ensures ∙ c.if-is_gone.false))

  line_is_3 : line_at (form_4 c) c.args.lines.now (over_4 c) (place_4 c) ≡ line_of (bytes_in (form_4 c) (source_4 c) (whole_4 c))
  line_is_3 =
      line_kept (over_4 c) c.requires.0 (λ i. (c.shared_slice_known-1.given i).fits) c.args.positions.now c.requires.1.are (place_4 c)
      c.requires.2
      (form_4 c) (source_4 c) kept_3

  first_3 : (r : List ℕ) × (whole_4 c ≡ kind_of (slot_at (over_4 c) (place_4 c)) ∷ r)
  first_3 = kind_kept_first (over_4 c) c.requires.0 (λ i. (c.shared_slice_known-1.given i).fits) c.args.positions.now c.requires.1.are
      (place_4 c) c.requires.2 kept_3

  size_3 : length (bytes_in (form_4 c) (source_4 c) (whole_4 c)) ≡ length (whole_4 c) + line_bytes (form_4 c)
  size_3 = length_bytes_in (form_4 c) (source_4 c) (kind_of (slot_at (over_4 c) (place_4 c))) (whole_4 c) first_3.0 first_3.1

  some_3 : 1 ≤ length (whole_4 c)
  some_3 = omega (arith, ap length first_3.1)

  room_3 : c.args.at + (2 * (length (whole_4 c) + line_bytes (form_4 c)) + 1) ≤ length c.args.out.now
  room_3 = omega (arith, c.requires.3, ap length line_is_3, length_line (bytes_in (form_4 c) (source_4 c) (whole_4 c)), size_3)

-- the line of a slot that is not gone
module _ (c : goal.After-end_line-arg-1) where
  kept_4 : 1 ≤ kind_of (slot_at (over_5 c) (place_5 c))
  kept_4 = kept_form (over_5 c) c.requires.0.held (place_5 c) c.requires.2 (leb-false _ _ (sym c.is_gone.ensures ∙ c.if-is_gone.false))

  line_is_4 : line_at (form_5 c) c.args.lines.now (over_5 c) (place_5 c) ≡ line_of (bytes_in (form_5 c) (source_5 c) (whole_5 c))
  line_is_4 =
      line_kept (over_5 c) c.requires.0 (λ i. (c.shared_slice_known-1.given i).fits) c.args.positions.now c.requires.1.are (place_5 c)
      c.requires.2
      (form_5 c) (source_5 c) kept_4

  first_4 : (r : List ℕ) × (whole_5 c ≡ kind_of (slot_at (over_5 c) (place_5 c)) ∷ r)
  first_4 = kind_kept_first (over_5 c) c.requires.0 (λ i. (c.shared_slice_known-1.given i).fits) c.args.positions.now c.requires.1.are
      (place_5 c) c.requires.2 kept_4

  size_4 : length (bytes_in (form_5 c) (source_5 c) (whole_5 c)) ≡ length (whole_5 c) + line_bytes (form_5 c)
  size_4 = length_bytes_in (form_5 c) (source_5 c) (kind_of (slot_at (over_5 c) (place_5 c))) (whole_5 c) first_4.0 first_4.1

  room_4 : c.args.at + (2 * (length (whole_5 c) + line_bytes (form_5 c)) + 1) ≤ length c.args.out.now
  room_4 = omega (arith, c.requires.3, ap length line_is_4, length_line (bytes_in (form_5 c) (source_5 c) (whole_5 c)), size_4)

-- the line of a slot that is not gone
module _ (c : goal.After-slice_known-4-1) where
  kept_5 : 1 ≤ kind_of (slot_at (over_6 c) (place_6 c))
  kept_5 = kept_form (over_6 c) c.requires.0.held (place_6 c) c.requires.2 (leb-false _ _ (sym c.is_gone.ensures ∙ c.if-is_gone.false))

  line_is_5 : line_at (form_6 c) c.args.lines.now (over_6 c) (place_6 c) ≡ line_of (bytes_in (form_6 c) (source_6 c) (whole_6 c))
  line_is_5 =
      line_kept (over_6 c) c.requires.0 (λ i. (c.shared_slice_known-1.given i).fits) c.args.positions.now c.requires.1.are (place_6 c)
      c.requires.2
      (form_6 c) (source_6 c) kept_5

  first_5 : (r : List ℕ) × (whole_6 c ≡ kind_of (slot_at (over_6 c) (place_6 c)) ∷ r)
  first_5 = kind_kept_first (over_6 c) c.requires.0 (λ i. (c.shared_slice_known-1.given i).fits) c.args.positions.now c.requires.1.are
      (place_6 c) c.requires.2 kept_5

  size_5 : length (bytes_in (form_6 c) (source_6 c) (whole_6 c)) ≡ length (whole_6 c) + line_bytes (form_6 c)
  size_5 = length_bytes_in (form_6 c) (source_6 c) (kind_of (slot_at (over_6 c) (place_6 c))) (whole_6 c) first_5.0 first_5.1

  room_5 : c.args.at + (2 * (length (whole_6 c) + line_bytes (form_6 c)) + 1) ≤ length c.args.out.now
  room_5 = omega (arith, c.requires.3, ap length line_is_5, length_line (bytes_in (form_6 c) (source_6 c) (whole_6 c)), size_5)

-- a frame begins with its statement's kind
begins : (c : goal.After-shared_slice_known-2-1-unread) → (get_or c.frame_at-frame.result.now 0 0 ≡ kind_of
    (slot_at (over_3 c) (place_3 c))) × (0 < length c.frame_at-frame.result.now)
begins c =
    let k = kind_of (slot_at (over_3 c) (place_3 c)) in
    let one = kept_2 c in
    let up : k ≡ suc (k - 1) = omega arith in
    let first_byte = ap (λ l. get_or l 0 0) c.frame_at-frame.ensures ∙ first_is (over_3 c) c.requires.0.held (place_3 c) c.requires.2
    (k - 1) up ∙ sym up in
    (first_byte, get_in c.frame_at-frame.result.now 0 0 (λ e. omega (arith, first_byte)))

-- a frame begins with its statement's kind
begins_2 : (c : goal.After-slice_known-4-1) → (get_or c.frame_at-frame.result.now 0 0 ≡ kind_of (slot_at (over_6 c) (place_6 c)))
    × (0 < length c.frame_at-frame.result.now)
begins_2 c =
    let k = kind_of (slot_at (over_6 c) (place_6 c)) in
    let one = kept_5 c in
    let up : k ≡ suc (k - 1) = omega arith in
    let first_byte = ap (λ l. get_or l 0 0) c.frame_at-frame.ensures ∙ first_is (over_6 c) c.requires.0.held (place_6 c) c.requires.2
    (k - 1) up ∙ sym up in
    (first_byte, get_in c.frame_at-frame.result.now 0 0 (λ e. omega (arith, first_byte)))

-- what was put, with the kind and the source line before it
sourced_is : (s : goal.After-slice_known-4-1) (k b : ℕ) (r d₁ d₂ : List ℕ) (e : ℕ) → b ≡ line_bytes (form_6 s) → whole_6 s ≡ k ∷ r
    → Put s.args.out.now (s.args.at + 2 * b) (whole_6 s) d₁ e
    → s.args.at + 2 * (length (whole_6 s) + line_bytes (form_6 s)) ≤ length s.args.out.now → d₂ ≡ sourced (form_6 s) k (source_6 s) d₁
    s.args.at
    → Put s.args.out.now s.args.at (bytes_in (form_6 s) (source_6 s) (whole_6 s)) d₂ e
sourced_is s k b r d₁ d₂ e n w p h z =
    rw (z, w) (put_source (form_6 s) s.args.out.now s.args.at k (source_6 s) r d₁ e (rw (n, w) at p) (omega (arith, h, ap length w)))

pub returns-then-is_gone : goal.returns-then-is_gone
returns-then-is_gone c =
    let none : line_at (form c) c.args.lines.now (over c) (place c) ≡ [] =
    line_gone (form c) (source c) (program_of (over c)) (slot_at (over c) (place c))
    (ap kind_of (slot_gone (over c) (place c) (leb-true _ _ (sym c.is_gone.ensures ∙ c.if-is_gone.true)))) in
    (sym (laid_nothing c.args.out.now c.args.at) ∙ ap (laid c.args.out.now c.args.at) (sym none), omega (arith, ap length none))

pub put_statement-end-requires : goal.put_statement-end-requires
put_statement-end-requires c = (c.requires.0, c.requires.1, c.requires.2, omega (arith, c.line_bytes-b.ensures.0, room c))

pub bounds-frame-0 : goal.bounds-frame-0
bounds-frame-0 c = (begins c).1

pub put_source-requires : goal.put_source-requires
put_source-requires c =
    omega (arith, room_3 c, some_3 c, c.put_statement-end.auto.out)

pub end_line-requires : goal.end_line-requires
end_line-requires c =
    omega (arith, room_4 c, c.put_statement-end.ensures.ends, c.line_bytes-b.ensures.0, c.put_statement-end.auto.out, c.put_source.auto.out)

pub returns : goal.returns
returns c =
    let p = c.put_statement-end in
    let b = c.line_bytes-b in
    let q = c.put_source in
    let e = c.end_line in
    let kind = (begins_2 c).0 in
    let put = sourced_is c (kind_of (slot_at (over_6 c) (place_6 c))) b.result (first_5 c).0 p.new.out q.new.out p.result
    b.ensures.0 (first_5 c).1 p.ensures (omega (arith, room_5 c)) (q.ensures ∙ ap (λ (k : ℕ). sourced (form_6 c) k (source_6 c) p.new.out
    c.args.at) kind) in
    put_line c.args.out.now c.args.at (bytes_in (form_6 c) (source_6 c) (whole_6 c)) q.new.out p.result e.new.out e.result
    (line_at (form_6 c) c.args.lines.now (over_6 c) (place_6 c)) put e.ensures.0 e.ensures.1 (line_is_5 c) c.requires.3
