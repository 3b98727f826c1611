-- How many bytes the parts of a slot have, and that those of an instruction stand in frames of instructions: `drawn`. Assumes nothing.
use mathlib.Core.Path.{◌≡◌, sym, ap, ◌∙◌}
use mathlib.Core.List.{List, [], ◌∷◌, ◌++◌}
use mathlib.Core.Bool.{true, false}
use Prim.Native.Nat.{ℕ, suc, ◌+◌, ◌-◌, ◌*◌, ◌≤◌, ◌<◌}
use native.Mathlib.Omega.{arith}
use lib.ListN.{length, get_or, drop, length-drop}
use lib.Seq.{length-take-le}
use borrow.Author.Tests.{lt-ltb, le-ltb}
use Rattle.laws.specs.Counts.{tab}
use Rattle.laws.proofs.Counts.{get_or_tab}
use Rattle.rules.specs.Expressions.{four}
use Rattle.rules.specs.Forms.{is_transfer}
use Rattle.rules.specs.Listing.{ListingForm, old_form, new_form, line_bytes}
use Rattle.rules.specs.Output.{with_line}
use Rattle.rules.specs.Layout.{position}
use Rattle.expression.specs.Sound.{AreBytes}
use Rattle.listing.specs.Tables.{frame_at, Held}
use Rattle.rules.specs.Programs.{kind_of}
use Rattle.slots.specs.Slots.{Slots, no_owner, written, slot_at, program_of, InstrIn, Sound}
use Rattle.slots.proofs.Slots.{kind_read, written_frame}
use Rattle.slots.proofs.Tables.{bounds, length_frame, frame_is}
use Rattle.output.specs.Lines.{line_in, bytes_in, own_end, own_bytes, target_bytes, carried_bytes, bytes_at, InstrAt, Drawn}
use Rattle.digits.proofs.Rooms.{length_line}
use Rattle.output.proofs.Slots.{line_kept, kind_kept_first}
use Rattle.output.proofs.Targets.{end_within}

-- ---- an instruction's own bytes

pub length_own : (f i : ℕ) (s : List ℕ) → InstrIn i s → length (own_bytes f s) ≡ own_end s
unfolding own_bytes
length_own f i s h =
    let w = end_within i s h in
    omega (arith, length-take-le (own_end s - 2) (drop 2 s) (omega (arith, length-drop 2 s)))

-- ---- the target that place c wrote, and that of an instruction of form f

module _ (frames starts owners offsets positions : List ℕ) (c : ℕ) where
  pub target_inner : get_or owners c 0 < no_owner
      → target_bytes frames starts owners offsets positions c ≡ 0 ∷ four (get_or positions (get_or owners c 0) 0 + get_or offsets c 0)
  unfolding target_bytes
  target_inner h = rw (lt-ltb (get_or owners c 0) no_owner h)

  pub target_own : no_owner ≤ get_or owners c 0
      → target_bytes frames starts owners offsets positions c ≡ drop (own_end (frame_at frames starts c)) (frame_at frames starts c)
  unfolding target_bytes
  target_own h = rw (le-ltb (get_or owners c 0) no_owner h)

module _ (t : Slots) (positions : List ℕ) (f c : ℕ) where
  pub carried_transfer : is_transfer f ≡ true → carried_bytes t positions f c ≡ target_bytes t.frames t.starts t.owners t.offsets positions
      c
  unfolding carried_bytes
  carried_transfer e = rw e

  pub carried_other : is_transfer f ≡ false → carried_bytes t positions f c ≡ []
  unfolding carried_bytes
  carried_other e = rw e

-- ---- frames and lines

pub frame_most : (frames starts : List ℕ) (n : ℕ) (h : Held frames starts n) (i : ℕ) → i < n → length (frame_at frames starts i) ≤ 28672
frame_most frames starts n h i l = omega (arith, length_frame frames starts n h i l, (bounds frames starts n h i l).within)

-- a source line has four bytes, or none
pub length_bytes_in : (w : ListingForm) (n k : ℕ) (x r : List ℕ) → x ≡ k ∷ r → length (bytes_in w n x) ≡ length x + line_bytes w
length_bytes_in old_form n k x r e = omega arith
length_bytes_in new_form n k x r e =
    let a : length x ≡ suc (length r) = ap length e in
    let b : length (with_line n x) ≡ length (k ∷ (four n ++ r)) = ap (λ (f : List ℕ). length (with_line n f)) e in
    omega (arith, a, b)

-- a line by its bytes, at any table that holds the positions
pub line_size : (w : ListingForm) (n : ℕ) (t : Slots) → Sound t → AreBytes t.frames → (i : ℕ) → i < t.count → 1 ≤ kind_of (slot_at t i)
    → length (line_in w n (program_of t) (slot_at t i)) ≡ 2 * (length (bytes_at t (tab (position (program_of t)) t.count) i) + line_bytes
    w) + 1
line_size w n t h v i l e =
    let positions = tab (position (program_of t)) t.count in
    let are : (u : ℕ) → u < t.count → get_or positions u 0 ≡ position (program_of t) u = λ u m. get_or_tab (position (program_of t))
    t.count u 0 m in
    let k = kind_kept_first t h v positions are i l e in
    ap length (line_kept t h v positions are i l w n e) ∙ length_line (bytes_in w n (bytes_at t positions i))
    ∙ ap (λ (m : ℕ). 2 * m + 1) (length_bytes_in w n (kind_of (slot_at t i)) (bytes_at t positions i) k.0 k.1)

-- ---- where an instruction's bytes stand

instr_at : (t : Slots) (h : Held t.frames t.starts t.count) (i : ℕ) → i < t.count → kind_of (written t i) ≡ 1 → InstrAt t.frames t.starts
    t.count i
instr_at t h i l e =
    let f = frame_is t.frames t.starts t.count h i l in
    record {
      inside = l;
      reads = record { reads = h.reads i l; kind = sym (kind_read i (frame_at t.frames t.starts i) (written t i) f) ∙ e };
    }

pub drawn : (t : Slots) → Sound t → (i : ℕ) → i < t.count → kind_of (slot_at t i) ≡ 1 → Drawn t.frames t.starts t.count t.forms t.carry i
drawn t h i l e =
    record {
      held = h.held;
      own = record { inside = l; reads = record { reads = h.held.reads i l; kind = (written_frame t h.held i l 0 e).kind } };
      target = λ r. let w = h.carried i l e r in instr_at t h.held (get_or t.carry i 0) w.inside w.instruction;
    }
