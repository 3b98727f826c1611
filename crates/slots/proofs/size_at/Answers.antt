-- `slots::size_at` meets its contract, variant by variant.
use mathlib.Core.Path.{◌≡◌, refl, sym, ap, ap₂, ◌∙◌}
use mathlib.Core.List.{List, []}
use Prim.Native.Nat.{ℕ, suc, ◌+◌, ◌*◌, ◌≤◌, ◌<◌}
use native.Mathlib.Omega.{arith}
use lib.ListN.{get_or}
use Rattle.rules.specs.declared.Statement.{Statement}
use Rattle.rules.specs.declared.Statement.TheVariants.{Bytes, Words, Pad}
use Rattle.rules.specs.Forms.{size_at}
use Rattle.rules.specs.Programs.{byte_count, up_to, bytes, words, kind_of}
use Rattle.listing.specs.Tables.{frame_at}
use Rattle.slots.specs.declared.Slot.TheVariants.{Holds}
use Rattle.slots.specs.Slots.{Slots, slots, slot_at, written}
use Rattle.slots.specs.State.{starts_in, forms_in}
use Rattle.slots.specs.Meaning.{kind_for, Stands}
use Rattle.slots.proofs.Frames.{FrameOf}
use Rattle.slots.proofs.Tables.{bytes_frame}
use Rattle.slots.proofs.Slots.{size_instr, slot_data, written_frame, items_count}
use Rattle.slots.proofs.Stands.{form_stands, kind_stands, bytes_says, words_says, pad_says}
use Rattle.slots.proofs.size_at.Goals as goal

-- behind the slot; nothing here depends on carry, owners and offsets
module _ (c : goal.In-Words) (carry owners offsets : List ℕ) where
  abbrev here : Slots
  here = slots c.args.frames.now (starts_in c.args.state.now) c.args.count (forms_in c.args.state.now) carry owners offsets

  abbrev place : ℕ
  place = c.args.at.0

  abbrev frame : List ℕ
  frame = frame_at c.args.frames.now (starts_in c.args.state.now) place

  abbrev q : ℕ
  q = c.args.q.0

  stands : Stands here place c.slot_at.result
  stands = c.slot_at.ensures carry owners offsets

  module _ (x : Statement) (e : c.slot_at.result ≡ Holds x) where
    kind : kind_of (slot_at here place) ≡ kind_for x
    kind = kind_stands here place c.slot_at.result stands x e

    holds : (k : ℕ) → kind_for x ≡ suc k → FrameOf (suc k) place frame (written here place)
    holds k n = written_frame here c.requires.0 place c.requires.1 k (kind ∙ n)

    as_written : (k : ℕ) → kind_for x ≡ suc (suc k) → slot_at here place ≡ written here place
    as_written k n = slot_data here place k (kind ∙ n)

  words_few : (n : ℕ) (a : _) → c.slot_at.result ≡ Holds (Words n a) → n ≤ 16
  words_few n a e =
      omega (arith, (holds (Words n a) e 6 refl).few, (words_says here c.requires.0 place c.requires.1 c.slot_at.result stands n a e).0)

  words_count : (n : ℕ) (a : _) → c.slot_at.result ≡ Holds (Words n a) → 2 * n ≡ byte_count q (slot_at here place)
  words_count n a e =
      let d = holds (Words n a) e 6 refl in
      ap (λ m. 2 * m)
      ((words_says here c.requires.0 place c.requires.1 c.slot_at.result stands n a e).0
      ∙ sym (items_count 7 words place frame (written here place) d))
      ∙ sym (ap (byte_count q) (as_written (Words n a) e 5 refl ∙ d.is))

-- behind the slot; nothing here depends on carry, owners and offsets
module _ (c : goal.In-Pad) (carry owners offsets : List ℕ) where
  abbrev here_2 : Slots
  here_2 = slots c.args.frames.now (starts_in c.args.state.now) c.args.count (forms_in c.args.state.now) carry owners offsets

  abbrev place_2 : ℕ
  place_2 = c.args.at.0

  abbrev frame_2 : List ℕ
  frame_2 = frame_at c.args.frames.now (starts_in c.args.state.now) place_2

  stands_2 : Stands here_2 place_2 c.slot_at.result
  stands_2 = c.slot_at.ensures carry owners offsets

  module _ (x : Statement) (e : c.slot_at.result ≡ Holds x) where
    kind_2 : kind_of (slot_at here_2 place_2) ≡ kind_for x
    kind_2 = kind_stands here_2 place_2 c.slot_at.result stands_2 x e

    holds_2 : (k : ℕ) → kind_for x ≡ suc k → FrameOf (suc k) place_2 frame_2 (written here_2 place_2)
    holds_2 k n = written_frame here_2 c.requires.0 place_2 c.requires.1 k (kind_2 ∙ n)

  pad_fits_2 : (a m : ℕ) → c.slot_at.result ≡ Holds (Pad a m) → (a < 256) × (1 ≤ m) × (m < 65536)
  pad_fits_2 a m e =
      let s = pad_says here_2 c.requires.0 place_2 c.requires.1 c.slot_at.result stands_2 a m e in
      let d = holds_2 (Pad a m) e 7 refl in
      let low : get_or frame_2 1 0 < 256 = bytes_frame c.args.frames.now (starts_in c.args.state.now)
      (λ i. omega (arith, c.shared_slice_known-1.given i)) place_2 1 in
      (omega (arith, low, s.0), omega (arith, d.some, s.1), omega (arith, d.few, s.1))

-- behind the slot; nothing here depends on carry, owners and offsets
module _ (c : goal.After-size) (carry owners offsets : List ℕ) where
  abbrev here_3 : Slots
  here_3 = slots c.args.frames.now (starts_in c.args.state.now) c.args.count (forms_in c.args.state.now) carry owners offsets

  abbrev place_3 : ℕ
  place_3 = c.args.at.0

  abbrev q_3 : ℕ
  q_3 = c.args.q.0

  stands_3 : Stands here_3 place_3 c.slot_at.result
  stands_3 = c.slot_at.ensures carry owners offsets

-- behind the slot; nothing here depends on carry, owners and offsets
module _ (c : goal.In-Bytes) (carry owners offsets : List ℕ) where
  abbrev here_4 : Slots
  here_4 = slots c.args.frames.now (starts_in c.args.state.now) c.args.count (forms_in c.args.state.now) carry owners offsets

  abbrev place_4 : ℕ
  place_4 = c.args.at.0

  abbrev frame_4 : List ℕ
  frame_4 = frame_at c.args.frames.now (starts_in c.args.state.now) place_4

  abbrev q_4 : ℕ
  q_4 = c.args.q.0

  stands_4 : Stands here_4 place_4 c.slot_at.result
  stands_4 = c.slot_at.ensures carry owners offsets

  module _ (x : Statement) (e : c.slot_at.result ≡ Holds x) where
    kind_4 : kind_of (slot_at here_4 place_4) ≡ kind_for x
    kind_4 = kind_stands here_4 place_4 c.slot_at.result stands_4 x e

    holds_4 : (k : ℕ) → kind_for x ≡ suc k → FrameOf (suc k) place_4 frame_4 (written here_4 place_4)
    holds_4 k n = written_frame here_4 c.requires.0 place_4 c.requires.1 k (kind_4 ∙ n)

    as_written_4 : (k : ℕ) → kind_for x ≡ suc (suc k) → slot_at here_4 place_4 ≡ written here_4 place_4
    as_written_4 k n = slot_data here_4 place_4 k (kind_4 ∙ n)

  bytes_count_4 : (n : ℕ) (a : _) → c.slot_at.result ≡ Holds (Bytes n a) → n ≡ byte_count q_4 (slot_at here_4 place_4)
  bytes_count_4 n a e =
      let d = holds_4 (Bytes n a) e 5 refl in
      (bytes_says here_4 c.requires.0 place_4 c.requires.1 c.slot_at.result stands_4 n a e).0 ∙ sym (items_count 6 bytes place_4 frame_4
      (written here_4 place_4) d)
      ∙ sym (ap (byte_count q_4) (as_written_4 (Bytes n a) e 4 refl ∙ d.is))

-- behind the slot; nothing here depends on carry, owners and offsets
module _ (c : goal.After-pad_size) (carry owners offsets : List ℕ) where
  abbrev here_5 : Slots
  here_5 = slots c.args.frames.now (starts_in c.args.state.now) c.args.count (forms_in c.args.state.now) carry owners offsets

  abbrev place_5 : ℕ
  place_5 = c.args.at.0

  abbrev frame_5 : List ℕ
  frame_5 = frame_at c.args.frames.now (starts_in c.args.state.now) place_5

  abbrev q_5 : ℕ
  q_5 = c.args.q.0

  stands_5 : Stands here_5 place_5 c.slot_at.result
  stands_5 = c.slot_at.ensures carry owners offsets

  module _ (x : Statement) (e : c.slot_at.result ≡ Holds x) where
    kind_5 : kind_of (slot_at here_5 place_5) ≡ kind_for x
    kind_5 = kind_stands here_5 place_5 c.slot_at.result stands_5 x e

    holds_5 : (k : ℕ) → kind_for x ≡ suc k → FrameOf (suc k) place_5 frame_5 (written here_5 place_5)
    holds_5 k n = written_frame here_5 c.requires.0 place_5 c.requires.1 k (kind_5 ∙ n)

    as_written_5 : (k : ℕ) → kind_for x ≡ suc (suc k) → slot_at here_5 place_5 ≡ written here_5 place_5
    as_written_5 k n = slot_data here_5 place_5 k (kind_5 ∙ n)

  pad_count_5 : (a m : ℕ) → c.slot_at.result ≡ Holds (Pad a m) → up_to q_5 m + a ≡ byte_count q_5 (slot_at here_5 place_5)
  pad_count_5 a m e =
      let d = holds_5 (Pad a m) e 7 refl in
      let s = pad_says here_5 c.requires.0 place_5 c.requires.1 c.slot_at.result stands_5 a m e in
      ap₂ (λ (n b : ℕ). up_to q_5 n + b) s.1 s.0 ∙ sym (ap (byte_count q_5) (as_written_5 (Pad a m) e 6 refl ∙ d.is))

pub overflow_mul-result : goal.overflow_mul-result
overflow_mul-result c =
    let is = c.in-Holds.is ∙ ap Holds c.in-Words.is in
    record { fits = omega (arith, words_few c [] [] [] _ _ is) }

pub pad_size-requires : goal.pad_size-requires
pad_size-requires c =
    let is = c.in-Holds.is ∙ ap Holds c.in-Pad.is in
    pad_fits_2 c [] [] [] _ _ is

pub returns-in-Form : goal.returns-in-Form
returns-in-Form c carry owners offsets =
    let t = here_3 c carry owners offsets in
    let i = place_3 c carry owners offsets in
    let one = form_stands t i c.slot_at.result (stands_3 c carry owners offsets) c.in-Form.form c.in-Form.is in
    c.size.ensures ∙ ap size_at ((stands_3 c carry owners offsets).form c.in-Form.form c.in-Form.is)
    ∙ sym (size_instr (q_3 c carry owners offsets) t i one)

pub returns-in-Bytes : goal.returns-in-Bytes
returns-in-Bytes c carry owners offsets =
    bytes_count_4 c carry owners offsets _ _ (c.in-Holds.is ∙ ap Holds c.in-Bytes.is)

pub returns-in-Words : goal.returns-in-Words
returns-in-Words c carry owners offsets =
    words_count c carry owners offsets _ _ (c.in-Holds.is ∙ ap Holds c.in-Words.is)

pub returns-in-Pad : goal.returns-in-Pad
returns-in-Pad c carry owners offsets =
    c.pad_size.ensures ∙ pad_count_5 c carry owners offsets _ _ (c.in-Holds.is ∙ ap Holds c.in-Pad.is)
