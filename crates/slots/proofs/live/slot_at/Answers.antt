-- `slots::live::slot_at` meets its contract: gone, an instruction by its form, or as it was read.
use mathlib.Core.Path.{◌≡◌, sym, ap, ◌∙◌}
use mathlib.Core.Bool.{true}
use mathlib.Core.List.{List}
use Prim.Native.Nat.{ℕ, ◌<◌, ◌≤◌}
use native.Mathlib.Omega.{arith}
use lib.ListN.{get_or}
use Rattle.rules.specs.declared.Statement.{Statement}
use Rattle.rules.specs.Answers.{is_ok}
use Rattle.rules.specs.Listing.{read_frame}
use Rattle.rules.specs.Programs.{kind_of}
use Rattle.rules.specs.Statements.{statement_of}
use Rattle.listing.specs.Tables.{frame_at}
use Rattle.slots.specs.declared.Slot.{Slot}
use Rattle.slots.specs.declared.Slot.TheVariants.{Gone, Form, Holds}
use Rattle.slots.specs.Slots.{Slots, slots, written, slot_at}
use Rattle.slots.specs.State.{starts_in, forms_in}
use Rattle.slots.specs.Meaning.{meant_by, kind_for}
use Rattle.slots.proofs.Tables.{frame_is}
use Rattle.slots.proofs.Slots.{slot_gone, kind_kept, kind_read}
use Rattle.slots.proofs.Stands.{other_means, kind_meant, first_is, a_byte, tag_kind}
use Rattle.slots.proofs.live.slot_at.Goals as goal

module _ (s : goal.Then-form-ge-GONE) where
  abbrev over : (carry owners offsets : List ℕ) → Slots
  over carry owners offsets = slots s.args.frames.now (starts_in s.args.state.now) s.args.count (forms_in s.args.state.now) carry owners
      offsets

  abbrev place : ℕ
  place = s.args.at.0

module _ (s : goal.After-shared_slice_known-2-1-unread) where
  abbrev place_2 : ℕ
  place_2 = s.args.at.0

  abbrev frame_2 : List ℕ
  frame_2 = frame_at s.args.frames.now (starts_in s.args.state.now) s.args.at.0

  -- the frame reads
  reads_2 : is_ok (read_frame place_2 frame_2) ≡ true
  reads_2 = s.requires.0.reads place_2 s.requires.1

module _ (s : goal.Then-frame-eq1) where
  abbrev over_3 : (carry owners offsets : List ℕ) → Slots
  over_3 carry owners offsets = slots s.args.frames.now (starts_in s.args.state.now) s.args.count (forms_in s.args.state.now) carry owners
      offsets

  abbrev place_3 : ℕ
  place_3 = s.args.at.0

  abbrev frame_3 : List ℕ
  frame_3 = frame_at s.args.frames.now (starts_in s.args.state.now) s.args.at.0

module _ (s : goal.After-other_in) where
  abbrev over_4 : (carry owners offsets : List ℕ) → Slots
  over_4 carry owners offsets = slots s.args.frames.now (starts_in s.args.state.now) s.args.count (forms_in s.args.state.now) carry owners
      offsets

  abbrev place_4 : ℕ
  place_4 = s.args.at.0

  abbrev frame_4 : List ℕ
  frame_4 = frame_at s.args.frames.now (starts_in s.args.state.now) s.args.at.0

-- variants are apart
abbrev variant : Slot → ℕ
variant Gone = 0
variant (Form f) = 1
variant (Holds x) = 2

apart : {A : Type 0} (a b : Slot) → a ≡ b → (variant a ≡ variant b → ⊥) → A
apart a b e n = absurd (n (ap variant e))

-- behind the frame: the slot is not gone
module _ (c : goal.Then-frame-eq1) where
  abbrev form : ℕ
  form = get_or (forms_in c.args.state.now) (place_3 c) 0

  form_is : c.form_in-form.result ≡ form
  form_is = c.form_in-form.ensures

  kept : form < 70
  kept = omega (arith, c.if-form-ge-GONE.false, form_is)

-- behind the frame: the slot is not gone
module _ (c : goal.After-other_in) where
  abbrev form_2 : ℕ
  form_2 = get_or (forms_in c.args.state.now) (place_4 c) 0

  form_is_2 : c.form_in-form.result ≡ form_2
  form_is_2 = c.form_in-form.ensures

  kept_2 : form_2 < 70
  kept_2 = omega (arith, c.if-form-ge-GONE.false, form_is_2)

module _ (c : goal.After-other_in) where
  other : get_or (frame_4 c) 0 0 ≡ 1 → ⊥
  other e = c.if-frame-eq1.false (ap (λ l. get_or l 0 0) c.frame_at-frame.ensures ∙ e)

pub returns-then-form-ge-GONE : goal.returns-then-form-ge-GONE
returns-then-form-ge-GONE c carry owners offsets =
    let none = slot_gone (over c carry owners offsets) (place c) (omega (arith, c.form_in-form.ensures, c.if-form-ge-GONE.true)) in
    record {
      kind = ap kind_of none;
      form = λ f e. apart Gone (Form f) e (λ z. omega arith);
      holds = λ x e. apart Gone (Holds x) e (λ z. omega arith);
    }

pub bounds-frame-0 : goal.bounds-frame-0
bounds-frame-0 c =
    rw c.frame_at-frame.ensures (a_byte (place_2 c) (frame_2 c) (reads_2 c))

pub returns-then-frame-eq1 : goal.returns-then-frame-eq1
returns-then-frame-eq1 c carry owners offsets =
    let t = over_3 c carry owners offsets in
    let one : get_or (frame_3 c) 0 0 ≡ 1 = sym (ap (λ l. get_or l 0 0) c.frame_at-frame.ensures) ∙ c.if-frame-eq1.true in
    record {
      kind = kind_kept t (place_3 c) (kept c)
          ∙ kind_read (place_3 c) (frame_3 c) (written t (place_3 c)) (frame_is t.frames t.starts t.count c.requires.0 (place_3 c)
          c.requires.1) ∙ one;
      form = λ g e. (let z : g ≡ c.form_in-form.result = cc in z ∙ form_is c);
      holds = λ x e. apart (Form c.form_in-form.result) (Holds x) e (λ z. omega arith);
    }

pub returns : goal.returns
returns c carry owners offsets =
    let t = over_4 c carry owners offsets in
    let is : c.other_in.result ≡ statement_of (frame_4 c) = c.other_in.ensures ∙ ap statement_of c.frame_at-frame.ensures in
    let means : slot_at t (place_4 c) ≡ meant_by t (place_4 c) c.other_in.result =
    other_means t c.requires.0 (place_4 c) c.requires.1 (kept_2 c) (other c) ∙ ap (meant_by t (place_4 c)) (sym is) in
    let kind : kind_of (slot_at t (place_4 c)) ≡ kind_for c.other_in.result = ap kind_of means ∙ kind_meant t (place_4 c) c.other_in.result
    in
    let here : (x : Statement) → Holds c.other_in.result ≡ Holds x → c.other_in.result ≡ x = (λ x e. cc) in
    record {
      kind = kind;
      form = λ g e. apart (Holds c.other_in.result) (Form g) e (λ z. omega arith);
      holds = λ x e.
          (let q = here x e in
          record {
            other = above (kind_for x) (λ z. other c (first_is t c.requires.0 (place_4 c) c.requires.1 0 (kind ∙ ap kind_for q ∙ z)))
                (some x);
            read = sym q ∙ is;
            means = means ∙ ap (meant_by t (place_4 c)) q;
          });
    }
  where
    above : (k : ℕ) → (k ≡ 1 → ⊥) → 1 ≤ k → 2 ≤ k
    above k n l = omega arith

    some : (x : Statement) → 1 ≤ kind_for x
    some x = omega (arith, tag_kind x)
