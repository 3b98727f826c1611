-- What one phase hands to the next: a verdict, a listing that was read, the same result under another name.
use mathlib.Core.Path.{◌≡◌, refl, sym, ap, ap₂, ◌∙◌, subst}
use mathlib.Core.List.{List}
use mathlib.Core.Bool.{Bool}
use Prim.Native.Nat.{ℕ}
use lib.ListN.{take}
use Rattle.rules.specs.declared.Sizes.{Sizes}
use Rattle.std.specs.Prelude.{Err, Result, Ok}
use Rattle.rules.specs.declared.Refusal.{Refusal}
use Rattle.rules.specs.Answers.{Judged, ok, no, ◌>>=◌}
use Rattle.rules.specs.Programs.{Program}
use Rattle.rules.specs.Listing.{read_listing, ListingForm, beside_of}
use Rattle.rules.specs.Run.{assembled}
use Rattle.listing.specs.Form.{form_of}
use Rattle.listing.specs.Tables.{Holds, ListedAs, BesideAs}
use Rattle.output.specs.Lines.{beside_in}
use Rattle.fitting.specs.Fitting.{fitted, answer_as, room_as, Leaves}
use Rattle.entries.specs.Assembling.{image_in}

-- ---- the same result

pub leaves_same : (m n room : ℕ) (x y : Judged (List ℕ)) {r : Result Sizes Refusal} {a b : List ℕ} → m ≡ n → x ≡ y → Leaves (fitted m room x) r a b → Leaves (fitted n room y) r a b
leaves_same m n room x y {r} {a} {b} e f h = subst (λ (z : Judged (List ℕ)). Leaves z r a b) (ap (λ k. fitted k room x) e ∙ ap (fitted n room) f) h

pub leaves_program : (room : ℕ) (p q : Program) {r : Result Sizes Refusal} {a b : List ℕ} → p ≡ q → Leaves (image_in room p) r a b → Leaves (image_in room q) r a b
leaves_program room p q {r} {a} {b} e h = subst (λ (z : Program). Leaves (image_in room z) r a b) e h

-- ---- a listing that was read

pub listed_read : (frames starts : List ℕ) (n : ℕ) (x : Judged Program) (r : Result ℕ Refusal) → r ≡ Ok n → ListedAs frames starts r x → (p : Program) × (x ≡ ok p) × Holds frames starts n p
listed_read frames starts n (ok p) r e h = (p, refl, rw e at h)
listed_read frames starts n (no q) r e h = absurd (rw e at h)

pub listed_refused : (frames starts : List ℕ) (q : Refusal) (x : Judged Program) (r : Result ℕ Refusal) → r ≡ Err q → ListedAs frames starts r x → x ≡ no q
listed_refused frames starts q (ok p) r e h = absurd (rw e at h)
listed_refused frames starts q (no s) r e h = let k : q ≡ s = rw e at h in sym (ap no k)

-- C-20: what it says beside its statements
pub beside_read : (text lines : List ℕ) (n : ℕ) (marked : Bool) (r : Result ℕ Refusal) → r ≡ Ok n → (beside_of text).form ≡ form_of marked → BesideAs text lines r → beside_of text ≡ beside_in marked lines n
beside_read text lines n marked r e f h =
    let g : (beside_of text).lines ≡ take n lines = rw e at h in
    ap₂ (λ (w : ListingForm) (ns : List ℕ). record { form = w; lines = ns }) f g

module _ (text : List ℕ) (room : ℕ) where
  assembled_read : (p : Program) → read_listing text ≡ ok p → assembled text room ≡ image_in room p
  unfolding assembled ◌>>=◌ fitted
  assembled_read p e = rw e

  assembled_refused : (q : Refusal) → read_listing text ≡ no q → assembled text room ≡ no q
  unfolding assembled ◌>>=◌
  assembled_refused q e = rw e

  pub leaves_unread : (q : Refusal) (before : List ℕ) → read_listing text ≡ no q → Leaves (assembled text room) (Err q) before before
  leaves_unread q before e =
      let f = assembled_refused q e in
      record { answer = sym (ap answer_as f); room = sym (ap (λ y. room_as y before) f) }

  pub leaves_read : (p q : Program) {r : Result Sizes Refusal} {a b : List ℕ} → read_listing text ≡ ok p → q ≡ p → Leaves (image_in room q) r a b → Leaves (assembled text room) r a b
  leaves_read p q {r} {a} {b} e f h =
      subst (λ (z : Judged (List ℕ)). Leaves z r a b) (sym (assembled_read p e)) (leaves_program room q p f h)
