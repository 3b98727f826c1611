-- What is known of the tables from phase to phase: a listing as read is whole, and what is anchored, and what is shown of an end form, stands.
use mathlib.Core.Path.{◌≡◌, refl, sym, ap, ◌∙◌}
use mathlib.Core.List.{List}
use mathlib.Core.Bool.{true}
use Prim.Native.Nat.{ℕ, ◌<◌}
use native.Mathlib.Omega.{arith}
use lib.Dec.{eqb}
use lib.ListN.{length, get_or}
use borrow.Author.Tests.{eq-eqb, ne_eqb}
use Rattle.laws.proofs.Tests.{cond_true, cond_false}
use Rattle.rules.specs.declared.Settings.{Settings}
use Rattle.rules.specs.Answers.{ok}
use Rattle.rules.specs.Forms.{is_transfer}
use Rattle.rules.specs.Programs.{Placeℕ, Stmt, gone, Program, kind_of}
use Rattle.rules.specs.Names.{context_at}
use Rattle.rules.specs.Judging.{judge, assembles}
use Rattle.rules.specs.Output.{spoken}
use Rattle.promises.proofs.Passes.{judge_passes, assembles_image, image_assembles}
use Rattle.promises.proofs.Acceptable.{judge_anchor}
use Rattle.promises.proofs.Shows.{by_spoken, at_shown, judge_shown, shown_context}
use Rattle.listing.specs.Tables.{frame_at, input_at, form_in, Held}
use Rattle.slots.specs.Slots.{Slots, gone_form, slot_at, program_of}
use Rattle.slots.specs.Links.{Together}
use Rattle.slots.proofs.Frames.{Frame, of_instr, of_label, of_variable, of_comment, of_org, of_bytes, of_words, of_pad}
use Rattle.slots.proofs.Tables.{frame_is}
use Rattle.output.specs.Showing.{formed, Shown}
use Rattle.asm.specs.Assembling.{InPlace}
use Rattle.patterns.specs.Targets.{form_in as form_of}
use Rattle.patterns.proofs.Programs.{at_program}
use Rattle.patterns.proofs.Instructions.{slot_form}
use Rattle.anchors.specs.Anchored.{Anchored}
use Rattle.attempts.specs.Standing.{Standing}

-- ---- as read

-- each place carries its own target
pub own_together : (t : Slots) → ((i : Placeℕ) → i < t.count → get_or t.carry i 0 ≡ i) → Together t
own_together t own i l k m = ap (context_at (program_of t)) (own i l)

-- each place has its own form, which is one of the seventy
module _ (i : Placeℕ) (s : List ℕ) where
  plain : (get_or s 0 0 ≡ 1 → ⊥) → form_in s < gone_form
  plain n = omega (arith, cond_false (eqb (get_or s 0 0) 1) (get_or s 1 0) 0 (ne_eqb (get_or s 0 0) 1 n))

  own_form : (x : Stmt) → Frame i s x → form_in s < gone_form
  own_form x (of_instr f) = omega (arith, f.known, cond_true (eqb (get_or s 0 0) 1) (get_or s 1 0) 0 (eq-eqb (get_or s 0 0) 1 f.kind))
  own_form x (of_label f) = plain (λ k. omega (arith, f.kind))
  own_form x (of_variable f) = plain (λ k. omega (arith, f.kind))
  own_form x (of_comment f) = plain (λ k. omega (arith, f.kind))
  own_form x (of_org f) = plain (λ k. omega (arith, f.kind))
  own_form x (of_bytes f) = plain (λ k. omega (arith, f.kind))
  own_form x (of_words f) = plain (λ k. omega (arith, f.kind))
  own_form x (of_pad f) = plain (λ k. omega (arith, f.kind))

pub whole_start : (frames starts : List ℕ) (n : ℕ) (forms : List ℕ) → Held frames starts n
    → ((k : Placeℕ) → k < n → get_or forms k 0 ≡ form_in (frame_at frames starts k)) → (i : Placeℕ) → i < n → get_or forms i 0 < gone_form
whole_start frames starts n forms h own i l =
    omega (arith, own i l, own_form i (frame_at frames starts i) (input_at frames starts i) (frame_is frames starts n h i l))

-- ---- anchored

-- anchoring a program that assembles leaves one that assembles, and defines no name twice
pub anchored_stands : (t u : Slots) → Anchored t u → assembles (program_of t) ≡ true → length u.forms ≡ 1025 → length u.carry ≡ 1025
    → InPlace u → Together u → Standing u × (assembles (program_of u) ≡ true)
anchored_stands t u a g f c k w =
    let i = assembles_image (program_of t) g in
    let j : judge (program_of u) ≡ ok i.0 = ap judge a.program ∙ judge_anchor (program_of t) ∙ i.1 in (
      record { sound = a.sound; forms_full = f; carry_full = c; context = k; together = w; named = (judge_passes (program_of u) i.0 j).once },
      image_assembles (program_of u) i.0 j,
    )

-- ---- shown

-- an instruction is shown as it is
instr_shown : (asked : Settings) (s : Stmt) → kind_of (spoken asked s) ≡ 1 → spoken asked s ≡ s
instr_shown asked s e = by_spoken (λ a b. kind_of b ≡ 1 → b ≡ a) asked (λ x h. refl) (λ x h. absurd (omega arith)) s e

module _ (asked : Settings) (t : Slots) (forms : List ℕ) (h : Shown asked t (formed t forms)) where
  abbrev u : Slots
  u = formed t forms

  context_is : (i : Placeℕ) → context_at (program_of u) i ≡ context_at (program_of t) i
  context_is i = ap (λ (p : Program). context_at p i) h.program ∙ shown_context asked (program_of t) i

  slot_shown : (i : Placeℕ) → i < t.count → kind_of (slot_at u i) ≡ 1 → slot_at u i ≡ slot_at t i
  slot_shown i l e =
      let is : slot_at u i ≡ spoken asked (slot_at t i) =
      sym (at_program u i l) ∙ ap (λ (p : Program). get_or p i gone) h.program ∙ at_shown asked (program_of t) i ∙ ap (spoken asked) (at_program t i l) in
      is ∙ instr_shown asked (slot_at t i) (ap kind_of (sym is) ∙ e)

  shown_together : Standing t → Together u
  shown_together s i l e m =
      let same = slot_shown i l e in
      let kind : kind_of (slot_at t i) ≡ 1 = ap kind_of (sym same) ∙ e in
      let form : get_or forms i 0 ≡ get_or t.forms i 0 = sym (slot_form u s.sound.held i l e) ∙ ap form_of same ∙ slot_form t s.sound.held i l kind in
      context_is (get_or t.carry i 0) ∙ s.together i l kind (ap is_transfer (sym form) ∙ m) ∙ sym (context_is i)

  -- a program without its comments stands as it stood
  pub shown_stands : Standing t → assembles (program_of t) ≡ true → length forms ≡ 1025 → Standing u × (assembles (program_of u) ≡ true)
  shown_stands s g f =
      let i = assembles_image (program_of t) g in
      let j : judge (program_of u) ≡ ok i.0 = ap judge h.program ∙ judge_shown asked (program_of t) ∙ i.1 in (
        record {
          sound = h.sound;
          forms_full = f;
          carry_full = s.carry_full;
          context = record { context = λ k l. s.context.context k l ∙ sym (context_is k) };
          together = shown_together s;
          named = (judge_passes (program_of u) i.0 j).once;
        },
        image_assembles (program_of u) i.0 j,
      )
