-- A frame is good at every place or at none.
use mathlib.Core.Path.{◌≡◌, refl, sym, ap, ◌∙◌}
use mathlib.Core.Bool.{Bool}
use mathlib.Core.List.{List, [], ◌∷◌}
use mathlib.Core.Logic.{⊎_elim}
use Prim.Native.Nat.{ℕ, ◌≤◌}
use lib.Dec.{leb}
use lib.ListN.{length, get_or, drop}
use Rattle.laws.proofs.Tests.{eq_or_not, lt_or_le}
use Rattle.rules.specs.declared.Refusal.TheVariants.{Broken}
use Rattle.rules.specs.Answers.{at_place, Judged, ok, require}
use Rattle.rules.specs.Programs.{Placeℕ, Stmt}
use Rattle.rules.specs.Listing.{ListingForm, old_form, new_form, read_instr, read_frame, read_frame_in}
use Rattle.rules.specs.Statements.{instruction_of, statement_of}
use Rattle.rules.proofs.Laws.{no_ok, require_ok}
use Rattle.instruction.proofs.Entries.{NoneIn}
use Rattle.listing.specs.Frames.{framed_as}
use Rattle.listing.proofs.Refused.{is_ok_lem, frame_some}
use Rattle.listing.proofs.FrameKinds.{instruction_short, no_instruction, instruction_read, frame_instruction, frame_label, frame_variable, frame_comment, frame_org, frame_bytes_lem, frame_words, frame_pad, no_frame}

-- what the code answers of a frame names no place
module _ (i j : Placeℕ) (s : List ℕ) where
  instr_moved : framed_as (read_instr i (drop 1 s)) (instruction_of s) ≡ framed_as (read_instr j (drop 1 s)) (instruction_of s)
  instr_moved =
      ⊎_elim (λ h. sym (instruction_short i s (instruction_of s) h) ∙ instruction_short j s (instruction_of s) h) (λ h.
      ⊎_elim (λ f. let read = instruction_read s (drop 2 s) _ _ _ _ h refl refl refl refl f refl in sym (read i) ∙ read j)
      (λ f. sym (no_instruction i s (instruction_of s) h f) ∙ no_instruction j s (instruction_of s) h f)
      (lt_or_le (get_or s 1 0) 70)) (lt_or_le (length s) 2)

  framed_moved : 1 ≤ length s → framed_as (read_frame i s) (statement_of s) ≡ framed_as (read_frame j s) (statement_of s)
  framed_moved h =
      let k : ℕ = get_or s 0 0 in
      ⊎_elim (λ e. sym (frame_instruction i s h e) ∙ instr_moved ∙ frame_instruction j s h e) (λ n1.
      ⊎_elim (λ e. sym (frame_label i s h e) ∙ frame_label j s h e) (λ n2.
      ⊎_elim (λ e. sym (frame_variable i s h e) ∙ frame_variable j s h e) (λ n3.
      ⊎_elim (λ e. sym (frame_comment i s h e) ∙ frame_comment j s h e) (λ n4.
      ⊎_elim (λ e. sym (frame_org i s h e) ∙ frame_org j s h e) (λ n5.
      ⊎_elim (λ e. sym (frame_bytes_lem i s h e) ∙ frame_bytes_lem j s h e) (λ n6.
      ⊎_elim (λ e. sym (frame_words i s h e) ∙ frame_words j s h e) (λ n7.
      ⊎_elim (λ e. sym (frame_pad i s h e) ∙ frame_pad j s h e) (λ n8.
      let none : NoneIn k (8 ∷ 7 ∷ 6 ∷ 5 ∷ 4 ∷ 3 ∷ 2 ∷ 1 ∷ []) = ((((((((tt, n1), n2), n3), n4), n5), n6), n7), n8) in
      sym (no_frame i s (statement_of s) h none) ∙ no_frame j s (statement_of s) h none)
      (eq_or_not k 8)) (eq_or_not k 7)) (eq_or_not k 6)) (eq_or_not k 5)) (eq_or_not k 4)) (eq_or_not k 3)) (eq_or_not k 2)) (eq_or_not k 1)

  frame_moved : (x : Stmt) → read_frame i s ≡ ok x → (y : Stmt) × (read_frame j s ≡ ok y)
  frame_moved x e =
      is_ok_lem (read_frame j s) (statement_of s) (statement_of s)
      (ap (λ (r : Judged Stmt). framed_as r (statement_of s)) (sym e) ∙ framed_moved (frame_some i s x e))

pub moved : (w : ListingForm) (i j : Placeℕ) (s : List ℕ) (x : Stmt) → read_frame_in w i s ≡ ok x → (y : Stmt)
    × (read_frame_in w j s ≡ ok y)
unfolding require
moved old_form i j s x e = frame_moved i j s x e
moved new_form i j [] x e = no_ok (Broken (at_place i)) x e
moved new_form i j (k ∷ s) x e =
    let a = require_ok (leb 4 (length s)) (Broken (at_place i)) (read_frame i (k ∷ drop 4 s)) x e in
    let b = frame_moved i j (k ∷ drop 4 s) x a.1 in
    let f : require (leb 4 (length s)) (Broken (at_place j)) (read_frame j (k ∷ drop 4 s)) ≡ read_frame j (k ∷ drop 4 s) =
    ap (λ (t : Bool). require t (Broken (at_place j)) (read_frame j (k ∷ drop 4 s))) a.0 in
    (b.0, f ∙ b.1)
