-- C-18 over the slots: each slot holds what is shown of its statement, and the tables stay sound.
use mathlib.Core.Path.{◌≡◌, refl, sym, ap, ◌∙◌}
use mathlib.Core.Logic.{◌⊎◌, inl, inr}
use mathlib.Core.List.{List, [], ◌∷◌, ◌++◌}
use mathlib.Core.Bool.{Bool, true, false, ◌||◌, ◌&&◌, not, cond}
use Prim.Native.Nat.{ℕ, ◌+◌, ◌<◌}
use native.Mathlib.Omega.{arith}
use lib.Dec.{leb}
use lib.ListN.{length, get_or, drop, get_or-append}
use lib.Seq.{get_or-drop}
use borrow.Author.Tests.{eq-eqb, ne_eqb}
use Rattle.laws.specs.Counts.{tab}
use Rattle.laws.proofs.Tests.{eq_or_not}
use Rattle.laws.proofs.Counts.{length_tab, get_or_tab, tab_ext, map_tab}
use Rattle.laws.proofs.Stores.{front_drop}
use Rattle.rules.specs.declared.Settings.{Settings}
use Rattle.rules.specs.Programs.{Placeℕ, Stmt, gone, instr, on_instr, kind_of, has_kind}
use Rattle.rules.specs.Output.{spoken, shown}
use Rattle.slots.specs.Slots.{Slots, gone_form, written, target_of, aimed_at, slot_at, program_of, Sound}
use Rattle.slots.proofs.Slots.{slot_gone, not_gone}
use Rattle.output.specs.Showing.{shown_form, formed, Shown}

-- ---- one statement
spoken_asked : (asked : Settings) (s : Stmt) → asked.comments ≡ true → spoken asked s ≡ s
spoken_asked asked s c = ap (λ (b : Bool). cond (has_kind (4 ∷ []) s && not b) gone s) c ∙ on (has_kind (4 ∷ []) s)
  where
    on : (b : Bool) → cond (b && false) gone s ≡ s
    on true = refl
    on false = refl

spoken_gone : (asked : Settings) (s : Stmt) → asked.comments ≡ false → kind_of s ≡ 4 → spoken asked s ≡ gone
spoken_gone asked s c k =
    ap (λ (b : Bool). cond (has_kind (4 ∷ []) s && not b) gone s) c ∙ ap (λ (b : Bool). cond ((b || false) && true) gone s)
    (eq-eqb 4 (kind_of s) (sym k))

spoken_kept : (asked : Settings) (s : Stmt) → (kind_of s ≡ 4 → ⊥) → spoken asked s ≡ s
spoken_kept asked s n = ap (λ (b : Bool). cond ((b || false) && not asked.comments) gone s) (ne_eqb 4 (kind_of s) (λ z. n (sym z)))

-- ---- one slot

-- what stands in a slot, by its form
made : Slots → (i g : ℕ) → Stmt
made t i g =
    cond (leb gone_form g) gone (on_instr (written t i) (λ x. instr g (aimed_at t g (get_or t.carry i 0) x.args) (get_or t.carry i 0))
    (written t i))

pub slot_same : (t : Slots) (forms : List ℕ) (i : Placeℕ) → get_or forms i 0 ≡ get_or t.forms i 0 → slot_at (formed t forms) i ≡ slot_at t i
unfolding slot_at target_of made
slot_same t forms i e = ap (made t i) e

module _ (asked : Settings) (t : Slots) (forms : List ℕ) (i : Placeℕ) (e : get_or forms i 0 ≡ shown_form asked (kind_of (slot_at t i))
    (get_or t.forms i 0)) where
  -- a form stays if comments are asked for, or none stands there
  form_asked : asked.comments ≡ true → get_or forms i 0 ≡ get_or t.forms i 0
  unfolding shown_form
  form_asked c = e ∙ rw c

  form_other : asked.comments ≡ false → (kind_of (slot_at t i) ≡ 4 → ⊥) → get_or forms i 0 ≡ get_or t.forms i 0
  unfolding shown_form
  form_other c n = e ∙ rw (c, ne_eqb (kind_of (slot_at t i)) 4 n)

  form_gone : asked.comments ≡ false → kind_of (slot_at t i) ≡ 4 → get_or forms i 0 ≡ gone_form
  unfolding shown_form
  form_gone c k = e ∙ rw (c, eq-eqb (kind_of (slot_at t i)) 4 k)

  slot_shown : slot_at (formed t forms) i ≡ spoken asked (slot_at t i)
  slot_shown = on asked.comments refl (eq_or_not (kind_of (slot_at t i)) 4)
    where
      on : (b : Bool) → asked.comments ≡ b → (kind_of (slot_at t i) ≡ 4) ⊎ (kind_of (slot_at t i) ≡ 4 → ⊥) → slot_at (formed t forms) i
          ≡ spoken asked (slot_at t i)
      on true c k = slot_same t forms i (form_asked c) ∙ sym (spoken_asked asked (slot_at t i) c)
      on false c (inl k) = slot_gone (formed t forms) i (omega (arith, form_gone c k)) ∙ sym (spoken_gone asked (slot_at t i) c k)
      on false c (inr n) = slot_same t forms i (form_other c n) ∙ sym (spoken_kept asked (slot_at t i) n)

  -- a slot that is left has the form that it had
  form_left : get_or forms i 0 < gone_form → get_or forms i 0 ≡ get_or t.forms i 0
  form_left g = on asked.comments refl (eq_or_not (kind_of (slot_at t i)) 4)
    where
      on : (b : Bool) → asked.comments ≡ b → (kind_of (slot_at t i) ≡ 4) ⊎ (kind_of (slot_at t i) ≡ 4 → ⊥) → get_or forms i 0 ≡ get_or
          t.forms i 0
      on true c k = form_asked c
      on false c (inl k) = absurd (omega (arith, g, form_gone c k))
      on false c (inr n) = form_other c n

-- ---- the tables
abbrev pub ShownForms : Settings → Slots → (forms : List ℕ) → Type 0
ShownForms asked t forms = (i : Placeℕ) → i < t.count → get_or forms i 0 ≡ shown_form asked (kind_of (slot_at t i)) (get_or t.forms i 0)

pub shown_slots : (asked : Settings) (t : Slots) (forms : List ℕ) → Sound t → ShownForms asked t forms → Shown asked t (formed t forms)
unfolding program_of shown
shown_slots asked t forms s e =
    record {
      sound = record {
        held = s.held;
        forms = λ i l k. rw (kept i l k) (s.forms i l (as_it_was i l k));
        carried = λ i l k u.
            (let c = s.carried i l (as_it_was i l k) (rw (kept i l k) at u) in
            record {
              inside = c.inside;
              instruction = c.instruction;
              transfer = c.transfer;
            });
        owned = s.owned;
      };
      program = tab_ext (slot_at (formed t forms)) (λ i. spoken asked (slot_at t i)) t.count (λ i l. slot_shown asked t forms i (e i l))
          ∙ sym (map_tab (slot_at t) (spoken asked) t.count);
    }
  where
    kept : (i : Placeℕ) → i < t.count → kind_of (slot_at (formed t forms) i) ≡ 1 → get_or forms i 0 ≡ get_or t.forms i 0
    kept i l k = form_left asked t forms i (e i l) (not_gone (formed t forms) i 0 k)

    as_it_was : (i : Placeℕ) → i < t.count → kind_of (slot_at (formed t forms) i) ≡ 1 → kind_of (slot_at t i) ≡ 1
    as_it_was i l k = sym (ap kind_of (slot_same t forms i (kept i l k))) ∙ k

-- ---- a table that is filled from the front
pub front_at : (F : ℕ → ℕ) (n : ℕ) (l rest : List ℕ) (i : ℕ) → l ≡ tab F n ++ rest → i < n → get_or l i 0 ≡ F i
front_at F n l rest i e h =
    let inside : i < length (tab F n) = rw (length_tab F n) h in
    ap (λ x. get_or x i 0) e ∙ get_or-append (tab F n) rest 0 i inside ∙ get_or_tab F n i 0 h

pub behind_at : (F : ℕ → ℕ) (d l : List ℕ) (i : ℕ) → l ≡ tab F i ++ drop i d → get_or l i 0 ≡ get_or d i 0
behind_at F d l i e =
    let z : i + 0 ≡ i = omega arith in
    let same : drop i l ≡ drop i d = front_drop (tab F i) d l i e (length_tab F i) in
    sym (ap (λ (k : ℕ). get_or l k 0) z) ∙ sym (get_or-drop i l 0 0) ∙ ap (λ (x : List ℕ). get_or x 0 0) same ∙ get_or-drop i d 0 0
    ∙ ap (λ (k : ℕ). get_or d k 0) z
