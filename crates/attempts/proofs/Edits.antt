-- One edit of the tables: a form and a carried place are set at one place. It sets that place of the program, and what is known of the tables stays.
use mathlib.Core.Path.{◌≡◌, refl, sym, subst, ap, ap₂, ◌∙◌}
use mathlib.Core.List.{List, [], ◌∷◌}
use mathlib.Core.Option.{none, some}
use mathlib.Core.Bool.{Bool, true, false, cond}
use mathlib.Core.Logic.{◌⊎◌, inl, inr}
use Prim.Native.Nat.{ℕ, suc, ◌<◌}
use native.Mathlib.Omega.{arith}
use lib.Dec.{eqb, leb}
use lib.ListN.{length, get_or, set, length-set}
use lib.Seq.{get_or-set_same, get_or-set_other, set-get_or}
use borrow.Author.Tests.{eq-eqb, ne_eqb}
use Rattle.laws.specs.Options.{is_some, given, bind}
use Rattle.laws.proofs.Counts.{tab_ext, tab_set}
use Rattle.laws.proofs.Tests.{false_true, cond_true, cond_false, eq_or_not}
use Rattle.rules.specs.Forms.{is_transfer}
use Rattle.rules.specs.Programs.{Operand, Stmt, gone, instr, label, variable, comment, org, bytes, words, pad, as_name, on_instr, args_of, as_label, last_of, on_last, at, kind_of}
use Rattle.rules.specs.Names.{is_local, enter, context_at, placed}
use Rattle.rules.specs.Judging.{no_name_twice}
use Rattle.rules.specs.Rewriting.{local_label, aimed}
use Rattle.listing.specs.Tables.{frame_at, input_at}
use Rattle.slots.specs.Slots.{Slots, slots, gone_form, written, target_of, aimed_at, slot_at, program_of, Agree, WroteTarget, Sound}
use Rattle.slots.specs.Links.{Together}
use Rattle.slots.proofs.Slots.{slot_gone, slot_instr}
use Rattle.patterns.specs.Targets.{instr_at}
use Rattle.patterns.specs.Matches.{Moves}
use Rattle.patterns.proofs.Programs.{length_program, at_program}
use Rattle.patterns.proofs.Instructions.{as_instr_lem, own, slot_is, args_aimed, last_target}
use Rattle.attempts.specs.Standing.{Standing}
use Rattle.attempts.proofs.Quiet.{set_context, set_named}

-- ---- statements that enter no context

abbrev pub Quiet : Stmt → Type 0
Quiet s = (k : ℕ) → enter k s ≡ k

pub instr_quiet : (s : Stmt) → kind_of s ≡ 1 → Quiet s
instr_quiet s e k = ap (enter k) (as_instr_lem s e).1

pub label_quiet : (s : Stmt) → is_some (local_label s) ≡ true → Quiet s
unfolding local_label as_label bind
label_quiet gone e k = refl
label_quiet (instr f xs c) e k = refl
label_quiet (label n) e k = on (is_local n) e
  where
    on : (b : Bool) → is_some (given b (some n)) ≡ true → cond b k (suc k) ≡ k
    on true h = refl
    on false h = false_true (unfold given in h)
label_quiet (variable n d) e k = refl
label_quiet (comment x) e k = refl
label_quiet (org l) e k = refl
label_quiet (bytes es) e k = refl
label_quiet (words es) e k = refl
label_quiet (pad add m) e k = refl

-- ---- the last operand set twice is set once

pub last_twice : (x y : Operand) (xs : List Operand) → on_last (λ old. x) (on_last (λ old. y) xs) ≡ on_last (λ old. x) xs
last_twice x y [] = refl
last_twice x y (a ∷ []) = refl
last_twice x y (a ∷ b ∷ []) = refl
last_twice x y (a ∷ b ∷ c ∷ xs) = ap (λ (zs : List Operand). a ∷ zs) (last_twice x y (b ∷ c ∷ xs))

-- ---- a form that may stand for one that may stand for a third

pub agree_trans : (f g h : ℕ) → Agree f g → Agree g h → Agree f h
agree_trans f g h a b = record { known = a.known; registers = a.registers ∙ b.registers; transfer = a.transfer ∙ b.transfer }

-- ---- tables that differ in forms and carried places only

module _ (frames starts : List ℕ) (count : ℕ) (owners offsets : List ℕ) where
  abbrev tables : (forms carry : List ℕ) → Slots
  tables forms carry = slots frames starts count forms carry owners offsets

  -- a slot depends on what stands at its own place
  slot_same : (forms carry forms' carry' : List ℕ) (i : ℕ) → get_or forms' i 0 ≡ get_or forms i 0 → get_or carry' i 0 ≡ get_or carry i 0 → slot_at (tables forms' carry') i ≡ slot_at (tables forms carry) i
  unfolding slot_at target_of
  slot_same forms carry forms' carry' i e d =
      let w = input_at frames starts i in
      ap₂ (λ (a b : ℕ). cond (leb gone_form a) gone (on_instr w (λ x. instr a (aimed_at (tables forms carry) a b x.args) b) w)) e d

  -- an instruction with form f that carries the target of place c
  slot_new : (forms carry forms' carry' : List ℕ) (i f c g : ℕ) (xs : List Operand) (k : ℕ) → get_or forms' i 0 ≡ f → get_or carry' i 0 ≡ c → f < gone_form
      → written (tables forms carry) i ≡ instr g xs k → slot_at (tables forms' carry') i ≡ instr f (aimed_at (tables forms carry) f c xs) c
  unfolding target_of
  slot_new forms carry forms' carry' i f c g xs k e d l w = slot_instr (tables forms' carry') i g xs k (omega arith) w ∙ rw (e, d)

  module _ (forms carry : List ℕ) (i f c : ℕ) (inf : i < length forms) (inc : i < length carry) where
    abbrev before : Slots
    before = tables forms carry

    abbrev after : Slots
    after = tables (set forms i f) (set carry i c)

    form_there : get_or (set forms i f) i 0 ≡ f
    form_there = get_or-set_same forms i f 0 inf

    carry_there : get_or (set carry i c) i 0 ≡ c
    carry_there = get_or-set_same carry i c 0 inc

    elsewhere : (j : ℕ) → (j ≡ i → ⊥) → slot_at after j ≡ slot_at before j
    elsewhere j n = slot_same forms carry (set forms i f) (set carry i c) j (get_or-set_other forms i j f 0 n) (get_or-set_other carry i j c 0 n)

    -- the program is set at that place
    edit_is : (s : Stmt) → slot_at after i ≡ s → program_of after ≡ set (program_of before) i s
    unfolding program_of
    edit_is s e =
        tab_ext (slot_at after) (λ j. cond (eqb j i) s (slot_at before j)) count (λ j l. on j (eq_or_not j i))
        ∙ sym (tab_set (slot_at before) count i s)
      where
        on : (j : ℕ) → (j ≡ i) ⊎ (j ≡ i → ⊥) → slot_at after j ≡ cond (eqb j i) s (slot_at before j)
        on j (inl q) = ap (slot_at after) q ∙ e ∙ sym (cond_true (eqb j i) s (slot_at before j) (eq-eqb j i q))
        on j (inr n) = elsewhere j n ∙ sym (cond_false (eqb j i) s (slot_at before j) (ne_eqb j i n))

    -- what has to be known of the form and the carried place, if an instruction stands there now
    abbrev Fits : Type 0
    Fits = kind_of (slot_at after i) ≡ 1 → Agree f (get_or (frame_at frames starts i) 1 0) × (is_transfer f ≡ true → WroteTarget before c)

    edit_sound : Sound before → Fits → Sound after
    edit_sound s fits =
        record {
          held = s.held;
          forms = λ j l e. formed j l e (eq_or_not j i);
          carried = λ j l e m. carries j l e m (eq_or_not j i);
          owned = s.owned;
        }
      where
        formed : (j : ℕ) → j < count → kind_of (slot_at after j) ≡ 1 → (j ≡ i) ⊎ (j ≡ i → ⊥) → Agree (get_or (set forms i f) j 0) (get_or (frame_at frames starts j) 1 0)
        formed j l e (inl q) = subst (λ (k : ℕ). Agree (get_or (set forms i f) k 0) (get_or (frame_at frames starts k) 1 0)) (sym q) (rw form_there (fits (ap (λ k. kind_of (slot_at after k)) (sym q) ∙ e)).0)
        formed j l e (inr n) = rw (get_or-set_other forms i j f 0 n) (s.forms j l (sym (ap kind_of (elsewhere j n)) ∙ e))

        carries : (j : ℕ) → j < count → kind_of (slot_at after j) ≡ 1 → is_transfer (get_or (set forms i f) j 0) ≡ true → (j ≡ i) ⊎ (j ≡ i → ⊥) → WroteTarget after (get_or (set carry i c) j 0)
        carries j l e m (inl q) =
            let w = (fits (ap (λ k. kind_of (slot_at after k)) (sym q) ∙ e)).1 (ap is_transfer (sym (ap (λ k. get_or (set forms i f) k 0) q ∙ form_there)) ∙ m) in
            let d : get_or (set carry i c) j 0 ≡ c = ap (λ k. get_or (set carry i c) k 0) q ∙ carry_there in
            rw d (record { inside = w.inside; instruction = w.instruction; transfer = w.transfer })
        carries j l e m (inr n) =
            let w = s.carried j l (sym (ap kind_of (elsewhere j n)) ∙ e) (ap is_transfer (sym (get_or-set_other forms i j f 0 n)) ∙ m) in
            rw (get_or-set_other carry i j c 0 n) (record { inside = w.inside; instruction = w.instruction; transfer = w.transfer })

    -- and the target is in the context of its new place
    abbrev Near : Type 0
    Near = kind_of (slot_at after i) ≡ 1 → is_transfer f ≡ true → context_at (program_of before) c ≡ context_at (program_of before) i

    edit_together : ((j : ℕ) → context_at (program_of after) j ≡ context_at (program_of before) j) → Together before → Near → Together after
    edit_together same t near j l e m = on (eq_or_not j i)
      where
        on : (j ≡ i) ⊎ (j ≡ i → ⊥) → context_at (program_of after) (get_or (set carry i c) j 0) ≡ context_at (program_of after) j
        on (inl q) =
            let d : get_or (set carry i c) j 0 ≡ c = ap (λ k. get_or (set carry i c) k 0) q ∙ carry_there in
            let moves : is_transfer f ≡ true = ap is_transfer (sym (ap (λ k. get_or (set forms i f) k 0) q ∙ form_there)) ∙ m in
            same (get_or (set carry i c) j 0)
            ∙ ap (context_at (program_of before)) d
            ∙ near (ap (λ k. kind_of (slot_at after k)) (sym q) ∙ e) moves
            ∙ ap (context_at (program_of before)) (sym q)
            ∙ sym (same j)
        on (inr n) =
            same (get_or (set carry i c) j 0)
            ∙ ap (context_at (program_of before)) (get_or-set_other carry i j c 0 n)
            ∙ t j l (sym (ap kind_of (elsewhere j n)) ∙ e) (ap is_transfer (sym (get_or-set_other forms i j f 0 n)) ∙ m)
            ∙ sym (same j)

    -- the contexts and the names stay too, if neither statement enters a context and the new one defines no name
    edit_stands : (s : Stmt) → Standing before → i < count → Quiet (slot_at before i) → slot_at after i ≡ s → Quiet s → as_name s ≡ none → Fits → Near → Standing after
    edit_stands s st l old is new unnamed fits near =
        let p = program_of before in
        let in_p : i < length p = omega (arith, length_program before) in
        let quiet : Quiet (at p i) = λ k. ap (enter k) (at_program before i l) ∙ old k in
        let q = edit_is s is in
        let same : (j : ℕ) → context_at (program_of after) j ≡ context_at p j = λ j. ap (λ r. context_at r j) q ∙ set_context p i s j in_p quiet new in
        record {
          sound = edit_sound st.sound fits;
          forms_full = length-set forms i f ∙ st.forms_full;
          carry_full = length-set carry i c ∙ st.carry_full;
          context = record { context = λ j m. st.context.context j m ∙ sym (same j) };
          together = edit_together same st.together near;
          named = ap (λ r. no_name_twice [] (placed r)) q ∙ set_named p i s in_p quiet new unnamed st.named;
        }

-- ---- the edits that are made

-- after is before with statement s at place i
pub record Edited (before after : Slots) (i : ℕ) (s : Stmt) : Type 0 where
  pub is : program_of after ≡ set (program_of before) i s
  pub stands : Standing after
  pub elsewhere : (j : ℕ) → (j ≡ i → ⊥) → slot_at after j ≡ slot_at before j

module _ (frames starts : List ℕ) (count : ℕ) (forms carry owners offsets : List ℕ) (st : Standing (slots frames starts count forms carry owners offsets)) where
  abbrev here : Slots
  here = slots frames starts count forms carry owners offsets

  abbrev there : (forms carry : List ℕ) → Slots
  there forms carry = slots frames starts count forms carry owners offsets

  in_forms : (i : ℕ) → i < count → i < length forms
  in_forms i l = omega (arith, st.forms_full, st.sound.held.few)

  in_carry : (i : ℕ) → i < count → i < length carry
  in_carry i l = omega (arith, st.carry_full, st.sound.held.few)

  edited : (i f c : ℕ) (s : Stmt) → (l : i < count) → Quiet (slot_at here i) → slot_at (there (set forms i f) (set carry i c)) i ≡ s → Quiet s → as_name s ≡ none
      → Fits frames starts count owners offsets forms carry i f c (in_forms i l) (in_carry i l)
      → Near frames starts count owners offsets forms carry i f c (in_forms i l) (in_carry i l) → Edited here (there (set forms i f) (set carry i c)) i s
  edited i f c s l old is new unnamed fits near =
      record {
        is = edit_is frames starts count owners offsets forms carry i f c (in_forms i l) (in_carry i l) s is;
        stands = edit_stands frames starts count owners offsets forms carry i f c (in_forms i l) (in_carry i l) s st l old is new unnamed fits near;
        elsewhere = elsewhere frames starts count owners offsets forms carry i f c (in_forms i l) (in_carry i l);
      }

  -- a slot that is gone
  pub edit_gone : (i : ℕ) → i < count → Quiet (slot_at here i) → Edited here (there (set forms i gone_form) carry) i gone
  unfolding as_name
  edit_gone i l old =
      let is = slot_gone (there (set forms i gone_form) (set carry i (get_or carry i 0))) i (omega (arith, get_or-set_same forms i gone_form 0 (in_forms i l))) in
      subst (λ (c : List ℕ). Edited here (there (set forms i gone_form) c) i gone) (set-get_or carry i 0)
      (edited i gone_form (get_or carry i 0) gone l old is (λ k. refl) refl
      (λ e. let z : ◌≡◌ {A = ℕ} 0 1 = sym (ap kind_of is) ∙ e in absurd (omega arith)) (λ e m. let z : ◌≡◌ {A = ℕ} 0 1 = sym (ap kind_of is) ∙ e in absurd (omega arith)))

  module _ (i f : ℕ) (l : i < count) (kind : kind_of (slot_at here i) ≡ 1) (a : Agree f (get_or forms i 0)) where
    abbrev args : List Operand
    args = (own here st.sound.held i l kind).args

    fits_frame : Agree f (get_or (frame_at frames starts i) 1 0)
    fits_frame = agree_trans f (get_or forms i 0) (get_or (frame_at frames starts i) 1 0) a (st.sound.forms i l kind)

    slot_there : (c : ℕ) → slot_at (there (set forms i f) (set carry i c)) i ≡ instr f (aimed_at here f c args) c
    slot_there c =
        slot_new frames starts count owners offsets forms carry (set forms i f) (set carry i c) i f c _ args i
        (get_or-set_same forms i f 0 (in_forms i l)) (get_or-set_same carry i c 0 (in_carry i l)) a.known (own here st.sound.held i l kind).is

    -- another form, the operands kept
    pub edit_form : Edited here (there (set forms i f) carry) i (instr f (args_of (slot_at here i)) (get_or carry i 0))
    unfolding as_name
    edit_form =
        let c = get_or carry i 0 in
        let same : args_of (slot_at here i) ≡ aimed_at here f c args =
        ap args_of (slot_is here st.sound.held i l kind) ∙ ap (λ (b : Bool). cond b (on_last (λ old. target_of here c) args) args) (sym a.transfer) in
        subst (λ (d : List ℕ). Edited here (there (set forms i f) d) i (instr f (args_of (slot_at here i)) c)) (set-get_or carry i 0)
        (edited i f c (instr f (args_of (slot_at here i)) c) l (instr_quiet (slot_at here i) kind)
        (slot_there c ∙ ap (λ (xs : List Operand). instr f xs c) (sym same)) (λ k. refl) refl
        (λ e. (fits_frame, λ m. st.sound.carried i l kind (sym a.transfer ∙ m))) (λ e m. st.together i l kind (sym a.transfer ∙ m)))

  -- a transfer, to the target of the one at j
  pub edit_aimed : (i j f : ℕ) → Moves here i → Moves here j → context_at (program_of here) j ≡ context_at (program_of here) i → Agree f (get_or forms i 0)
      → Edited here (there (set forms i f) (set carry i (get_or carry j 0))) i (aimed f (instr_at here i) (instr_at here j))
  unfolding as_name
  edit_aimed i j f from to near a =
      let s = st.sound in
      let c = get_or carry j 0 in
      let xs = args i f from.inside from.kind a in
      let goal : on_last (λ old. last_of (args_of (slot_at here j))) (args_of (slot_at here i)) ≡ aimed_at here f c xs =
      ap (λ (ys : List Operand). on_last (λ old. last_of (args_of (slot_at here j))) ys) (args_aimed here s.held i from.inside from.kind from.transfer)
      ∙ last_twice (last_of (args_of (slot_at here j))) (target_of here (get_or carry i 0)) xs
      ∙ ap (λ (x : Operand). on_last (λ old. x) xs) (last_target here s j to.inside to.kind to.transfer)
      ∙ sym (cond_true (is_transfer f) (on_last (λ old. target_of here c) xs) xs (a.transfer ∙ from.transfer)) in
      edited i f c (aimed f (instr_at here i) (instr_at here j)) from.inside (instr_quiet (slot_at here i) from.kind)
      (slot_there i f from.inside from.kind a c ∙ ap (λ (ys : List Operand). instr f ys c) (sym goal)) (λ k. refl) refl
      (λ e. (fits_frame i f from.inside from.kind a, λ m. s.carried j to.inside to.kind to.transfer)) (λ e m. st.together j to.inside to.kind to.transfer ∙ near)

  -- the same, its form kept
  pub edit_target : (i j f : ℕ) → Moves here i → Moves here j → context_at (program_of here) j ≡ context_at (program_of here) i → get_or forms i 0 ≡ f
      → Edited here (there forms (set carry i (get_or carry j 0))) i (aimed f (instr_at here i) (instr_at here j))
  edit_target i j f from to near e =
      let g = get_or forms i 0 in
      let keeps : Agree g g = record { known = (st.sound.forms i from.inside from.kind).known; registers = refl; transfer = refl } in
      subst (λ (h : ℕ). Edited here (there forms (set carry i (get_or carry j 0))) i (aimed h (instr_at here i) (instr_at here j))) e
      (subst (λ (fs : List ℕ). Edited here (there fs (set carry i (get_or carry j 0))) i (aimed g (instr_at here i) (instr_at here j))) (set-get_or forms i 0)
      (edit_aimed i j g from to near keeps))
