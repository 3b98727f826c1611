-- The slots of a listing as read: each place has its own form and its own target, and no target became an inner label. They hold the listing's
-- statements, and all that is asked of slots is known of them.
use mathlib.Core.Path.{◌≡◌, refl, sym, ap, ◌∙◌}
use mathlib.Core.List.{List, [], ◌∷◌}
use mathlib.Core.Bool.{Bool, true, false, cond}
use Prim.Native.Nat.{ℕ, zero, suc, ◌+◌, ◌*◌, ◌%◌, ◌<◌}
use native.Mathlib.Omega.{arith}
use lib.ListN.{get_or, length}
use borrow.Author.Tests.{eq-eqb, ne_eqb}
use Rattle.laws.proofs.Counts.{tab_ext}
use Rattle.rules.specs.Forms.{is_transfer}
use Rattle.rules.specs.Programs.{Operand, Stmt, instr, args_of, last_of, on_last, kind_of}
use Rattle.listing.specs.Tables.{frame_at, input_at, input_of, form_in, Held}
use Rattle.slots.specs.Slots.{Slots, slots, gone_form, no_owner, written, target_of, slot_at, program_of, Sound}
use Rattle.slots.proofs.Frames.{Frame, InstrFrame, of_instr, of_label, of_variable, of_comment, of_org, of_bytes, of_words, of_pad}
use Rattle.slots.specs.State.{low_bytes, starts_in}
use Rattle.slots.proofs.State.{byte_at, byte_same, found_is}
use Rattle.slots.proofs.Tables.{frame_is}
use Rattle.slots.proofs.Slots.{slot_instr, slot_other, kind_read, written_frame}
use Rattle.asm.specs.Starting.{Column}

-- ---- the rows that were copied

-- a form that was read is a byte
pub form_low : (i : ℕ) (s : List ℕ) (x : Stmt) → Frame i s x → form_in s < 70
form_low i s x (of_instr f) = rw (eq-eqb (get_or s 0 0) 1 f.kind) f.known
form_low i s x (of_label f) = rw (ne_eqb (get_or s 0 0) 1 (λ e. omega (arith, f.kind))) (omega arith)
form_low i s x (of_variable f) = rw (ne_eqb (get_or s 0 0) 1 (λ e. omega (arith, f.kind))) (omega arith)
form_low i s x (of_comment f) = rw (ne_eqb (get_or s 0 0) 1 (λ e. omega (arith, f.kind))) (omega arith)
form_low i s x (of_org f) = rw (ne_eqb (get_or s 0 0) 1 (λ e. omega (arith, f.kind))) (omega arith)
form_low i s x (of_bytes f) = rw (ne_eqb (get_or s 0 0) 1 (λ e. omega (arith, f.kind))) (omega arith)
form_low i s x (of_words f) = rw (ne_eqb (get_or s 0 0) 1 (λ e. omega (arith, f.kind))) (omega arith)
form_low i s x (of_pad f) = rw (ne_eqb (get_or s 0 0) 1 (λ e. omega (arith, f.kind))) (omega arith)

-- the rows a, b, c and d are the stripes of what was read
pub stripes_are : (starts a b c d : List ℕ) (rest : List (List ℕ)) → length starts ≡ 4100 → Column starts 0 a → Column starts 1025 b → Column starts 2050 c → Column starts 3075 d
    → starts_in (a ∷ b ∷ c ∷ d ∷ rest) ≡ starts
stripes_are starts a b c d rest size p q r s = found_is (a ∷ b ∷ c ∷ d ∷ rest) starts size each
  where
    each : (j i : ℕ) → j < 4 → i < 1025 → get_or (get_or (a ∷ b ∷ c ∷ d ∷ rest) j []) i 0 ≡ get_or starts (j * 1025 + i) 0
    each zero i h l = p.1 i l ∙ ap (λ (n : ℕ). get_or starts n 0) (let e : 0 + i ≡ 0 * 1025 + i = omega arith in e)
    each (suc zero) i h l = q.1 i l
    each (suc (suc zero)) i h l = r.1 i l
    each (suc (suc (suc zero))) i h l = s.1 i l
    each (suc (suc (suc (suc j)))) i h l = absurd (omega arith)

-- the last of them has the forms
pub forms_are : (frames starts d : List ℕ) (n : ℕ) → Held frames starts n → Column starts 3075 d → (i : ℕ) → i < n → get_or (low_bytes d) i 0 ≡ form_in (frame_at frames starts i)
forms_are frames starts d n h s i l =
    let form : get_or d i 0 ≡ form_in (frame_at frames starts i) = s.1 i (omega (arith, h.few)) ∙ (h.noted i l).form in
    byte_at d i ∙ ap (λ (f : ℕ). f % 256) form
    ∙ byte_same (form_in (frame_at frames starts i)) (omega (arith, form_low i (frame_at frames starts i) (input_at frames starts i) (frame_is frames starts n h i l)))

-- the last operand put in its own place
last_again : (xs : List Operand) → on_last (λ old. last_of xs) xs ≡ xs
last_again [] = refl
last_again (x ∷ []) = refl
last_again (x ∷ y ∷ xs) = ap (λ l. x ∷ l) (last_again (y ∷ xs))

module _ (frames starts : List ℕ) (n : ℕ) (h : Held frames starts n) (forms carry owners offsets : List ℕ)
    (own : (i : ℕ) → i < n → get_or forms i 0 ≡ form_in (frame_at frames starts i))
    (mine : (i : ℕ) → i < n → get_or carry i 0 ≡ i)
    (free : (c : ℕ) → c < n → get_or owners c 0 ≡ no_owner) where
  abbrev t : Slots
  t = slots frames starts n forms carry owners offsets

  abbrev s : ℕ → List ℕ
  s i = frame_at frames starts i

  -- the form of an instruction is its own; any other statement's is 0
  own_form : (i : ℕ) → i < n → get_or (s i) 0 0 ≡ 1 → get_or forms i 0 ≡ get_or (s i) 1 0
  own_form i l k = own i l ∙ rw (eq-eqb (get_or (s i) 0 0) 1 k)

  no_form : (i : ℕ) → i < n → (get_or (s i) 0 0 ≡ 1 → ⊥) → get_or forms i 0 ≡ 0
  no_form i l k = own i l ∙ rw (ne_eqb (get_or (s i) 0 0) 1 k)

  -- the target of a place is the one that was written there
  own_target : (c : ℕ) → c < n → target_of t c ≡ last_of (args_of (written t c))
  unfolding target_of
  own_target c l = rw (free c l)

  slot_instruction : (i : ℕ) → i < n → InstrFrame i (s i) (written t i) → slot_at t i ≡ written t i
  slot_instruction i l f =
      let e = own_form i l f.kind in
      let stays : get_or forms i 0 < gone_form = omega (arith, f.known) in
      slot_instr t i (get_or (s i) 1 0) f.args i stays f.is
      ∙ rw (mine i l, e)
      (ap (λ xs. instr (get_or (s i) 1 0) xs i) (aimed (is_transfer (get_or (s i) 1 0))) ∙ sym f.is)
    where
      aimed : (b : Bool) → cond b (on_last (λ old. target_of t i) f.args) f.args ≡ f.args
      aimed true = ap (λ x. on_last (λ old. x) f.args) (own_target i l ∙ ap (λ w. last_of (args_of w)) f.is) ∙ last_again f.args
      aimed false = refl

  slot_plain : (i : ℕ) → i < n → (get_or (s i) 0 0 ≡ 1 → ⊥) → slot_at t i ≡ written t i
  slot_plain i l k =
      let e = no_form i l k in
      slot_other t i (omega arith) (λ o. k (sym (kind_read i (s i) (written t i) (frame_is frames starts n h i l)) ∙ o))

  pub slot_as_read : (i : ℕ) → i < n → slot_at t i ≡ input_at frames starts i
  slot_as_read i l = on (frame_is frames starts n h i l)
    where
      on : Frame i (s i) (written t i) → slot_at t i ≡ written t i
      on (of_instr f) = slot_instruction i l f
      on (of_label f) = slot_plain i l (λ e. omega (arith, f.kind))
      on (of_variable f) = slot_plain i l (λ e. omega (arith, f.kind))
      on (of_comment f) = slot_plain i l (λ e. omega (arith, f.kind))
      on (of_org f) = slot_plain i l (λ e. omega (arith, f.kind))
      on (of_bytes f) = slot_plain i l (λ e. omega (arith, f.kind))
      on (of_words f) = slot_plain i l (λ e. omega (arith, f.kind))
      on (of_pad f) = slot_plain i l (λ e. omega (arith, f.kind))

  -- the slots hold the listing's statements
  pub program_as_read : program_of t ≡ input_of frames starts n
  unfolding program_of input_of
  program_as_read = tab_ext (slot_at t) (input_at frames starts) n slot_as_read

  pub sound_start : Sound t
  sound_start =
      record {
        held = h;
        forms = λ i l k. (let f = written_frame t h i l 0 k in let e = own_form i l f.kind in record { known = omega (arith, f.known); registers = rw e; transfer = rw e });
        carried = λ i l k x.
            (let f = written_frame t h i l 0 k in
            rw (mine i l)
            (record { inside = l; instruction = ap kind_of f.is; transfer = rw (own_form i l f.kind) at x }));
        owned = λ c l o. absurd (omega (arith, free c l));
      }
