-- No context and no position depends on a target: a table of them that is right for slots is right for them whatever targets they carry.
use mathlib.Core.Path.{◌≡◌, refl, sym, ap, ◌∙◌}
use mathlib.Core.List.{List, [], ◌∷◌}
use mathlib.Core.Bool.{Bool, true, false, cond}
use Prim.Native.Nat.{ℕ, zero, suc, ◌<◌}
use native.Mathlib.Omega.{arith}
use lib.Dec.{leb}
use lib.ListN.{get_or, length}
use Rattle.rules.specs.Programs.{Placeℕ, Addressℕ, Operand, Stmt, gone, instr, label, variable, comment, org, bytes, words, pad, Instruction, on_instr, Program, at}
use Rattle.rules.specs.Layout.{after, position_from, position}
use Rattle.rules.specs.Names.{enter, context_from, context_at}
use Rattle.slots.specs.Slots.{Slots, slots, gone_form, written, reformed, slot_at, program_of, Positioned}
use Rattle.env.specs.Tables.{Any}
use Rattle.env.proofs.Programs.{length_program, at_program}
use Rattle.asm.specs.Assembling.{Placed}

-- what does not look at an instruction's target is the same of both
either : (F : Stmt → ℕ) (f g : Instruction → Stmt) → ((x : Instruction) → F (f x) ≡ F (g x)) → (b : Bool) (s : Stmt)
    → F (cond b gone (on_instr s f s)) ≡ F (cond b gone (on_instr s g s))
either F f g e true s = refl
either F f g e false gone = refl
either F f g e false (instr h xs c) = e _
either F f g e false (label n) = refl
either F f g e false (variable n d) = refl
either F f g e false (comment x) = refl
either F f g e false (org l) = refl
either F f g e false (bytes es) = refl
either F f g e false (words es) = refl
either F f g e false (pad add m) = refl

-- statements that enter the same contexts
pub context_same : (k : ℕ) (p q : Program) → length p ≡ length q → ((j : Placeℕ) (m : ℕ) → j < length p → enter m (at p j) ≡ enter m (at q j))
    → (i : Placeℕ) → context_from k p i ≡ context_from k q i
unfolding context_from
context_same k [] [] e h i = refl
context_same k [] (r ∷ q) e h i = absurd (omega arith)
context_same k (s ∷ p) [] e h i = absurd (omega arith)
context_same k (s ∷ p) (r ∷ q) e h zero = h 0 k (omega arith)
context_same k (s ∷ p) (r ∷ q) e h (suc i) =
    ap (λ m. context_from m p i) (h 0 k (omega arith))
    ∙ context_same (enter k r) p q (omega arith) (λ j m l. h (suc j) m (omega arith)) i

-- statements that end at the same positions
position_same : (q : Addressℕ) (p r : Program) → length p ≡ length r → ((j : Placeℕ) (m : Addressℕ) → j < length p → after m (at p j) ≡ after m (at r j))
    → (i : Placeℕ) → position_from q p i ≡ position_from q r i
unfolding position_from
position_same q [] [] e h i = refl
position_same q [] (x ∷ r) e h i = absurd (omega arith)
position_same q (s ∷ p) [] e h i = absurd (omega arith)
position_same q (s ∷ p) (x ∷ r) e h zero = refl
position_same q (s ∷ p) (x ∷ r) e h (suc i) =
    ap (λ m. position_from m p i) (h 0 q (omega arith))
    ∙ position_same (after q x) p r (omega arith) (λ j m l. h (suc j) m (omega arith)) i

module _ (frames starts : List ℕ) (count : ℕ) (forms carry owners offsets : List ℕ) where
  abbrev one : Slots
  one = slots frames starts count forms carry owners offsets

  module _ (carry' owners' offsets' : List ℕ) where
    abbrev other : Slots
    other = slots frames starts count forms carry' owners' offsets'

    same_length : length (program_of one) ≡ length (program_of other)
    same_length = length_program one ∙ sym (length_program other)

    same_slots : (F : Stmt → ℕ) → ((f : ℕ) (xs ys : List Operand) (c d : Placeℕ) → F (instr f xs c) ≡ F (instr f ys d))
        → (j : Placeℕ) → j < length (program_of one) → F (at (program_of one) j) ≡ F (at (program_of other) j)
    unfolding slot_at
    same_slots F e j l =
        let k : j < count = omega (arith, length_program one) in
        ap F (at_program one j k)
        ∙ either F (reformed one j) (reformed other j) (λ x. e _ _ _ _ _) (leb gone_form (get_or forms j 0)) (written one j)
        ∙ sym (ap F (at_program other j k))

    same_context : (i : Placeℕ) → context_at (program_of one) i ≡ context_at (program_of other) i
    unfolding context_at
    same_context i =
        context_same 0 (program_of one) (program_of other) same_length (λ j m l. same_slots (enter m) (λ f xs ys c d. refl) j l) i

    same_position : (i : Placeℕ) → position (program_of one) i ≡ position (program_of other) i
    unfolding position
    same_position i =
        position_same 0 (program_of one) (program_of other) same_length (λ j m l. same_slots (after m) (λ f xs ys c d. refl) j l) i

  pub placed_any : (contexts : List ℕ) → Placed one contexts → Any frames starts count forms (λ t. Placed t contexts)
  placed_any contexts h carry' owners' offsets' = record { context = λ i l. h.context i l ∙ same_context carry' owners' offsets' i }

  pub positioned_any : (positions : List ℕ) → Positioned one positions → Any frames starts count forms (λ t. Positioned t positions)
  positioned_any positions h carry' owners' offsets' i l = h i l ∙ same_position carry' owners' offsets' i
