-- Rule 4 over the slots: which shorter forms are tried at a place, and that each may stand there.
use mathlib.Core.Path.{◌≡◌, refl, sym, ap, ◌∙◌, subst}
use mathlib.Core.List.{List, [], ◌∷◌}
use mathlib.Core.Logic.{⊎_elim}
use mathlib.Core.Option.{Option, none, some}
use mathlib.Core.Bool.{true, false}
use Prim.Native.Nat.{ℕ, ◌<◌}
use native.Mathlib.Omega.{arith}
use lib.Dec.{eqb}
use lib.ListN.{get_or, set, length}
use borrow.Author.Tests.{ne_eqb, eqb-true}
use Rattle.laws.specs.Lists.{is_one_of}
use Rattle.laws.proofs.Tests.{or_true, false_true}
use Rattle.laws.specs.Options.{or_else, given, first_of, bind}
use Rattle.rules.specs.Forms.{form_at, is_transfer, operands_at, jmp, jmpf, br, call, callf}
use Rattle.rules.specs.Programs.{Placeℕ, Stmt, gone, instr, label, variable, comment, org, bytes, words, pad, on_instr, as_instr, args_of, Program, kind_of}
use Rattle.rules.specs.declared.Settings.{Settings}
use Rattle.rules.specs.Names.{Entry}
use Rattle.rules.specs.Rewriting.{is_change_jump, no_interior_label_at, candidate, shorter, shrink_at}
use Rattle.slots.specs.Slots.{Slots, written, reformed, slot_at, program_of, Agree}
use Rattle.slots.proofs.Slots.{slot_kept, not_gone}
use Rattle.env.proofs.Programs.{at_program}
use Rattle.attempts.specs.Shrinks.{shrunk}

-- ---- each shorter form fits in the place of the long one

br_fits : Agree br jmpf
unfolding is_transfer form_at
br_fits = record { known = omega arith; registers = refl; transfer = refl }

jmp_fits : Agree jmp jmpf
unfolding is_transfer form_at
jmp_fits = record { known = omega arith; registers = refl; transfer = refl }

call_fits : Agree call callf
unfolding is_transfer form_at
call_fits = record { known = omega arith; registers = refl; transfer = refl }

-- each is a transfer whose only operand is its target
abbrev pub Alone : ℕ → Type 0
Alone f = (is_transfer f ≡ true) × (length (operands_at f) ≡ 1)

pub br_alone : Alone br
unfolding is_transfer form_at
br_alone = (refl, refl)

pub jmp_alone : Alone jmp
unfolding is_transfer form_at
jmp_alone = (refl, refl)

pub call_alone : Alone call
unfolding is_transfer form_at
call_alone = (refl, refl)

-- "tries Br, then Jmp": either may stand there, so that their order is told by the answer alone
pub jump_for : (g f : ℕ) → is_one_of (br ∷ jmp ∷ []) g ≡ true → f ≡ jmpf → Agree g f
jump_for g f t e = subst (λ (h : ℕ). Agree g h) (sym e) (⊎_elim first second (or_true (eqb br g) (is_one_of (jmp ∷ []) g) t))
  where
    first : eqb br g ≡ true → Agree g jmpf
    first h = subst (λ (x : ℕ). Agree x jmpf) (eqb-true br g h) br_fits

    second : is_one_of (jmp ∷ []) g ≡ true → Agree g jmpf
    second h = ⊎_elim (λ k. subst (λ (x : ℕ). Agree x jmpf) (eqb-true jmp g k) jmp_fits) (λ k. false_true k) (or_true (eqb jmp g) false h)

pub call_for : (f : ℕ) → f ≡ callf → Agree call f
call_for f e = subst (λ (g : ℕ). Agree call g) (sym e) call_fits

-- ---- an instruction in a slot, by the tables

instr_shape : (t : Slots) (i : Placeℕ) (s : Stmt) → kind_of (on_instr s (reformed t i) s) ≡ 1
    → on_instr s (reformed t i) s ≡ instr (get_or t.forms i 0) (args_of (on_instr s (reformed t i) s)) (get_or t.carry i 0)
instr_shape t i gone e = absurd (omega arith)
instr_shape t i (instr g xs c) e = refl
instr_shape t i (label m) e = absurd (omega arith)
instr_shape t i (variable m d) e = absurd (omega arith)
instr_shape t i (comment x) e = absurd (omega arith)
instr_shape t i (org l) e = absurd (omega arith)
instr_shape t i (bytes es) e = absurd (omega arith)
instr_shape t i (words es) e = absurd (omega arith)
instr_shape t i (pad add m) e = absurd (omega arith)

slot_is : (t : Slots) (i : Placeℕ) → kind_of (slot_at t i) ≡ 1 → slot_at t i ≡ instr (get_or t.forms i 0) (args_of (slot_at t i)) (get_or t.carry i 0)
slot_is t i e =
    let k = slot_kept t i (not_gone t i 0 e) in
    k ∙ instr_shape t i (written t i) (ap kind_of (sym k) ∙ e) ∙ ap (λ (s : Stmt). instr (get_or t.forms i 0) (args_of s) (get_or t.carry i 0)) (sym k)

not_instr : (s : Stmt) → (kind_of s ≡ 1 → ⊥) → as_instr s ≡ none
unfolding as_instr
not_instr gone n = refl
not_instr (instr f xs c) n = absurd (n refl)
not_instr (label m) n = refl
not_instr (variable m e) n = refl
not_instr (comment x) n = refl
not_instr (org l) n = refl
not_instr (bytes es) n = refl
not_instr (words es) n = refl
not_instr (pad add m) n = refl

or_none : {A : Type 0} (x : Option A) → or_else x none ≡ x
unfolding or_else
or_none none = refl
or_none (some a) = refl

-- ---- what rule 4 tries at a place

module _ (asked : Settings) (names : List Entry) (t : Slots) (i : Placeℕ) (l : i < t.count) where
  abbrev tries : Stmt → Option Program
  tries s =
      bind (as_instr s) (λ x.
      first_of (λ f. given (no_interior_label_at (program_of t) i) (candidate (set (program_of t) i (instr f x.args x.carried)))) (shorter asked names (program_of t) i x.form))

  shrink_stmt : shrink_at asked names (program_of t) i ≡ tries (slot_at t i)
  unfolding shrink_at
  shrink_stmt = ap tries (at_program t i l)

  pub shrink_other : (kind_of (slot_at t i) ≡ 1 → ⊥) → shrink_at asked names (program_of t) i ≡ none
  unfolding bind
  shrink_other n = shrink_stmt ∙ rw (not_instr (slot_at t i) n)

  module _ (k : kind_of (slot_at t i) ≡ 1) where
    shrink_forms : shrink_at asked names (program_of t) i ≡ first_of (shrunk t i) (shorter asked names (program_of t) i (get_or t.forms i 0))
    unfolding bind as_instr shrunk
    shrink_forms = shrink_stmt ∙ ap tries (slot_is t i k)

    pub shrink_none : (get_or t.forms i 0 ≡ jmpf → ⊥) → (get_or t.forms i 0 ≡ callf → ⊥) → shrink_at asked names (program_of t) i ≡ none
    unfolding shorter first_of
    shrink_none n m = shrink_forms ∙ rw (ne_eqb (get_or t.forms i 0) jmpf n, ne_eqb (get_or t.forms i 0) callf m)

    -- Callf, if it is to shrink
    pub shrink_call : get_or t.forms i 0 ≡ callf → asked.callf ≡ true → shrunk t i call ≡ shrink_at asked names (program_of t) i
    unfolding shorter first_of
    shrink_call e h = sym (shrink_forms ∙ rw (e, h) (or_none (shrunk t i call)))

    pub shrink_uncalled : get_or t.forms i 0 ≡ callf → asked.callf ≡ false → shrink_at asked names (program_of t) i ≡ none
    unfolding shorter first_of
    shrink_uncalled e h = shrink_forms ∙ rw (e, h)

    pub shrink_change : get_or t.forms i 0 ≡ jmpf → is_change_jump names (program_of t) i ≡ true → shrink_at asked names (program_of t) i ≡ none
    unfolding shorter first_of
    shrink_change e h = shrink_forms ∙ rw (e, h)

    pub shrink_plain : get_or t.forms i 0 ≡ jmpf → is_change_jump names (program_of t) i ≡ false
        → or_else (shrunk t i br) (shrunk t i jmp) ≡ shrink_at asked names (program_of t) i
    unfolding shorter first_of
    shrink_plain e h = sym (shrink_forms ∙ rw (e, h) (ap (or_else (shrunk t i br)) (or_none (shrunk t i jmp))))
