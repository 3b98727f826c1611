-- What makes a jump a change jump, by the tables: the nearest statement that is not skipped, its form, its operands' worth, and where it ends.
use mathlib.Core.Path.{◌≡◌, refl, sym, ap, ap₂, ◌∙◌}
use mathlib.Core.List.{List, [], ◌∷◌}
use mathlib.Core.Option.{Option, none, some}
use mathlib.Core.Bool.{Bool, true, false, ◌&&◌, cond}
use Prim.Native.Nat.{ℕ, zero, suc, ◌-◌, ◌^◌, ◌≤◌, ◌<◌}
use native.Mathlib.Omega.{arith}
use lib.Dec.{eqb}
use lib.IntN.{ℤ, pos, negsuc}
use lib.ListN.{length, get_or}
use mir.Syntax.{w32}
use mir.Val.{SFits, of_z}
use borrow.Author.Tests.{eq-eqb, ne_eqb}
use Rattle.rules.specs.declared.Unvalued.{Unvalued}
use Rattle.std.specs.Prelude.{Result, None, Ok, Some}
use Rattle.laws.proofs.Tests.{clash, none_some, first_false}
use Rattle.rules.specs.declared.Place.{Place}
use Rattle.rules.specs.Values.{is_number}
use Rattle.rules.specs.Forms.{form_at, operands_at, jmpf, not1}
use Rattle.rules.specs.Programs.{Operand, register, Stmt, gone, instr, label, variable, comment, org, bytes, words, pad, Program, at, is_form, args_of, kind_of}
use Rattle.rules.specs.Layout.{after, position}
use Rattle.rules.specs.Names.{Entry, context_at}
use Rattle.rules.specs.Judging.{worth_of}
use Rattle.rules.specs.Rewriting.{skipped, nearest, valued_10d_and_0, changes_at, is_change_jump}
use Rattle.slots.specs.Slots.{gone_form, slot_at, worth_in}
use Rattle.image.specs.Tables.{Tables, program, operand_at, Ready}
use Rattle.image.proofs.Operands.{count_args}
use Rattle.image.proofs.Placed.{position_after}
use Rattle.image.proofs.Worths.{count_program, at_program, worth_at_lem}
use Rattle.patterns.specs.Targets.{stands_at, form_in}
use Rattle.patterns.proofs.Instructions.{form_kind, slot_form}
use Rattle.anchors.specs.Changes.{nearest_as}

-- ---- what is skipped

module _ (p : Program) where
  nearest_from : (j : ℕ) (b : Bool) → skipped (at p j) ≡ b → nearest p (suc j) ≡ cond b (nearest p j) (some j)
  unfolding nearest
  nearest_from j b e = rw e

  -- from a place above, down to the one below it
  pub nearest_here : (j : ℕ) → 0 < j → skipped (at p (j - 1)) ≡ false → nearest p j ≡ some (j - 1)
  nearest_here j h e = let q : j ≡ suc (j - 1) = omega arith in ap (nearest p) q ∙ nearest_from (j - 1) false e

  pub nearest_below : (j : ℕ) → 0 < j → skipped (at p (j - 1)) ≡ true → nearest p j ≡ nearest p (j - 1)
  nearest_below j h e = let q : j ≡ suc (j - 1) = omega arith in ap (nearest p) q ∙ nearest_from (j - 1) true e

  pub nearest_end : (j : ℕ) → j ≤ 0 → nearest p j ≡ none
  unfolding nearest
  nearest_end j h = let q : j ≡ 0 = omega arith in ap (nearest p) q

  -- it stands below
  pub nearest_inside : (i j : ℕ) → nearest p i ≡ some j → j < i
  unfolding nearest
  nearest_inside zero j e = none_some j e
  nearest_inside (suc i) j e = on (skipped (at p i)) e (nearest_inside i j)
    where
      on : (b : Bool) → cond b (nearest p i) (some i) ≡ some j → (nearest p i ≡ some j → j < i) → j < suc i
      on true q below = omega (arith, below q)
      on false q below = let k : i ≡ j = cc in omega arith

-- ---- values and forms

-- a value compared by its bits
pub number_bits : (z : ℤ) (n : ℕ) → SFits w32 z → n < 65536 → eqb (of_z w32 z) n ≡ is_number n (Ok z)
number_bits (pos a) n f l = refl
number_bits (negsuc a) n f l = ne_eqb (2 ^ 32 - suc a) n (λ e. omega (arith, f.sfits))

pub is_form_lem : (f : ℕ) → f < gone_form → (s : Stmt) → is_form f s ≡ eqb (form_in s) f
is_form_lem f l gone = sym (ne_eqb gone_form f (λ e. omega arith))
is_form_lem f l (instr g xs c) = refl
is_form_lem f l (label m) = sym (ne_eqb gone_form f (λ e. omega arith))
is_form_lem f l (variable m d) = sym (ne_eqb gone_form f (λ e. omega arith))
is_form_lem f l (comment x) = sym (ne_eqb gone_form f (λ e. omega arith))
is_form_lem f l (org m) = sym (ne_eqb gone_form f (λ e. omega arith))
is_form_lem f l (bytes es) = sym (ne_eqb gone_form f (λ e. omega arith))
is_form_lem f l (words es) = sym (ne_eqb gone_form f (λ e. omega arith))
is_form_lem f l (pad add m) = sym (ne_eqb gone_form f (λ e. omega arith))

pub form_yes : (f : ℕ) → f < gone_form → (s : Stmt) → form_in s ≡ f → is_form f s ≡ true
form_yes f l s e = is_form_lem f l s ∙ eq-eqb (form_in s) f e

pub form_no : (f : ℕ) → f < gone_form → (s : Stmt) → (form_in s ≡ f → ⊥) → is_form f s ≡ false
form_no f l s n = is_form_lem f l s ∙ ne_eqb (form_in s) f n

valued_two : (w : Operand → Result ℤ Unvalued) (xs : List Operand) → length xs ≡ 2
    → valued_10d_and_0 w xs ≡ is_number 0x10D (w (get_or xs 0 (register 0))) && is_number 0 (w (get_or xs 1 (register 0)))
valued_two w [] e = absurd (omega arith)
valued_two w (x ∷ []) e = absurd (omega arith)
valued_two w (x ∷ y ∷ []) e = refl
valued_two w (x ∷ y ∷ z ∷ zs) e = absurd (omega arith)

two_operands : length (operands_at not1) ≡ 2
unfolding form_at
two_operands = refl

-- ---- the Not1 at j: what its operands are worth, by the tables

module _ (d : Tables) (h : Ready d) (j : ℕ) (m : j < d.slots.count) (e : form_in (stands_at d.slots j) ≡ not1) where
  abbrev pub worth_at : (n : ℕ) → Result ℤ Unvalued
  worth_at n = worth_in d.entries d.positions (get_or d.contexts j 0) (operand_at d.slots j n)

  pub not1_kind : kind_of (slot_at d.slots j) ≡ 1
  not1_kind = ap kind_of (sym (at_program d.slots j m)) ∙ form_kind (at (program d) j) (λ g. omega arith)

  not1_form : get_or d.slots.forms j 0 ≡ not1
  not1_form = sym (slot_form d.slots h.sound.held j m not1_kind) ∙ ap form_in (sym (at_program d.slots j m)) ∙ e

  pub not1_operands : length (operands_at (get_or d.slots.forms j 0)) ≡ 2
  not1_operands = ap (λ f. length (operands_at f)) not1_form ∙ two_operands

  not1_args : length (args_of (slot_at d.slots j)) ≡ 2
  not1_args = count_args d.slots h.sound.held j m not1_kind (h.sound.forms j m not1_kind) ∙ not1_operands

  worth_is : (n : ℕ) → n < 2 → worth_of d.entries (program d) (context_at (program d) j) (operand_at d.slots j n) ≡ worth_at n
  worth_is n l = sym (worth_at_lem d h j m not1_kind n (omega (arith, not1_operands)))

  pub valued_is : valued_10d_and_0 (worth_of d.entries (program d) (context_at (program d) j)) (args_of (at (program d) j)) ≡ is_number 0x10D (worth_at 0) && is_number 0 (worth_at 1)
  valued_is =
      ap (λ s. valued_10d_and_0 (worth_of d.entries (program d) (context_at (program d) j)) (args_of s)) (at_program d.slots j m)
      ∙ valued_two (worth_of d.entries (program d) (context_at (program d) j)) (args_of (slot_at d.slots j)) not1_args
      ∙ ap₂ (λ (a b : Result ℤ Unvalued). is_number 0x10D a && is_number 0 b) (worth_is 0 (omega arith)) (worth_is 1 (omega arith))

-- ---- the statement at j, and a jump at i

module _ (d : Tables) (h : Ready d) (i j : ℕ) (k : i < d.slots.count) (m : j < d.slots.count) where
  pub changes_not : (form_in (stands_at d.slots j) ≡ not1 → ⊥) → changes_at d.entries (program d) i (some j) ≡ false
  changes_not n = first_false (is_form not1 (at (program d) j)) _ (form_no not1 (omega arith) (at (program d) j) n)

  ends_is : eqb (after (position (program d) j) (at (program d) j)) (position (program d) i) ≡ eqb (get_or d.positions (suc j) 0) (get_or d.positions i 0)
  ends_is =
      ap₂ (λ (a b : ℕ). eqb a b)
      (sym (position_after (program d) j (omega (arith, count_program d.slots))) ∙ sym (h.position (suc j) (omega arith)))
      (sym (h.position i (omega arith)))

  pub changes_is : form_in (stands_at d.slots j) ≡ not1
      → changes_at d.entries (program d) i (some j)
      ≡ valued_10d_and_0 (worth_of d.entries (program d) (context_at (program d) j)) (args_of (at (program d) j)) && eqb (get_or d.positions (suc j) 0) (get_or d.positions i 0)
  changes_is e =
      let valued = valued_10d_and_0 (worth_of d.entries (program d) (context_at (program d) j)) (args_of (at (program d) j)) in
      ap (λ b. b && (valued && eqb (after (position (program d) j) (at (program d) j)) (position (program d) i)))
      (form_yes not1 (omega arith) (at (program d) j) e)
      ∙ ap (λ b. valued && b) ends_is

-- ---- a change jump, by its form and the statement that decides

module _ (names : List Entry) (p : Program) (i : ℕ) where
  pub jump_not : (form_in (at p i) ≡ jmpf → ⊥) → is_change_jump names p i ≡ false
  unfolding is_change_jump
  jump_not n = first_false (is_form jmpf (at p i)) _ (form_no jmpf (omega arith) (at p i) n)

  pub jump_is : form_in (at p i) ≡ jmpf → is_change_jump names p i ≡ changes_at names p i (nearest p i)
  unfolding is_change_jump
  jump_is e = ap (λ b. b && changes_at names p i (nearest p i)) (form_yes jmpf (omega arith) (at p i) e)

-- as the code answers
pub found_at : (o : Option ℕ) (j : Place) → nearest_as o ≡ Some j → o ≡ some j.0
found_at none j e = clash (cc)
found_at (some k) j e = cc

pub found_none : (o : Option ℕ) → nearest_as o ≡ None → o ≡ none
found_none none e = refl
found_none (some k) e = clash (cc)
