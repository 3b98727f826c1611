-- What a shape comes to: none where a statement or a test of its pattern fails, and else what the fold leaves.
use mathlib.Core.Path.{◌≡◌, refl, sym, subst, ap, ◌∙◌}
use mathlib.Core.List.{[], ◌∷◌}
use mathlib.Core.Option.{Option, none, some}
use mathlib.Core.Bool.{Bool, true, false, ◌&&◌, cond}
use mathlib.Core.Logic.{⊎_elim}
use Prim.Native.Nat.{ℕ, suc, ◌≤◌, ◌<◌}
use native.Mathlib.Omega.{arith}
use lib.Dec.{eqb, leb}
use lib.ListN.{get_or, set}
use borrow.Author.Tests.{eqb-true, lt-leb}
use Rattle.std.specs.Prelude.{None, Some, Option as AnOption}
use Rattle.std.specs.Bool.{then_some}
use Rattle.laws.specs.Options.{is_some, given, bind}
use Rattle.laws.proofs.Options.{bind_no}
use Rattle.laws.proofs.Tests.{clash, none_some, false_true, or_true, lt_or_le}
use Rattle.instruction.proofs.Rows.{transfer_range}
use Rattle.rules.specs.declared.Place.{Place}
use Rattle.rules.specs.Forms.{form_at, is_transfer, is_unconditional, br, jmp, jmpf}
use Rattle.rules.specs.Names.{context_at}
use Rattle.rules.specs.Programs.{gone, Instruction, Program, at, as_label}
use Rattle.rules.specs.Rewriting.{next, branch, unconditional, local_label, names_bare, references, aimed, drop_all}
use Rattle.listing.specs.Tables.{Held}
use Rattle.slots.specs.Slots.{Slots, gone_form, program_of}
use Rattle.patterns.specs.Targets.{stands_at, form_in, instr_at, label_as}
use Rattle.patterns.specs.Shapes.{inverted_shape, trampoline_shape}
use Rattle.patterns.specs.Matches.{Moves, JumpFound, JumpAfter, LandingFound, LandingAfter, OpeningFound, OpeningIs}
use Rattle.patterns.proofs.Programs.{at_program, past_program}
use Rattle.patterns.proofs.Instructions.{slot_form, slot_self, branch_form, unconditional_form, branch_found, unconditional_found, transfer_slot}

-- ---- forms

-- a transfer is one of the seventy forms
pub transfer_known : (f : ℕ) → is_transfer f ≡ true → f < gone_form
transfer_known f e = ⊎_elim (λ l. l) (λ l. false_true (sym (past f l) ∙ e)) (lt_or_le f gone_form)
  where
    past : (f : ℕ) → gone_form ≤ f → is_transfer f ≡ false
    past f l = transfer_range f ∙ rw (lt-leb f 61 (omega arith)) (both_false (leb 42 f))
      where
        both_false : (b : Bool) → cond b false false ≡ false
        both_false true = refl
        both_false false = refl

-- "Unconditional means Br, Jmp or Jmpf", which are transfers
pub unconditional_transfer : (f : ℕ) → is_unconditional f ≡ true → is_transfer f ≡ true
unfolding is_transfer form_at
unconditional_transfer f e =
    ⊎_elim (λ h. rw (eqb-true f br h))
    (λ r. ⊎_elim (λ h. rw (eqb-true f jmp h)) (λ h. rw (eqb-true f jmpf h)) (or_true (eqb f jmp) (eqb f jmpf) r))
    (or_true (eqb f br) _ e)

-- ---- what stands in a slot

module _ (t : Slots) (h : Held t.frames t.starts t.count) where
  -- a place at which something stands is inside
  stands_inside : (i : ℕ) → (stands_at t i ≡ gone → ⊥) → i < t.count
  stands_inside i n = ⊎_elim (λ l. l) (λ l. absurd (n (past_program t i l))) (lt_or_le i t.count)

  pub branch_slot : (i : ℕ) → i < t.count → (f : ℕ) → is_transfer f ≡ true → is_some (branch f (stands_at t i)) ≡ true
      → Moves t i × (get_or t.forms i 0 ≡ f) × (branch f (stands_at t i) ≡ some (instr_at t i))
  branch_slot i l f m e =
      let q = at_program t i l in
      let is : form_in (stands_at t i) ≡ f = eqb-true (form_in (stands_at t i)) f (sym (branch_form f (transfer_known f m) (stands_at t i)) ∙ e) in
      let k = transfer_slot t h i l (ap is_transfer is ∙ m) in (
        record { inside = l; kind = k.0; transfer = k.1 },
        sym (ap form_in q ∙ slot_form t h i l k.0) ∙ is,
        branch_found f (stands_at t i) (instr_at t i) (q ∙ slot_self t h i l k.0) e,
      )

  pub jump_slot : (j : ℕ) → is_some (unconditional (stands_at t j)) ≡ true → Moves t j × (unconditional (stands_at t j) ≡ some (instr_at t j))
  jump_slot j e =
      let u : is_unconditional (form_in (stands_at t j)) ≡ true = sym (unconditional_form (stands_at t j)) ∙ e in
      let m = unconditional_transfer (form_in (stands_at t j)) u in
      let l = stands_inside j (λ g. false_true (ap (λ s. is_unconditional (form_in s)) (sym g) ∙ u)) in
      let k = transfer_slot t h j l m in
      (record { inside = l; kind = k.0; transfer = k.1 }, unconditional_found (stands_at t j) (instr_at t j) (at_program t j l ∙ slot_self t h j l k.0) e)

-- ---- the shapes

bind_nothing : {A B : Type 0} (o : Option A) (f : A → Option B) → ((a : A) → f a ≡ none) → bind o f ≡ none
unfolding bind
bind_nothing none f e = refl
bind_nothing (some a) f e = e a

-- a local label by the code's answer
pub named_label : (o : Option ℕ) (n : ℕ) → Some n ≡ label_as o → o ≡ some n
named_label none n e = clash (cc)
named_label (some m) n e = cc

pub no_label : (o : Option ℕ) → None ≡ label_as o → o ≡ none
no_label none e = refl
no_label (some m) e = clash (cc)

pub label_inside : (t : Slots) → Held t.frames t.starts t.count → (m n : ℕ) → local_label (stands_at t m) ≡ some n → m < t.count
unfolding local_label as_label bind
label_inside t h m n e = stands_inside t h m (λ g. none_some n (ap local_label (sym g) ∙ e))

-- ---- the code's answers, by the case that they are

-- what holds of a test's answer, whichever it is
pub told_by : {A : Type 0} (P : AnOption A → Type 0) {r : AnOption A} (b : Bool) (x : A) → r ≡ then_some b x → (b ≡ true → P (Some x))
    → (b ≡ false → P None) → P r
told_by P true x e f g = subst P (sym e) (f refl)
told_by P false x e f g = subst P (sym e) (g refl)

module _ (t : Slots) (i : ℕ) where
  pub jump_found : {r : AnOption Place} {j : Place} → r ≡ Some j → JumpAfter t i r → JumpFound t i j.0
  jump_found e h = subst (JumpAfter t i) e h

  pub jump_none : {r : AnOption Place} → r ≡ None → JumpAfter t i r → unconditional (stands_at t (next (program_of t) (suc i))) ≡ none
  jump_none e h = subst (JumpAfter t i) e h

  pub landing_found : {r : AnOption (Place × ℕ)} {m : Place} {n : ℕ} → r ≡ Some (m, n) → LandingAfter t i r → LandingFound t i m.0 n
  landing_found e h = subst (LandingAfter t i) e h

  pub landing_none : {r : AnOption (Place × ℕ)} → r ≡ None → LandingAfter t i r → local_label (stands_at t (next (program_of t) (suc i))) ≡ none
  landing_none e h = subst (LandingAfter t i) e h

  pub opening_found : (f : ℕ) {r : AnOption (Place × Place × ℕ)} {j m : Place} {n : ℕ} → r ≡ Some (j, m, n) → OpeningIs t f i r → OpeningFound t f i j.0 m.0 n
  opening_found f e h = subst (OpeningIs t f i) e h

  pub opening_none : (f : ℕ) {r : AnOption (Place × Place × ℕ)} → r ≡ None → OpeningIs t f i r → ((to : ℕ) → inverted_shape f to (program_of t) i ≡ none) × (trampoline_shape f (program_of t) i ≡ none)
  opening_none f e h = subst (OpeningIs t f i) e h

-- ---- inverted, for any form that takes the branch's place

module _ (from to : ℕ) (p : Program) (i : ℕ) where
  pub inverted_no_branch : branch from (at p i) ≡ none → inverted_shape from to p i ≡ none
  unfolding inverted_shape
  inverted_no_branch e = bind_no (branch from (at p i)) _ e

  pub inverted_no_jump : unconditional (at p (next p (suc i))) ≡ none → inverted_shape from to p i ≡ none
  unfolding inverted_shape
  inverted_no_jump e = bind_nothing (branch from (at p i)) _ (λ b. bind_no (unconditional (at p (next p (suc i)))) _ e)

  module _ (j : ℕ) (jumps : next p (suc i) ≡ j) where
    pub inverted_no_label : local_label (at p (next p (suc j))) ≡ none → inverted_shape from to p i ≡ none
    unfolding inverted_shape
    inverted_no_label e =
        rw jumps
        (bind_nothing (branch from (at p i)) _ (λ b.
        bind_nothing (unconditional (at p j)) _ (λ x. bind_no (local_label (at p (next p (suc j)))) _ e)))

    module _ (m : ℕ) (lands : next p (suc j) ≡ m) (b x : Instruction) (n : ℕ)
        (at_i : branch from (at p i) ≡ some b) (at_j : unconditional (at p j) ≡ some x) (at_m : local_label (at p m) ≡ some n) where
      pub inverted_is : inverted_shape from to p i ≡ given (names_bare n b) (some (record { last = m; folded = drop_all (j ∷ []) (set p i (aimed to b x)) }))
      unfolding inverted_shape bind
      inverted_is = rw (jumps, lands, at_i, at_j, at_m)

-- ---- trampolines

module _ (f : ℕ) (p : Program) (i : ℕ) where
  pub trampoline_no_branch : branch f (at p i) ≡ none → trampoline_shape f p i ≡ none
  unfolding trampoline_shape
  trampoline_no_branch e = bind_no (branch f (at p i)) _ e

  pub trampoline_no_skip : unconditional (at p (next p (suc i))) ≡ none → trampoline_shape f p i ≡ none
  unfolding trampoline_shape
  trampoline_no_skip e = bind_nothing (branch f (at p i)) _ (λ b. bind_no (unconditional (at p (next p (suc i)))) _ e)

  module _ (skip : ℕ) (skips : next p (suc i) ≡ skip) where
    pub trampoline_no_target : local_label (at p (next p (suc skip))) ≡ none → trampoline_shape f p i ≡ none
    unfolding trampoline_shape
    trampoline_no_target e =
        rw skips
        (bind_nothing (branch f (at p i)) _ (λ b.
        bind_nothing (unconditional (at p skip)) _ (λ x. bind_no (local_label (at p (next p (suc skip)))) _ e)))

    module _ (target : ℕ) (bounces : next p (suc skip) ≡ target) where
      pub trampoline_no_last : unconditional (at p (next p (suc target))) ≡ none → trampoline_shape f p i ≡ none
      unfolding trampoline_shape
      trampoline_no_last e =
          rw (skips, bounces)
          (bind_nothing (branch f (at p i)) _ (λ b.
          bind_nothing (unconditional (at p skip)) _ (λ x.
          bind_nothing (local_label (at p target)) _ (λ t. bind_no (unconditional (at p (next p (suc target)))) _ e))))

      module _ (last : ℕ) (jumps : next p (suc target) ≡ last) where
        pub trampoline_no_label : local_label (at p (next p (suc last))) ≡ none → trampoline_shape f p i ≡ none
        unfolding trampoline_shape
        trampoline_no_label e =
            rw (skips, bounces, jumps)
            (bind_nothing (branch f (at p i)) _ (λ b.
            bind_nothing (unconditional (at p skip)) _ (λ x.
            bind_nothing (local_label (at p target)) _ (λ t.
            bind_nothing (unconditional (at p last)) _ (λ y. bind_no (local_label (at p (next p (suc last)))) _ e)))))

        module _ (label : ℕ) (lands : next p (suc last) ≡ label) (b x y : Instruction) (t s : ℕ)
            (at_i : branch f (at p i) ≡ some b) (at_skip : unconditional (at p skip) ≡ some x) (at_Target : local_label (at p target) ≡ some t)
            (at_last : unconditional (at p last) ≡ some y) (at_label : local_label (at p label) ≡ some s) where
          pub trampoline_is : trampoline_shape f p i
              ≡ given (names_bare t b && (names_bare s x && eqb (references (context_at p target) t p) 1))
              (some (record { last = label; folded = drop_all (skip ∷ target ∷ last ∷ []) (set p i (aimed f b y)) }))
          unfolding trampoline_shape bind
          trampoline_is = rw (skips, bounces, jumps, lands, at_i, at_skip, at_Target, at_last, at_label)
