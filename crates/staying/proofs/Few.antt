-- At most two attempts a statement: a branch begins one pattern of each kind at most, a Jmpf has two shorter forms, a Callf one.
use mathlib.Core.Path.{◌≡◌, refl, sym, ap, ◌∙◌, subst}
use mathlib.Core.List.{List, [], ◌∷◌, ◌++◌}
use mathlib.Core.Logic.{◌⊎◌, inl, inr}
use mathlib.Core.Option.{Option, none, some}
use mathlib.Core.Bool.{Bool, true, false}
use Prim.Native.Nat.{ℕ, zero, suc, ◌+◌, ◌*◌, ◌/◌, ◌%◌, ◌≤◌, ◌<◌}
use native.Mathlib.Omega.{arith}
use lib.Dec.{leb, eqb}
use lib.ListN.{length, length-append}
use borrow.Author.Tests.{eqb-true, leb-true}
use Rattle.laws.specs.Options.{given, bind}
use Rattle.laws.specs.Lists.{every, each}
use Rattle.laws.specs.Counts.{tab}
use Rattle.laws.proofs.Options.{given_false, bind_no}
use Rattle.laws.proofs.Lists.{every_at, each_append, each_one}
use Rattle.laws.proofs.Counts.{length_tab, get_or_tab, tab_suc}
use Rattle.rules.specs.declared.Settings.{Settings}
use Rattle.rules.specs.Programs.{Placeℕ, Stmt, Program, at, Instruction, as_instr}
use Rattle.rules.specs.Names.{Entry}
use Rattle.rules.specs.Judging.{names_of}
use Rattle.rules.specs.Rewriting.{branch, Pattern, inverted, trampoline}
use Rattle.patterns.specs.Shapes.{inverted_shape, trampoline_shape, shape_at}
use Rattle.staying.specs.declared.Reason.{Reason}
use Rattle.staying.specs.Reasons.{shrink_reason, Attempt, fold, shrink, attempt_at, is_asked, longer, pattern, reason_at, attempted_at, Why, why_of, whys_in, whys}

-- ---- the form that an attempt asks for
pattern_form : Pattern → ℕ
pattern_form (inverted from to) = from
pattern_form (trampoline f) = f

asks_for : Attempt → ℕ
asks_for (fold k) = pattern_form (pattern k)
asks_for (shrink f) = longer f

abbrev wanted : (k : ℕ) → ℕ
wanted k = asks_for (attempt_at k)

-- the form at a place; none has 70
form_in : Option Instruction → ℕ
form_in none = 70
form_in (some x) = x.form

abbrev form_at : Program → (i : Placeℕ) → ℕ
form_at p i = form_in (as_instr (at p i))

-- ---- where another form stands, it is not tried
no_branch : (f : ℕ) (s : Stmt) → eqb (form_in (as_instr s)) f ≡ false → branch f s ≡ none
unfolding branch form_in bind
no_branch f s e = on (as_instr s) e
  where
    on : (o : Option Instruction) → eqb (form_in o) f ≡ false → bind o (λ x. given (eqb x.form f) (some x)) ≡ none
    on none h = refl
    on (some x) h = given_false (eqb x.form f) (some x) h

no_shape : (p : Program) (x : Pattern) (i : Placeℕ) → eqb (form_at p i) (pattern_form x) ≡ false → shape_at p x i ≡ none
unfolding inverted_shape trampoline_shape pattern_form
no_shape p (inverted from to) i e = bind_no (branch from (at p i)) _ (no_branch from (at p i) e)
no_shape p (trampoline f) i e = bind_no (branch f (at p i)) _ (no_branch f (at p i) e)

not_tried : (names : List Entry) (p : Program) (a : Attempt) (i : Placeℕ) → eqb (form_at p i) (asks_for a) ≡ false → reason_at names p a i ≡ none
unfolding asks_for form_in bind
not_tried names p (fold k) i e = bind_no (shape_at p (pattern k) i) _ (no_shape p (pattern k) i e)
not_tried names p (shrink f) i e = on (as_instr (at p i)) e
  where
    on : (o : Option Instruction) → eqb (form_in o) (longer f) ≡ false → bind o (λ x. given (eqb x.form (longer f)) (some (shrink_reason names p i f x))) ≡ none
    on none h = refl
    on (some x) h = given_false (eqb x.form (longer f)) (some (shrink_reason names p i f x)) h

-- ---- how many attempts below k ask for form f
bit : Bool → ℕ
bit true = 1
bit false = 0

askers : (f k : ℕ) → ℕ
askers f zero = 0
askers f (suc k) = askers f k + bit (eqb f (wanted k))

-- none, or one of them names the form
some_asker : (f k : ℕ) → (askers f k ≡ 0) ⊎ ((j : ℕ) × (j < k) × (f ≡ wanted j))
unfolding askers bit
some_asker f zero = inl refl
some_asker f (suc k) = on (eqb f (wanted k)) refl (some_asker f k)
  where
    on : (b : Bool) → eqb f (wanted k) ≡ b → (askers f k ≡ 0) ⊎ ((j : ℕ) × (j < k) × (f ≡ wanted j)) → (askers f k + bit b ≡ 0) ⊎ ((j : ℕ) × (j < suc k) × (f ≡ wanted j))
    on true e h = inr (k, omega arith, eqb-true f (wanted k) e)
    on false e (inl z) = inl (omega arith)
    on false e (inr h) = inr (h.0, omega (arith, h.1), h.2)

-- of the forms that are asked for none is by more than two
two_each : every (λ j. leb (askers (wanted j) 26) 2) (tab (λ j. j) 26) ≡ true
unfolding every tab askers bit asks_for pattern_form attempt_at
two_each = refl

two_askers : (f : ℕ) → askers f 26 ≤ 2
two_askers f = on (some_asker f 26)
  where
    on : (askers f 26 ≡ 0) ⊎ ((j : ℕ) × (j < 26) × (f ≡ wanted j)) → askers f 26 ≤ 2
    on (inl z) = omega arith
    on (inr h) =
        let fits : leb (askers (wanted h.0) 26) 2 ≡ true = sym (ap (λ (j : ℕ). leb (askers (wanted j) 26) 2) (get_or_tab (λ j. j) 26 h.0 0 h.1)) ∙ every_at (λ j. leb (askers (wanted j) 26) 2) (tab (λ j. j) 26) h.0 0 (omega (arith, h.1, length_tab (λ (j : ℕ). j) 26)) two_each in
        subst (λ (g : ℕ). askers g 26 ≤ 2) (sym h.2) (leb-true (askers (wanted h.0) 26) 2 fits)

-- ---- the reasons before try m
module _ (asked : Settings) (p : Program) where
  before : (m : ℕ) → List Why
  before m = each (whys_in asked p) (tab (λ i. i) m)

  one_more : (m : ℕ) → length (before (m + 1)) ≡ length (before m) + length (whys_in asked p m)
  unfolding before
  one_more m =
      ap length (ap (each (whys_in asked p)) (tab_suc (λ i. i) m) ∙ each_append (whys_in asked p) (tab (λ i. i) m) (m ∷ []) ∙ ap (λ (x : List Why). before m ++ x) (each_one (whys_in asked p) m))
      ∙ length-append (before m) (whys_in asked p m)

  one_at : (i k : ℕ) → length (why_of (attempt_at k) i (attempted_at asked (names_of p) p (attempt_at k) i)) ≤ bit (eqb (form_at p i) (wanted k))
  unfolding bit attempted_at given
  one_at i k = on (eqb (form_at p i) (wanted k)) refl
    where
      most : (o : Option Reason) → length (why_of (attempt_at k) i o) ≤ 1
      most none = omega arith
      most (some r) = omega arith

      off : (b : Bool) (o : Option Reason) → o ≡ none → length (why_of (attempt_at k) i (given b o)) ≤ 0
      off true o e = rw e (omega arith)
      off false o e = omega arith

      on : (b : Bool) → eqb (form_at p i) (wanted k) ≡ b → length (why_of (attempt_at k) i (attempted_at asked (names_of p) p (attempt_at k) i)) ≤ bit b
      on true e = most (attempted_at asked (names_of p) p (attempt_at k) i)
      on false e = off (is_asked asked (attempt_at k)) (reason_at (names_of p) p (attempt_at k) i) (not_tried (names_of p) p (attempt_at k) i e)

  one_try : (i k : ℕ) → k < 26 → length (whys_in asked p (26 * i + k)) ≤ bit (eqb (form_at p i) (wanted k))
  unfolding whys_in
  one_try i k l =
      let m = 26 * i + k in
      let place : m / 26 ≡ i = omega arith in
      let number : m % 26 ≡ k = omega arith in
      rw (place, number) (one_at i k)

  -- up to attempt k at place i
  up_to : (i k : ℕ) → k ≤ 26 → length (before (26 * i)) ≤ 2 * i → length (before (26 * i + k)) ≤ 2 * i + askers (form_at p i) k
  unfolding askers
  up_to i zero l h = let z : 26 * i + 0 ≡ 26 * i = omega arith in rw z (omega arith)
  up_to i (suc k) l h =
      let next : 26 * i + suc k ≡ 26 * i + k + 1 = omega arith in
      rw next (omega (arith, one_more (26 * i + k), one_try i k (omega arith), up_to i k (omega arith) h))

  up_to_place : (i : ℕ) → length (before (26 * i)) ≤ 2 * i
  unfolding before tab each
  up_to_place zero = omega arith
  up_to_place (suc i) =
      let next : 26 * suc i ≡ 26 * i + 26 = omega arith in
      rw next (omega (arith, up_to i 26 (omega arith) (up_to_place i), two_askers (form_at p i)))

-- few: two lines a statement at most
pub few : (asked : Settings) (p : Program) → length (whys asked p) ≤ 2 * length p
unfolding whys before
few asked p = up_to_place asked p (length p)
