-- The forms by mark: what is computed of all of them, by one test each. Assumes nothing.
use mathlib.Core.Path.{◌≡◌, refl, sym, ap, ◌∙◌, subst}
use mathlib.Core.List.{List, [], ◌∷◌}
use mathlib.Core.Option.{none}
use mathlib.Core.Bool.{Bool, true, false, ◌&&◌, not, cond}
use Prim.Native.Nat.{ℕ, zero, suc, ◌+◌, ◌-◌, ◌*◌, ◌/◌, ◌%◌, ◌≤◌, ◌<◌, min}
use native.Mathlib.Omega.{arith}
use lib.Dec.{T, eqb, ltb, leb}
use lib.ListN.{length, get_or}
use borrow.Author.Tests.{eqb-true, ltb-true, lt-ltb, le-ltb, eq-eqb, ne_eqb, leb-true}
use Rattle.laws.specs.Counts.{all_to}
use Rattle.laws.specs.Lists.{same}
use Rattle.laws.proofs.Tests.{and_true, true_false, false_true}
use Rattle.instruction.proofs.Entries.{holds_at, agree_at}
use Rattle.rules.specs.declared.Kind.{Kind}
use Rattle.rules.specs.declared.Kind.TheVariants.{Reg, I8, D9, Bit, Rel8, A12, A16, Rel16}
use Rattle.rules.specs.Forms.{form_at, operands_at}
use Rattle.rules.specs.Programs.{Operand, instr}
use Rattle.text.specs.Text.{mnemonic}
use Rattle.plans.specs.Plans.{Plan, done, fork}
use Rattle.plans.specs.Words.{some?}
use Rattle.plans.specs.Families.{mark_of, Way, way, narrow, behind, go_on, family, family_of}
use Rattle.marks.specs.Narrowing.{mark_by, agree, lowest, chosen}

-- ---- ways compared

abbrev number_of_kind : Kind → ℕ
number_of_kind Reg = 0
number_of_kind I8 = 1
number_of_kind D9 = 2
number_of_kind Bit = 3
number_of_kind Rel8 = 4
number_of_kind A12 = 5
number_of_kind A16 = 6
number_of_kind Rel16 = 7

abbrev kind_of_number : ℕ → Kind
kind_of_number n =
    cond (eqb n 0) Reg
    (cond (eqb n 1) I8
    (cond (eqb n 2) D9
    (cond (eqb n 3) Bit
    (cond (eqb n 4) Rel8
    (cond (eqb n 5) A12
    (cond (eqb n 6) A16
    Rel16))))))

kind_back : (k : Kind) → kind_of_number (number_of_kind k) ≡ k
kind_back Reg = refl
kind_back I8 = refl
kind_back D9 = refl
kind_back Bit = refl
kind_back Rel8 = refl
kind_back A12 = refl
kind_back A16 = refl
kind_back Rel16 = refl

abbrev same_kinds : List Kind → List Kind → Bool
same_kinds [] [] = true
same_kinds [] (l ∷ ls) = false
same_kinds (k ∷ ks) [] = false
same_kinds (k ∷ ks) (l ∷ ls) = eqb (number_of_kind k) (number_of_kind l) && same_kinds ks ls

kinds_true : (ks ls : List Kind) → same_kinds ks ls ≡ true → ks ≡ ls
kinds_true [] [] e = refl
kinds_true [] (l ∷ ls) e = false_true e
kinds_true (k ∷ ks) [] e = false_true e
kinds_true (k ∷ ks) (l ∷ ls) e =
    let p = and_true (eqb (number_of_kind k) (number_of_kind l)) (same_kinds ks ls) e in
    let q : k ≡ l = sym (kind_back k) ∙ ap kind_of_number (eqb-true (number_of_kind k) (number_of_kind l) p.0) ∙ kind_back l in
    ap (λ x. x ∷ ks) q ∙ ap (λ x. l ∷ x) (kinds_true ks ls p.1)

abbrev same_ways : List Way → List Way → Bool
same_ways [] [] = true
same_ways [] (v ∷ vs) = false
same_ways (w ∷ ws) [] = false
same_ways (way f ks ∷ ws) (way g ls ∷ vs) = eqb f g && (same_kinds ks ls && same_ways ws vs)

ways_true : (ws vs : List Way) → same_ways ws vs ≡ true → ws ≡ vs
ways_true [] [] e = refl
ways_true [] (v ∷ vs) e = false_true e
ways_true (w ∷ ws) [] e = false_true e
ways_true (way f ks ∷ ws) (way g ls ∷ vs) e =
    let p = and_true (eqb f g) (same_kinds ks ls && same_ways ws vs) e in
    let q = and_true (same_kinds ks ls) (same_ways ws vs) p.1 in
    ap (λ x. way x ks ∷ ws) (eqb-true f g p.0) ∙ ap (λ x. way g x ∷ ws) (kinds_true ks ls q.0)
    ∙ ap (λ x. way g ls ∷ x) (ways_true ws vs q.1)

-- ---- a form's family lies within two places of it, so that the tests compute a few mnemonics and not seventy

unfoldable pub down : (n k : ℕ) → List ℕ
down zero k = []
down (suc n) k = (n + k) ∷ down n k

unfoldable pub near : ℕ → List Way
near f = family (mnemonic f) (down (min 70 (f + 3) - (f - 2)) (f - 2))

near_is : (f : ℕ) → f < 70 → near f ≡ family_of f
unfolding near down all_to narrow family same mnemonic form_at
near_is f h = ways_true (near f) (family_of f) (holds_at (λ f. same_ways (near f) (family_of f)) 70 tt f h)

unfoldable pub near_agree : (f j : ℕ) → List Way
near_agree f zero = near f
near_agree f (suc j) = narrow (mark_of (get_or (operands_at f) j Reg)) (near_agree f j)

agree_is : (f j : ℕ) → f < 70 → near_agree f j ≡ agree f j
unfolding near_agree agree
agree_is f zero h = near_is f h
agree_is f (suc j) h = ap (narrow (mark_of (get_or (operands_at f) j Reg))) (agree_is f j h)

unfoldable pub near_chosen : (f j m : ℕ) → ℕ
near_chosen f j m = lowest (narrow (mark_by m) (near_agree f j))

chosen_is : (f j m : ℕ) → f < 70 → near_chosen f j m ≡ chosen f j m
unfolding near_chosen chosen
chosen_is f j m h = ap (λ ws. lowest (narrow (mark_by m) ws)) (agree_is f j h)

-- ---- the tests, over each form, argument and mark

abbrev step_test : (f j m : ℕ) → Bool
step_test f j m =
    cond (ltb (near_chosen f j m) 70)
    (same_ways (narrow (mark_by m) (near_agree f j)) (near_agree (near_chosen f j m) (suc j)) && ltb j
    (length (operands_at (near_chosen f j m))))
    (not (some? (narrow (mark_by m) (near_agree f j))))

abbrev shape_test : (f j : ℕ) → Bool
shape_test f j =
    cond (ltb j (length (operands_at f)))
    (cond (eqb (length (operands_at f)) (suc j)) (same_ways (near_agree f (suc j)) (way f [] ∷ []))
    (go_on (near_agree f (suc j)) && some? (near_agree f (suc j))))
    true

steps : (k : ℕ) → k < 630 → step_test (k / 9) (k % 9 / 3) (k % 3) ≡ true
unfolding all_to near_chosen near_agree near down narrow family same mnemonic form_at
steps k h = holds_at (λ k. step_test (k / 9) (k % 9 / 3) (k % 3)) 630 tt k h

shapes : (k : ℕ) → k < 210 → shape_test (k / 3) (k % 3) ≡ true
unfolding all_to near_agree near down narrow family same mnemonic form_at
shapes k h = holds_at (λ k. shape_test (k / 3) (k % 3)) 210 tt k h

pub at_most_three : (f : ℕ) → f < 70 → length (operands_at f) ≤ 3
unfolding all_to form_at
at_most_three f h = leb-true (length (operands_at f)) 3 (holds_at (λ f. leb (length (operands_at f)) 3) 70 tt f h)

step_test_lem : (f j m : ℕ) → f < 70 → j < 3 → m < 3 → step_test f j m ≡ true
step_test_lem f j m a b c =
    let k : ℕ = 9 * f + (3 * j + m) in
    let x : k / 9 ≡ f = omega arith in
    let y : k % 9 / 3 ≡ j = omega arith in
    let z : k % 3 ≡ m = omega arith in
    subst (λ u. step_test u j m ≡ true) x (subst (λ u. step_test (k / 9) u m ≡ true) y
    (subst (λ u. step_test (k / 9) (k % 9 / 3) u ≡ true) z (steps k (omega arith))))

shape_test_lem : (f j : ℕ) → f < 70 → j < 3 → shape_test f j ≡ true
shape_test_lem f j a b =
    let k : ℕ = 3 * f + j in
    let x : k / 3 ≡ f = omega arith in
    let z : k % 3 ≡ j = omega arith in
    subst (λ u. shape_test u j ≡ true) x (subst (λ u. shape_test (k / 3) u ≡ true) z (shapes k (omega arith)))

-- the ways that the test speaks of are those of the specification
step_ways : (f j m : ℕ) → f < 70 → near_chosen f j m < 70 → narrow (mark_by m) (near_agree f j) ≡ near_agree (near_chosen f j m) (suc j)
    → narrow (mark_by m) (agree f j) ≡ agree (chosen f j m) (suc j)
step_ways f j m a h e =
    ap (narrow (mark_by m)) (sym (agree_is f j a)) ∙ e ∙ agree_is (near_chosen f j m) (suc j) h
    ∙ ap (λ g. agree g (suc j)) (chosen_is f j m a)

-- ---- what they say

pub step_law : (f j m : ℕ) → f < 70 → j < 3 → m < 3 → chosen f j m < 70
    → (narrow (mark_by m) (agree f j) ≡ agree (chosen f j m) (suc j)) × (j < length (operands_at (chosen f j m)))
step_law f j m a b c h = on (ltb (near_chosen f j m) 70) (lt-ltb (near_chosen f j m) 70 (omega (arith, chosen_is f j m a)))
    (step_test_lem f j m a b c)
  where
    on : (y : Bool) → y ≡ true
        → cond y (same_ways (narrow (mark_by m) (near_agree f j)) (near_agree (near_chosen f j m) (suc j)) && ltb j
        (length (operands_at (near_chosen f j m)))) (not (some? (narrow (mark_by m) (near_agree f j)))) ≡ true
        → (narrow (mark_by m) (agree f j) ≡ agree (chosen f j m) (suc j)) × (j < length (operands_at (chosen f j m)))
    on true q e =
        let p = and_true (same_ways (narrow (mark_by m) (near_agree f j)) (near_agree (near_chosen f j m) (suc j)))
        (ltb j (length (operands_at (near_chosen f j m)))) e in (
          step_ways f j m a (omega (arith, chosen_is f j m a)) (ways_true (narrow (mark_by m) (near_agree f j))
              (near_agree (near_chosen f j m) (suc j)) p.0),
          subst (λ g. j < length (operands_at g)) (chosen_is f j m a) (ltb-true j (length (operands_at (near_chosen f j m))) p.1),
        )
    on false q e = false_true q

pub none_law : (f j m : ℕ) → f < 70 → j < 3 → m < 3 → 69 < chosen f j m → some? (narrow (mark_by m) (agree f j)) ≡ false
none_law f j m a b c h =
    subst (λ ws. some? (narrow (mark_by m) ws) ≡ false) (agree_is f j a)
    (on (ltb (near_chosen f j m) 70) (le-ltb (near_chosen f j m) 70 (omega (arith, chosen_is f j m a))) (step_test_lem f j m a b c))
  where
    no : (y : Bool) → not y ≡ true → y ≡ false
    no true e = false_true e
    no false e = refl

    on : (y : Bool) → y ≡ false
        → cond y (same_ways (narrow (mark_by m) (near_agree f j)) (near_agree (near_chosen f j m) (suc j)) && ltb j
        (length (operands_at (near_chosen f j m)))) (not (some? (narrow (mark_by m) (near_agree f j)))) ≡ true
        → some? (narrow (mark_by m) (near_agree f j)) ≡ false
    on true q e = true_false q
    on false q e = no (some? (narrow (mark_by m) (near_agree f j))) e

some_lowest : (ws : List Way) → lowest ws < 70 → some? ws ≡ true
some_lowest [] h = absurd (omega arith)
some_lowest (w ∷ ws) h = refl

pub some_law : (f j m : ℕ) → chosen f j m < 70 → some? (narrow (mark_by m) (agree f j)) ≡ true
unfolding chosen
some_law f j m h = some_lowest (narrow (mark_by m) (agree f j)) h

pub done_law : (next : List Way → List Operand → Plan) (f j : ℕ) (xs : List Operand) → f < 70 → j < 3 → length (operands_at f) ≡ suc j
    → behind next (agree f (suc j)) xs ≡ done (instr f xs 0)
done_law next f j xs a b e =
    ap (λ w. behind next w xs) (sym (agree_is f (suc j) a)
    ∙ on (ltb j (length (operands_at f))) (lt-ltb j (length (operands_at f)) (omega arith)) (eqb (length (operands_at f)) (suc j))
    (eq-eqb (length (operands_at f)) (suc j) e) (shape_test_lem f j a b))
  where
    on : (y : Bool) → y ≡ true → (z : Bool) → z ≡ true
        → cond y (cond z (same_ways (near_agree f (suc j)) (way f [] ∷ [])) (go_on (near_agree f (suc j)) && some? (near_agree f (suc j))))
        true ≡ true → near_agree f (suc j) ≡ way f [] ∷ []
    on true p true q e = ways_true (near_agree f (suc j)) (way f [] ∷ []) e
    on true p false q e = false_true q
    on false p z q e = false_true p

goes : (next : List Way → List Operand → Plan) (ws : List Way) (xs : List Operand) → go_on ws && some? ws ≡ true
    → behind next ws xs ≡ fork none (λ c. eqb c 44) (λ c. next ws xs)
goes next [] xs e = refl
goes next (way f [] ∷ ws) xs e = false_true e
goes next (way f (k ∷ ks) ∷ ws) xs e = refl

pub more_law : (next : List Way → List Operand → Plan) (f j : ℕ) (xs : List Operand) → f < 70 → j < 3 → j < length (operands_at f)
    → (length (operands_at f) ≡ suc j → ⊥)
    → behind next (agree f (suc j)) xs ≡ fork none (λ c. eqb c 44) (λ c. next (agree f (suc j)) xs)
more_law next f j xs a b h n =
    goes next (agree f (suc j)) xs
    (subst (λ ws. go_on ws && some? ws ≡ true) (agree_is f (suc j) a)
    (on (ltb j (length (operands_at f))) (lt-ltb j (length (operands_at f)) h) (eqb (length (operands_at f)) (suc j))
    (ne_eqb (length (operands_at f)) (suc j) n) (shape_test_lem f j a b)))
  where
    on : (y : Bool) → y ≡ true → (z : Bool) → z ≡ false
        → cond y (cond z (same_ways (near_agree f (suc j)) (way f [] ∷ [])) (go_on (near_agree f (suc j)) && some? (near_agree f (suc j))))
        true ≡ true
        → go_on (near_agree f (suc j)) && some? (near_agree f (suc j)) ≡ true
    on true p true q e = true_false q
    on true p false q e = e
    on false p z q e = false_true p

-- ---- the table

-- what is computed of each entry
abbrev pub entry_test : List (List ℕ) → ℕ → Bool
entry_test rows k = eqb (get_or (get_or rows (k / 9) []) (k % 9) 0) (near_chosen (k / 9) (k % 9 / 3) (k % 3))

pub row_law : (rows : List (List ℕ)) → T (all_to (entry_test rows) 630)
    → (f j m : ℕ) → f < 70 → j < 3 → m < 3 → get_or (get_or rows f []) (3 * j + m) 0 ≡ chosen f j m
row_law rows t f j m a b c =
    let k : ℕ = 9 * f + (3 * j + m) in
    let x : k / 9 ≡ f = omega arith in
    let y : k % 9 / 3 ≡ j = omega arith in
    let z : k % 3 ≡ m = omega arith in
    let u : k % 9 ≡ 3 * j + m = omega arith in
    let e : get_or (get_or rows (k / 9) []) (k % 9) 0 ≡ near_chosen (k / 9) (k % 9 / 3) (k % 3) =
    agree_at (λ k. get_or (get_or rows (k / 9) []) (k % 9) 0) (λ k. near_chosen (k / 9) (k % 9 / 3) (k % 3)) 630 t k (omega arith) in
    ap (λ n. get_or (get_or rows n []) (3 * j + m) 0) (sym x) ∙ ap (λ n. get_or (get_or rows (k / 9) []) n 0) (sym u) ∙ e
    ∙ ap (λ n. near_chosen n (k % 9 / 3) (k % 3)) x ∙ ap (λ n. near_chosen f n (k % 3)) y ∙ ap (λ n. near_chosen f j n) z
    ∙ chosen_is f j m a
