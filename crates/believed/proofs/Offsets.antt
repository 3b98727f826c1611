-- The rules by the offsets wanted in each statement are the ones in use, of every program whose offsets are below the sizes.
use mathlib.Core.Path.{◌≡◌, refl, sym, ◌∙◌, ap, ap₂}
use mathlib.Core.Logic.{◌↔◌, ◌⊎◌, inl, inr, ⊎_elim}
use mathlib.Core.List.{List, [], ◌∷◌}
use mathlib.Core.Option.{Option, none, some}
use mathlib.Core.Bool.{Bool, true, false, ◌&&◌, not, cond}
use Prim.Native.Nat.{ℕ, zero, suc, ◌-◌, ◌≤◌, ◌<◌}
use native.Mathlib.Omega.{arith}
use lib.Dec.{leb, ltb, eqb}
use lib.ListN.{length}
use borrow.Author.Tests.{eqb-true, eq-eqb, ne_eqb, lt-ltb, le-leb, ltb-true, leb-true, not-false}
use Rattle.laws.specs.Options.{or_else, first_of, bind}
use Rattle.laws.specs.Lists.{total, every, each}
use Rattle.laws.proofs.Tests.{and_true, and_both, same_test, eq_or_not, lt_or_le, clash, false_true}
use Rattle.laws.proofs.Lists.{every_append, every_weaken}
use Rattle.laws.proofs.Options.{first_from_ext}
use Rattle.laws.proofs.Counts.{scan_bound, scan_least}
use Rattle.rules.specs.declared.Settings.{Settings}
use Rattle.rules.specs.Names.{Entry}
use Rattle.rules.specs.Judging.{names_of, assembles}
use Rattle.rules.specs.Programs.{Placeℕ, Addressℕ, Operand, register, value, inner, Stmt, gone, instr, label, variable, comment, org, bytes, words, pad, Program, at, byte_count, args_of, as_instr}
use Rattle.rules.specs.Layout.{position, size_in}
use Rattle.rules.specs.Rewriting.{of_inner, every_inner_label, no_inner_label_between, no_interior_label_at, acceptable, insignificant, next, branch, unconditional, local_label, inverted_at, trampoline_at, Pattern, inverted, trampoline, patterns_for, pattern_at, shrink_at, anywhere, step, Chain, more, chain, instr_bytes, anchor, optimized}
use Rattle.promises.specs.Demand2.{Input}
use Rattle.promises.proofs.Looks.{local_label_some}
use Rattle.promises.proofs.Steps.{step_good, step_some}
use Rattle.promises.proofs.Listings.{read_made}
use Rattle.promises.proofs.Acceptable.{anchor_acceptable}
use Rattle.believed.specs.Offsets.{wanted_by, offsets_at, is_none, none_in, only_first, EachWithin, inverted_by, trampoline_by, pattern_by, shrink_by, step_by, SameCandidates, SameRules, chain_by, SameEnd}

-- ---- a test of every inner label is a test of the offsets wanted at each place
every_nothing : {A : Type 0} (f : A → Bool) → every f [] ≡ true
unfolding every
every_nothing f = refl

every_known : (f : ℕ → Bool) → ((o : ℕ) → f o ≡ true) → (xs : List ℕ) → every f xs ≡ true
unfolding every
every_known f h [] = refl
every_known f h (o ∷ xs) = and_both (f o) (every f xs) (h o) (every_known f h xs)

module _ (f : Placeℕ → ℕ → Bool) where
  operand_tests : (i : Placeℕ) (x : Operand) → of_inner f x ≡ true → every (f i) (wanted_by i x) ≡ true
  operand_tests i (register r) e = every_nothing (f i)
  operand_tests i (value d) e = every_nothing (f i)
  operand_tests i (inner j o) e = on (eqb j i) refl
    where
      on : (b : Bool) → eqb j i ≡ b → every (f i) (cond b (o ∷ []) []) ≡ true
      on true d = unfold every in rw (sym (ap (λ (k : ℕ). f k o) (eqb-true j i d)) ∙ e)
      on false d = every_nothing (f i)

  each_tests : {X : Type 0} (test : X → Bool) (wanted : Placeℕ → X → List ℕ)
      → ((i : Placeℕ) (x : X) → test x ≡ true → every (f i) (wanted i x) ≡ true)
      → (i : Placeℕ) (xs : List X) → every test xs ≡ true → every (f i) (each (wanted i) xs) ≡ true
  unfolding every each
  each_tests test wanted h i [] e = refl
  each_tests test wanted h i (x ∷ xs) e =
      let t = and_true (test x) (every test xs) e in
      every_append (f i) (wanted i x) (each (wanted i) xs) ∙ and_both _ _ (h i x t.0) (each_tests test wanted h i xs t.1)

  tests_each : {X : Type 0} (test : X → Bool) (wanted : Placeℕ → X → List ℕ)
      → ((x : X) → ((i : Placeℕ) → every (f i) (wanted i x) ≡ true) → test x ≡ true)
      → (xs : List X) → ((i : Placeℕ) → every (f i) (each (wanted i) xs) ≡ true) → every test xs ≡ true
  unfolding every each
  tests_each test wanted h [] e = refl
  tests_each test wanted h (x ∷ xs) e =
      and_both (test x) (every test xs) (h x (λ i. (split i).0)) (tests_each test wanted h xs (λ i. (split i).1))
    where
      split : (i : Placeℕ) → (every (f i) (wanted i x) ≡ true) × (every (f i) (each (wanted i) xs) ≡ true)
      split i =
          and_true (every (f i) (wanted i x)) (every (f i) (each (wanted i) xs)) (sym (every_append (f i) (wanted i x) (each (wanted i) xs)) ∙ e i)

  tests_operand : (x : Operand) → ((i : Placeℕ) → every (f i) (wanted_by i x) ≡ true) → of_inner f x ≡ true
  unfolding every
  tests_operand (register r) h = refl
  tests_operand (value d) h = refl
  tests_operand (inner j o) h = (and_true (f j o) true (ap (λ (b : Bool). every (f j) (cond b (o ∷ []) [])) (sym (eq-eqb j j refl)) ∙ h j)).0

  pub by_offsets : (p : Program) → every_inner_label f p ≡ true ↔ ((i : Placeℕ) → every (f i) (offsets_at p i) ≡ true)
  unfolding every_inner_label offsets_at
  by_offsets p = (
    λ e i. each_tests (λ s. every (of_inner f) (args_of s)) (λ i s. each (wanted_by i) (args_of s)) (λ i s t. each_tests (of_inner f) wanted_by operand_tests i (args_of s) t) i p e,
    λ h. tests_each (λ s. every (of_inner f) (args_of s)) (λ i s. each (wanted_by i) (args_of s)) (λ s t. tests_each (of_inner f) wanted_by tests_operand (args_of s) t) p h,
  )

-- ---- rule 5
pub same_candidates : (p : Program) → SameCandidates p
unfolding acceptable
same_candidates p = (
  λ e. let t =
      and_true (every_inner_label (λ owner o. ltb o (size_in p owner)) p) (assembles p) e in ((by_offsets (λ owner o. ltb o (size_in p owner)) p).0 t.0, t.1),
  λ h. and_both (every_inner_label (λ owner o. ltb o (size_in p owner)) p) (assembles p) ((by_offsets (λ owner o. ltb o (size_in p owner)) p).1 h.0) h.1,
)

-- every test of a list that holds of nothing
none_true : (xs : List ℕ) → every (λ (o : ℕ). false) xs ≡ true → is_none xs ≡ true
unfolding every
none_true [] e = refl
none_true (o ∷ xs) e = false_true e

is_none_lem : (xs : List ℕ) → is_none xs ≡ true → xs ≡ []
is_none_lem [] e = refl
is_none_lem (o ∷ xs) e = false_true e

pub same_replaced : (p : Program) (i : Placeℕ) → only_first p i ≡ no_interior_label_at p i
unfolding only_first no_interior_label_at
same_replaced p i = same_test (every (λ o. eqb o 0) (offsets_at p i)) (every_inner_label interior p) forth back
  where
    interior : Placeℕ → ℕ → Bool
    interior owner o = not (eqb owner i && leb 1 o)

    here : (o : ℕ) → eqb o 0 ≡ true → interior i o ≡ true
    here o e = let z = eqb-true o 0 e in rw (eq-eqb i i refl, z)

    back_here : (o : ℕ) → interior i o ≡ true → eqb o 0 ≡ true
    back_here zero e = eq-eqb 0 0 refl
    back_here (suc o) e = clash (cc (rw (eq-eqb i i refl, le-leb 1 (suc o) (omega arith)) at e))

    forth : every (λ o. eqb o 0) (offsets_at p i) ≡ true → every_inner_label interior p ≡ true
    forth e = (by_offsets interior p).1 (λ j. on j (eq_or_not j i))
      where
        on : (j : Placeℕ) → (j ≡ i) ⊎ (j ≡ i → ⊥) → every (interior j) (offsets_at p j) ≡ true
        on j (inl q) = rw q (every_weaken (λ o. eqb o 0) (interior i) (offsets_at p i) here e)
        on j (inr q) = every_known (interior j) (λ o. rw (ne_eqb j i q)) (offsets_at p j)

    back : every_inner_label interior p ≡ true → every (λ o. eqb o 0) (offsets_at p i) ≡ true
    back e = every_weaken (interior i) (λ o. eqb o 0) (offsets_at p i) back_here ((by_offsets interior p).0 e i)

-- ---- rule 3: between the branch and the last label only what is dropped can own an inner label
module _ (p : Program) (fine : EachWithin p) where
  -- nothing is wanted where there are no bytes
  quiet : (k : Placeℕ) → size_in p k ≡ 0 → offsets_at p k ≡ []
  quiet k e =
      is_none_lem (offsets_at p k) (none_true (offsets_at p k) (every_weaken (λ o. ltb o (size_in p k)) (λ o. false) (offsets_at p k) (λ o t. absurd (omega (arith, ltb-true o (size_in p k) t))) (fine k)))

  skipped_size : (q : Addressℕ) (s : Stmt) → insignificant s ≡ true → byte_count q s ≡ 0
  skipped_size q gone e = refl
  skipped_size q (instr f xs c) e = clash (cc)
  skipped_size q (label n) e = clash (cc)
  skipped_size q (variable n d) e = clash (cc)
  skipped_size q (comment x) e = refl
  skipped_size q (org l) e = clash (cc)
  skipped_size q (bytes es) e = clash (cc)
  skipped_size q (words es) e = clash (cc)
  skipped_size q (pad add m) e = clash (cc)

  -- up to the next significant place
  next_after : (a : Placeℕ) → a < next p (suc a)
  unfolding next
  next_after a = omega (arith, (scan_bound (λ j. not (insignificant (at p j))) (length p - suc a) (suc a)).0)

  to_next : (a k : Placeℕ) → a < k → k ≤ next p (suc a) → offsets_at p (next p (suc a)) ≡ [] → offsets_at p k ≡ []
  unfolding next
  to_next a k l m e = on (eq_or_not k (next p (suc a)))
    where
      on : (k ≡ next p (suc a)) ⊎ (k ≡ next p (suc a) → ⊥) → offsets_at p k ≡ []
      on (inl q) = ap (offsets_at p) q ∙ e
      on (inr q) =
          let s : not (insignificant (at p k)) ≡ false =
          scan_least (λ j. not (insignificant (at p j))) (length p - suc a) (suc a) k (omega arith) (omega arith) in
          quiet k (skipped_size (position p k) (at p k) (not-false (insignificant (at p k)) s))

  label_quiet : (k n : ℕ) → local_label (at p k) ≡ some n → offsets_at p k ≡ []
  label_quiet k n e = quiet k (ap (byte_count (position p k)) (local_label_some (at p k) n e).1)

  -- none between i and m, if none at any place there; and back
  abbrev between : (i m : Placeℕ) → Placeℕ → ℕ → Bool
  between i m owner o = not (ltb i owner && leb owner m)

  none_between : (i m : Placeℕ) → ((k : Placeℕ) → i < k → k ≤ m → offsets_at p k ≡ []) → no_inner_label_between p i m ≡ true
  unfolding no_inner_label_between
  none_between i m h = (by_offsets (between i m) p).1 (λ k. on k (ltb i k) refl (leb k m) refl)
    where
      apart : (k : Placeℕ) → ltb i k && leb k m ≡ false → (xs : List ℕ) → every (between i m k) xs ≡ true
      apart k e xs = every_known (between i m k) (λ o. rw e) xs

      on : (k : Placeℕ) (a : Bool) → ltb i k ≡ a → (b : Bool) → leb k m ≡ b → every (between i m k) (offsets_at p k) ≡ true
      on k true d true e = rw (h k (ltb-true i k d) (leb-true k m e)) (every_nothing (between i m k))
      on k true d false e = apart k (rw (d, e)) (offsets_at p k)
      on k false d b e = apart k (rw d) (offsets_at p k)

  between_none : (i m k : Placeℕ) → i < k → k ≤ m → no_inner_label_between p i m ≡ true → offsets_at p k ≡ []
  unfolding no_inner_label_between
  between_none i m k l n e =
      is_none_lem (offsets_at p k) (none_true (offsets_at p k)
      (every_weaken (between i m k) (λ o. false) (offsets_at p k) (λ o t. let z : between i m k o ≡ false = rw (lt-ltb i k l, le-leb k m n) in sym z ∙ t) ((by_offsets (between i m) p).0 e k)))

  none_at : (k : Placeℕ) → offsets_at p k ≡ [] → is_none (offsets_at p k) ≡ true
  none_at k e = ap is_none e

  -- an inverted fold, a trampoline
  same_inverted : (i n : ℕ) → local_label (at p (next p (suc (next p (suc i))))) ≡ some n
      → none_in p (next p (suc i) ∷ []) ≡ no_inner_label_between p i (next p (suc (next p (suc i))))
  unfolding none_in every
  same_inverted i n e = same_test (is_none (offsets_at p j) && true) (no_inner_label_between p i m) forth back
    where
      j : Placeℕ
      j = next p (suc i)

      m : Placeℕ
      m = next p (suc j)

      forth : is_none (offsets_at p j) && true ≡ true → no_inner_label_between p i m ≡ true
      forth t =
          none_between i m (λ k a b. ⊎_elim (λ c. to_next j k c b (label_quiet m n e)) (λ c. to_next i k a c (is_none_lem (offsets_at p j) (and_true (is_none (offsets_at p j)) true t).0)) (lt_or_le j k))

      back : no_inner_label_between p i m ≡ true → is_none (offsets_at p j) && true ≡ true
      back t = and_both (is_none (offsets_at p j)) true (none_at j (between_none i m j (next_after i) (omega (arith, next_after j)) t)) refl

  same_trampoline : (i s : ℕ) → local_label (at p (next p (suc (next p (suc (next p (suc (next p (suc i))))))))) ≡ some s
      → none_in p (next p (suc i) ∷ next p (suc (next p (suc i))) ∷ next p (suc (next p (suc (next p (suc i))))) ∷ [])
      ≡ no_inner_label_between p i (next p (suc (next p (suc (next p (suc (next p (suc i))))))))
  unfolding none_in every
  same_trampoline i s e =
      same_test (is_none (offsets_at p j) && (is_none (offsets_at p m) && (is_none (offsets_at p u) && true))) (no_inner_label_between p i v) forth back
    where
      j : Placeℕ
      j = next p (suc i)

      m : Placeℕ
      m = next p (suc j)

      u : Placeℕ
      u = next p (suc m)

      v : Placeℕ
      v = next p (suc u)

      none : Placeℕ → Bool
      none k = is_none (offsets_at p k)

      forth : none j && (none m && (none u && true)) ≡ true → no_inner_label_between p i v ≡ true
      forth t =
          let a = and_true (none j) (none m && (none u && true)) t in
          let b = and_true (none m) (none u && true) a.1 in
          let c = and_true (none u) true b.1 in
          none_between i v (λ k l h.
          ⊎_elim (λ x. to_next u k x h (label_quiet v s e)) (λ x.
          ⊎_elim (λ y. to_next m k y x (is_none_lem (offsets_at p u) c.0)) (λ y.
          ⊎_elim (λ z. to_next j k z y (is_none_lem (offsets_at p m) b.0)) (λ z. to_next i k l z (is_none_lem (offsets_at p j) a.0))
          (lt_or_le j k)) (lt_or_le m k)) (lt_or_le u k))

      back : no_inner_label_between p i v ≡ true → none j && (none m && (none u && true)) ≡ true
      back t =
          let a = next_after i in
          let b = next_after j in
          let c = next_after m in
          let d = next_after u in
          and_both (none j) (none m && (none u && true)) (none_at j (between_none i v j (omega arith) (omega arith) t))
          (and_both (none m) (none u && true) (none_at m (between_none i v m (omega arith) (omega arith) t))
          (and_both (none u) true (none_at u (between_none i v u (omega arith) (omega arith) t)) refl))

  -- ---- the rules as a whole
  bind_same : {A B : Type 0} (o : Option A) (f g : A → Option B) → ((a : A) → o ≡ some a → f a ≡ g a) → bind o f ≡ bind o g
  unfolding bind
  bind_same none f g h = refl
  bind_same (some a) f g h = h a refl

  same_folds : (x : Pattern) (i : Placeℕ) → pattern_by p x i ≡ pattern_at p x i
  unfolding inverted_by inverted_at trampoline_by trampoline_at
  same_folds (inverted from to) i =
      bind_same (branch from (at p i)) _ _ (λ b x. bind_same (unconditional (at p (next p (suc i)))) _ _ (λ jump y.
      bind_same (local_label (at p (next p (suc (next p (suc i)))))) _ _ (λ n z.
      rw (same_inverted i n z, same_replaced p i))))
  same_folds (trampoline f) i =
      bind_same (branch f (at p i)) _ _ (λ b a. bind_same (unconditional (at p (next p (suc i)))) _ _ (λ skip c.
      bind_same (local_label (at p (next p (suc (next p (suc i)))))) _ _ (λ t d.
      bind_same (unconditional (at p (next p (suc (next p (suc (next p (suc i)))))))) _ _ (λ last e.
      bind_same (local_label (at p (next p (suc (next p (suc (next p (suc (next p (suc i)))))))))) _ _ (λ s g.
      rw (same_trampoline i s g, same_replaced p i))))))

  same_shrinks : (asked : Settings) (names : List Entry) (i : Placeℕ) → shrink_by asked names p i ≡ shrink_at asked names p i
  unfolding shrink_by shrink_at
  same_shrinks asked names i = bind_same (as_instr (at p i)) _ _ (λ x e. simp (same_replaced p i))

  first_same : {X : Type 0} (f g : X → Option Program) (xs : List X) → ((x : X) → f x ≡ g x) → first_of f xs ≡ first_of g xs
  unfolding first_of
  first_same f g [] h = refl
  first_same f g (x ∷ xs) h = rw (h x, first_same f g xs h)

  same_step : (asked : Settings) → step_by asked p ≡ step asked p
  unfolding step_by step anywhere
  same_step asked =
      ap₂ (λ (a b : Option Program). or_else a b)
      (first_same _ _ (patterns_for asked) (λ x. first_from_ext (pattern_by p x) (pattern_at p x) (length p) 0 (λ i l m. same_folds x i)))
      (first_from_ext (shrink_by asked (names_of p) p) (shrink_at asked (names_of p) p) (length p) 0 (λ i l m. same_shrinks asked (names_of p) i))

-- same-rules: of a program whose offsets are below the sizes, the rules by offsets are the ones in use
pub same_rules : (asked : Settings) (p : Program) → EachWithin p → SameRules asked p
same_rules asked p fine =
    record { replaced = same_replaced p; folds = same_folds p fine; shrinks = same_shrinks p fine asked (names_of p); first_rewrite = same_step p fine asked }

-- ---- every program on the way is such
chain_same : (asked : Settings) (n : ℕ) (p : Program) → EachWithin p → chain_by asked n p ≡ chain asked n p
unfolding chain_by chain
chain_same asked zero p h = refl
chain_same asked (suc n) p h =
    ap (λ (o : Option Program). elim o as (λ x. Chain) [ none ↦ record { program = p; count = 0 } | some q ↦ more (chain_by asked n q) ]) (same_step p h asked)
    ∙ on (step asked p) refl (chain_same asked n)
  where
    on : (o : Option Program) → step asked p ≡ o → ((q : Program) → EachWithin q → chain_by asked n q ≡ chain asked n q)
        → ◌≡◌ {A = Chain} (elim o as (λ x. Chain) [ none ↦ record { program = p; count = 0 } | some q ↦ more (chain_by asked n q) ])
        (elim o as (λ x. Chain) [ none ↦ record { program = p; count = 0 } | some q ↦ more (chain asked n q) ])
    on none e below = refl
    on (some q) e below = ap more (below q ((same_candidates q).0 (step_good p q (step_some asked p q e))).0)

-- same_end: of an accepted program, the end form and the count by these rules are those in use
pub same_end : (asked : Settings) (p : Program) → Input p → SameEnd asked p
unfolding optimized
same_end asked p h =
    chain_same asked (total instr_bytes p) (anchor p) ((same_candidates (anchor p)).0 (anchor_acceptable p (read_made h.text p h.reads) h.image h.assembles)).0
