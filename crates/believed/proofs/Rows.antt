-- One row at a time: what a check refuses is what the row of its number says, and back.
use mathlib.Core.Path.{◌≡◌, refl, sym, ◌∙◌, ap, ap₂}
use mathlib.Core.Logic.{◌⊎◌, inl, inr, ⊎_elim}
use mathlib.Core.List.{List, [], ◌∷◌, ◌++◌}
use mathlib.Core.Option.{Option, none, some}
use mathlib.Core.Bool.{Bool, true, false}
use Prim.Native.Nat.{ℕ, zero, suc, ◌+◌, ◌<◌}
use native.Mathlib.Omega.{arith}
use lib.Dec.{leb, eqb}
use lib.ListN.{length, get_or, take}
use borrow.Author.Tests.{leb-false, lt-leb, eqb-true, eq-eqb, not-false}
use Rattle.laws.proofs.Tests.{clash, and_true, and_both, or_true, or_first, or_second}
use Rattle.rules.specs.declared.Refusal.{Refusal}
use Rattle.rules.specs.declared.Refusal.TheVariants.{Again, Back, Beyond}
use Rattle.rules.specs.Answers.{at_place, Judged, ok, no, require}
use Rattle.rules.specs.Programs.{Placeℕ, Stmt, gone, instr, label, variable, comment, org, bytes, words, pad, Program, at, Space, empty, exactly, from, space_at, as_name}
use Rattle.rules.specs.Layout.{position}
use Rattle.rules.specs.Names.{Key, key_of, same_key, Placed, placed, context_at}
use Rattle.rules.specs.Judging.{is_seen, keys_in, are_new, settles_in}
use Rattle.rules.proofs.Laws.{placed_at_lem, length_placed}
use Rattle.promises.specs.Faults.{keys_of, name_at, settle_at}
use Rattle.believed.specs.Causes.{DefinedAgain, OrgBelow, WouldPass}
use Rattle.believed.proofs.Refusals.{nowhere, passed}

-- a test, else r: which of the two refuses
pub require_no : {A : Type 0} (t : Bool) (q : Refusal) (y : Judged A) (r : Refusal) → require t q y ≡ no r
    → ((t ≡ false) × (r ≡ q)) ⊎ ((t ≡ true) × (y ≡ no r))
unfolding require
require_no true q y r e = inr (refl, e)
require_no false q y r e = inl (refl, cc)

-- ---- 3
same_key_lem : (a b : Key) → same_key a b ≡ true → a ≡ b
same_key_lem a b e =
    let h = and_true (eqb a.called b.called) (eqb a.context b.context) e in
    ap₂ made (eqb-true a.context b.context h.1) (eqb-true a.called b.called h.0)
  where
    made : ℕ → ℕ → Key
    made k n = record { context = k; called = n }

key_same : (a b : Key) → a ≡ b → same_key a b ≡ true
key_same a b e =
    rw e (and_both (eqb b.called b.called) (eqb b.context b.context) (eq-eqb b.called b.called refl) (eq-eqb b.context b.context refl))

-- x defines the name of key k
record Defines (x : Placed) (k : Key) : Type 0 where
  name : ℕ
  is : as_name x.stmt ≡ some name
  same : key_of x.context name ≡ k

-- one more statement
seen_more : (x : Placed) (seen : List Key) (k : Key) (o : Option ℕ) → as_name x.stmt ≡ o
    → is_seen (keys_in x.context o ++ seen) k ≡ true → Defines x k ⊎ (is_seen seen k ≡ true)
unfolding is_seen
seen_more x seen k none d e = inr e
seen_more x seen k (some n) d e =
    ⊎_elim (λ h. inl (record { name = n; is = d; same = same_key_lem (key_of x.context n) k h })) (λ h. inr h) (or_true (same_key (key_of x.context n) k) (is_seen seen k) e)

seen_still : (ks seen : List Key) (k : Key) → is_seen seen k ≡ true → is_seen (ks ++ seen) k ≡ true
unfolding is_seen
seen_still [] seen k e = e
seen_still (x ∷ ks) seen k e = or_second (same_key x k) (is_seen (ks ++ seen) k) (seen_still ks seen k e)

seen_new : (x : Placed) (seen : List Key) (k : Key) → Defines x k → is_seen (keys_in x.context (as_name x.stmt) ++ seen) k ≡ true
unfolding is_seen
seen_new x seen k d =
    rw d.is (or_first (same_key (key_of x.context d.name) k) (is_seen seen k) (key_same (key_of x.context d.name) k d.same))

-- a name is seen where it was, or where one of the statements defines it
seen_where : (seen : List Key) (xs : List Placed) (i : ℕ) (k : Key) → is_seen (keys_of seen (take i xs)) k ≡ true
    → (is_seen seen k ≡ true) ⊎ ((j : ℕ) × (j < i) × (j < length xs) × Defines (get_or xs j nowhere) k)
unfolding keys_of
seen_where seen xs zero k e = inl e
seen_where seen [] (suc i) k e = inl e
seen_where seen (x ∷ xs) (suc i) k e = on (seen_where (keys_in x.context (as_name x.stmt) ++ seen) xs i k e)
  where
    first : Defines x k ⊎ (is_seen seen k ≡ true)
        → (is_seen seen k ≡ true) ⊎ ((j : ℕ) × (j < suc i) × (j < suc (length xs)) × Defines (get_or (x ∷ xs) j nowhere) k)
    first (inl d) = inr (0, omega arith, omega arith, d)
    first (inr h) = inl h

    on : (is_seen (keys_in x.context (as_name x.stmt) ++ seen) k ≡ true) ⊎ ((j : ℕ) × (j < i) × (j < length xs) × Defines (get_or xs j nowhere) k)
        → (is_seen seen k ≡ true) ⊎ ((j : ℕ) × (j < suc i) × (j < suc (length xs)) × Defines (get_or (x ∷ xs) j nowhere) k)
    on (inl h) = first (seen_more x seen k (as_name x.stmt) refl h)
    on (inr h) = inr (suc h.0, omega (arith, h.1), omega (arith, h.2), h.3)

still_seen : (seen : List Key) (xs : List Placed) (k : Key) → is_seen seen k ≡ true → is_seen (keys_of seen xs) k ≡ true
unfolding keys_of
still_seen seen [] k e = e
still_seen seen (x ∷ xs) k e =
    still_seen (keys_in x.context (as_name x.stmt) ++ seen) xs k (seen_still (keys_in x.context (as_name x.stmt)) seen k e)

where_seen : (seen : List Key) (xs : List Placed) (i : ℕ) (k : Key) (j : ℕ) → j < i → j < length xs → Defines (get_or xs j nowhere) k
    → is_seen (keys_of seen (take i xs)) k ≡ true
unfolding keys_of
where_seen seen xs zero k j l m d = absurd (omega arith)
where_seen seen [] (suc i) k j l m d = absurd (omega arith)
where_seen seen (x ∷ xs) (suc i) k zero l m d =
    still_seen (keys_in x.context (as_name x.stmt) ++ seen) (take i xs) k (seen_new x seen k d)
where_seen seen (x ∷ xs) (suc i) k (suc j) l m d =
    where_seen (keys_in x.context (as_name x.stmt) ++ seen) xs i k j (omega arith) (omega arith) d

module _ (p : Program) (i : Placeℕ) where
  placed_below : (j : Placeℕ) → j < length (placed p) → j < length p
  unfolding placed
  placed_below j l = omega (arith, length_placed 0 0 0 p)

  below_placed : (j : Placeℕ) → j < length p → j < length (placed p)
  unfolding placed
  below_placed j l = omega (arith, length_placed 0 0 0 p)

  -- what is defined at place j of the program
  defined_at : (j : Placeℕ) (k : Key) → j < length p → Defines (get_or (placed p) j nowhere) k
      → (n : ℕ) × (as_name (at p j) ≡ some n) × (key_of (context_at p j) n ≡ k)
  defined_at j k l d =
      let e = placed_at_lem p j nowhere l in
      (d.name, sym (ap (λ (x : Placed). as_name x.stmt) e) ∙ d.is, sym (ap (λ (x : Placed). key_of x.context d.name) e) ∙ d.same)

  -- 3: a name is defined again
  pub name_row : (r : Refusal) → name_at p i ≡ no r → (r ≡ Again (at_place i)) × DefinedAgain p i
  name_row r e =
      on (as_name (at p i)) refl (require_no (are_new (keys_of [] (take i (placed p))) (keys_in (context_at p i) (as_name (at p i)))) (Again (at_place i)) passed r e)
    where
      again : (n : ℕ) → as_name (at p i) ≡ some n
          → (is_seen [] (key_of (context_at p i) n) ≡ true) ⊎ ((j : ℕ) × (j < i) × (j < length (placed p)) × Defines (get_or (placed p) j nowhere) (key_of (context_at p i) n)) → DefinedAgain p i
      again n d (inl h) = clash (unfold is_seen in cc)
      again n d (inr h) =
          let k = defined_at h.0 (key_of (context_at p i) n) (placed_below h.0 h.2) h.3 in
          record { earlier = h.0; before = h.1; name = n; other = k.0; defines = d; defined = k.1; same = k.2 }

      on : (o : Option ℕ) → as_name (at p i) ≡ o
          → ((are_new (keys_of [] (take i (placed p))) (keys_in (context_at p i) (as_name (at p i))) ≡ false) × (r ≡ Again (at_place i)))
          ⊎ ((are_new (keys_of [] (take i (placed p))) (keys_in (context_at p i) (as_name (at p i))) ≡ true) × (passed ≡ no r)) → (r ≡ Again (at_place i)) × DefinedAgain p i
      on o d (inr h) = clash (cc h.1)
      on none d (inl h) = clash (cc (rw d at h.0))
      on (some n) d (inl h) =
          (h.1, again n d (seen_where [] (placed p) i (key_of (context_at p i) n) (not-false (is_seen (keys_of [] (take i (placed p))) (key_of (context_at p i) n)) (rw d at h.0))))

  pub row_name : i < length p → DefinedAgain p i → name_at p i ≡ no (Again (at_place i))
  unfolding require
  row_name l d =
      let k : Key = key_of (context_at p i) d.name in
      let m : d.earlier < length p = omega (arith, d.before) in
      let e = placed_at_lem p d.earlier nowhere m in
      let h : is_seen (keys_of [] (take i (placed p))) k ≡ true =
      where_seen [] (placed p) i k d.earlier d.before (below_placed d.earlier m)
      (record { name = d.other; is = ap (λ (x : Placed). as_name x.stmt) e ∙ d.defined; same = ap (λ (x : Placed). key_of x.context d.other) e ∙ d.same }) in
      rw (d.defines, h)

  -- ---- 5 and 6
  org_asks : (q l : ℕ) (s : Stmt) → space_at q s ≡ from l → s ≡ org l
  org_asks q l gone e = clash (cc)
  org_asks q l (instr f xs c) e = clash (cc)
  org_asks q l (label n) e = clash (cc)
  org_asks q l (variable n d) e = clash (cc)
  org_asks q l (comment x) e = clash (cc)
  org_asks q l (org a) e = cc
  org_asks q l (bytes es) e = clash (cc)
  org_asks q l (words es) e = clash (cc)
  org_asks q l (pad add m) e = clash (cc)

  pub settle_row : (r : Refusal) → settle_at p i ≡ no r
      → ((r ≡ Back (at_place i)) × OrgBelow p i) ⊎ ((r ≡ Beyond (at_place i)) × WouldPass p i)
  settle_row r e = on (space_at (position p i) (at p i)) refl e
    where
      on : (x : Space) → space_at (position p i) (at p i) ≡ x → settles_in i (position p i) x ≡ no r
          → ((r ≡ Back (at_place i)) × OrgBelow p i) ⊎ ((r ≡ Beyond (at_place i)) × WouldPass p i)
      on empty d h = clash (cc)
      on (exactly n) d h =
          ⊎_elim (λ a. inr (a.1, record { size = n; asks = d; passes = leb-false (position p i + n) 65536 a.0 })) (λ a. clash (cc a.1))
          (require_no (leb (position p i + n) 65536) (Beyond (at_place i)) (ok tt) r h)
      on (from l) d h =
          ⊎_elim (λ a. inl (a.1, record { location = l; stands = org_asks (position p i) l (at p i) d; below = leb-false (position p i) l a.0 })) (λ a. clash (cc a.1))
          (require_no (leb (position p i) l) (Back (at_place i)) (ok tt) r h)

  pub row_back : OrgBelow p i → settle_at p i ≡ no (Back (at_place i))
  unfolding require
  row_back d = rw (d.stands, lt-leb (position p i) d.location d.below)

  pub row_beyond : WouldPass p i → settle_at p i ≡ no (Beyond (at_place i))
  unfolding require
  row_beyond d = rw (d.asks, lt-leb (position p i + d.size) 65536 d.passes)
