-- Lists of deeds of any kind, one of which does nothing: the first deed from a place on, and what a fold leaves.
use mathlib.Core.Path.{◌≡◌, refl, sym, ◌∙◌, ap}
use mathlib.Core.Logic.{◌⊎◌, inl, inr, ⊎_elim, ◌≢◌}
use mathlib.Core.List.{List}
use mathlib.Core.Bool.{Bool, true, false, ◌&&◌, not, cond}
use Prim.Native.Nat.{ℕ, ◌-◌, ◌≤◌, ◌<◌}
use native.Mathlib.Omega.{arith}
use lib.Dec.{ltb, eqb}
use lib.ListN.{length, get_or}
use borrow.Author.Tests.{eq-eqb, ne_eqb, lt-ltb, le-ltb}
use Rattle.laws.specs.Counts.{scan, tab}
use Rattle.laws.proofs.Tests.{false_true, true_false, lt_or_le}
use Rattle.laws.proofs.Counts.{scan_bound, scan_true, scan_least, get_or_tab, length_tab}
use Rattle.laws.proofs.Stores.{get_out}

module _ {D : Type 0} (pass : D) (is_pass : D → Bool) where
  -- the first deed from place a on
  unfoldable pub ahead : List D → (a : ℕ) → ℕ
  ahead m a = scan (λ j. not (is_pass (get_or m j pass))) (length m - a) a

  -- what is ahead of place a: a deed at place b and none before it, or none at all
  pub data Head (m : List D) (a : ℕ) : Type 0 where
    found : (b : ℕ) → a ≤ b → ((n : ℕ) → a ≤ n → n < b → get_or m n pass ≡ pass) → is_pass (get_or m b pass) ≡ false → Head m a
    nothing : ((n : ℕ) → a ≤ n → get_or m n pass ≡ pass) → Head m a

  module _ (pass_is : (x : D) → is_pass x ≡ true → x ≡ pass) (passes : is_pass pass ≡ true) (m : List D) (a : ℕ) where
    before : (n : ℕ) → a ≤ n → n < ahead m a → get_or m n pass ≡ pass
    unfolding ahead
    before n l u = pass_is (get_or m n pass) (flip (is_pass (get_or m n pass)) (scan_least (λ j. not (is_pass (get_or m j pass))) (length m - a) a n l u))
      where
        flip : (b : Bool) → not b ≡ false → b ≡ true
        flip true e = refl
        flip false e = true_false e

    inside : ahead m a < length m → is_pass (get_or m (ahead m a) pass) ≡ false
    unfolding ahead
    inside h =
        flip (is_pass (get_or m (ahead m a) pass)) (scan_true (λ j. not (is_pass (get_or m j pass))) (length m - a) a (omega (arith, scan_bound (λ j. not (is_pass (get_or m j pass))) (length m - a) a)))
      where
        flip : (b : Bool) → not b ≡ true → b ≡ false
        flip true e = false_true e
        flip false e = refl

    pub from : a ≤ ahead m a
    unfolding ahead
    from = (scan_bound (λ j. not (is_pass (get_or m j pass))) (length m - a) a).0

    pub head : Head m a
    head = split (is_pass (get_or m (ahead m a) pass)) refl
      where
        split : (b : Bool) → is_pass (get_or m (ahead m a) pass) ≡ b → Head m a
        split false e = found (ahead m a) from before e
        split true e =
            nothing (λ n l. ⊎_elim (λ h. before n l h) (λ h. ⊎_elim (λ k. true_false (sym e ∙ inside k)) (λ k. get_out m n pass (omega arith)) (lt_or_le (ahead m a) (length m))) (lt_or_le n (ahead m a)))

    -- a deed that is there is inside
    there : (b : ℕ) → is_pass (get_or m b pass) ≡ false → b < length m
    there b e = ⊎_elim (λ h. h) (λ h. true_false (sym (ap is_pass (get_out m b pass h) ∙ passes) ∙ e)) (lt_or_le b (length m))

    pub ahead_is : (b : ℕ) → a ≤ b → ((n : ℕ) → a ≤ n → n < b → get_or m n pass ≡ pass) → is_pass (get_or m b pass) ≡ false → ahead m a ≡ b
    ahead_is b l h e =
        ⊎_elim (λ k. true_false (sym (ap is_pass (h (ahead m a) from k) ∙ passes) ∙ inside (omega (arith, there b e))))
        (λ k. ⊎_elim (λ z. true_false (sym (ap is_pass (before b l z) ∙ passes) ∙ e)) (λ z. omega arith) (lt_or_le b (ahead m a))) (lt_or_le (ahead m a) b)

-- ---- a fold: another deed at i, and nothing between it and v
module _ {D : Type 0} (pass : D) where
  abbrev pub folds : List D → (i v : ℕ) → D → ℕ → D
  folds m i v x n = cond (eqb n i) x (cond (ltb i n && ltb n v) pass (get_or m n pass))

  unfoldable pub folded_of : List D → (i v : ℕ) → D → List D
  folded_of m i v x = tab (folds m i v x) (length m)

  module _ (m : List D) (i v : ℕ) (x : D) (in_m : i < length m) where
    folded_at : (n : ℕ) → get_or (folded_of m i v x) n pass ≡ folds m i v x n
    unfolding folded_of
    folded_at n = ⊎_elim (λ h. get_or_tab (folds m i v x) (length m) n pass h) outside (lt_or_le n (length m))
      where
        empty : (b : Bool) → pass ≡ cond b pass pass
        empty true = refl
        empty false = refl

        outside : length m ≤ n → get_or (folded_of m i v x) n pass ≡ folds m i v x n
        outside h =
            get_out (tab (folds m i v x) (length m)) n pass (omega (arith, length_tab (folds m i v x) (length m)))
            ∙ rw (ne_eqb n i (λ e. omega arith), get_out m n pass h) (empty (ltb i n && ltb n v))

    pub folded_here : get_or (folded_of m i v x) i pass ≡ x
    folded_here = folded_at i ∙ rw (eq-eqb i i refl)

    pub folded_hollow : (n : ℕ) → i < n → n < v → get_or (folded_of m i v x) n pass ≡ pass
    folded_hollow n a b = folded_at n ∙ rw (ne_eqb n i (λ e. omega arith), lt-ltb i n a, lt-ltb n v b)

    pub folded_away : (n : ℕ) → n ≢ i → (n ≤ i) ⊎ (v ≤ n) → get_or (folded_of m i v x) n pass ≡ get_or m n pass
    folded_away n ne (inl h) = folded_at n ∙ rw (ne_eqb n i ne, le-ltb i n h)
    folded_away n ne (inr h) = folded_at n ∙ rw (ne_eqb n i ne, le-ltb n v h) (last (ltb i n))
      where
        last : (b : Bool) → cond (b && false) pass (get_or m n pass) ≡ get_or m n pass
        last true = refl
        last false = refl

  pub folded_length : (m : List D) (i v : ℕ) (x : D) → length (folded_of m i v x) ≡ length m
  unfolding folded_of
  folded_length m i v x = length_tab (folds m i v x) (length m)
