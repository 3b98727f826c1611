-- General laws of lists that crate laws lacks.
use mathlib.Core.Path.{◌≡◌, refl, sym, ap}
use mathlib.Core.Bool.{Bool, true, false, ◌&&◌, ◌||◌}
use mathlib.Core.List.{List, [], ◌∷◌}
use Prim.Native.Nat.{ℕ, zero, suc, ◌≤◌, ◌<◌}
use native.Mathlib.Omega.{arith}
use lib.Dec.{eqb}
use lib.ListN.{length, get_or, set}
use borrow.Author.Tests.{eqb-true}
use Rattle.laws.specs.Lists.{total, is_one_of}
use Rattle.laws.proofs.Tests.{clash, false_true, and_true}

-- two sums over lists of one length, compared place by place
module _ {X Y : Type 0} (v : X → ℕ) (w : Y → ℕ) where
  -- no more at any place
  pub total_below : (l : List X) (m : List Y) (d : X) (e : Y) → length l ≡ length m → ((i : ℕ) → i < length l → v (get_or l i d) ≤ w (get_or m i e)) → total v l ≤ total w m
  unfolding total
  total_below [] [] d e s h = omega arith
  total_below [] (y ∷ m) d e s h = absurd (omega arith)
  total_below (x ∷ l) [] d e s h = absurd (omega arith)
  total_below (x ∷ l) (y ∷ m) d e s h = omega (arith, h 0 (omega arith), total_below l m d e (omega arith) (λ i k. h (suc i) (omega arith)))

  -- the same at each place
  pub total_alike : (l : List X) (m : List Y) (d : X) (e : Y) → length l ≡ length m → ((i : ℕ) → i < length l → v (get_or l i d) ≡ w (get_or m i e)) → total v l ≡ total w m
  unfolding total
  total_alike [] [] d e s h = refl
  total_alike [] (y ∷ m) d e s h = absurd (omega arith)
  total_alike (x ∷ l) [] d e s h = absurd (omega arith)
  total_alike (x ∷ l) (y ∷ m) d e s h = omega (arith, h 0 (omega arith), total_alike l m d e (omega arith) (λ i k. h (suc i) (omega arith)))

-- what holds at each place, holds after a store of what has it
pub all_set {ℓ} : {X : Type 0} (P : X → Type ℓ) (l : List X) (i : ℕ) (a d : X) → P a → ((j : ℕ) → P (get_or l j d)) → (j : ℕ) → P (get_or (set l i a) j d)
all_set P [] i a d p h j = h j
all_set P (x ∷ l) zero a d p h zero = p
all_set P (x ∷ l) zero a d p h (suc j) = h (suc j)
all_set P (x ∷ l) (suc i) a d p h zero = h 0
all_set P (x ∷ l) (suc i) a d p h (suc j) = all_set P l i a d p (λ k. h (suc k)) j

-- two lists of tests are the same
abbrev pub same_tests : List Bool → List Bool → Bool
same_tests [] [] = true
same_tests [] (b ∷ m) = false
same_tests (a ∷ l) [] = false
same_tests (true ∷ l) (true ∷ m) = same_tests l m
same_tests (true ∷ l) (false ∷ m) = false
same_tests (false ∷ l) (true ∷ m) = false
same_tests (false ∷ l) (false ∷ m) = same_tests l m

-- as the test says
pub same_tests_true : (l m : List Bool) → same_tests l m ≡ true → l ≡ m
same_tests_true [] [] e = refl
same_tests_true [] (b ∷ m) e = false_true e
same_tests_true (a ∷ l) [] e = false_true e
same_tests_true (true ∷ l) (true ∷ m) e = ap (λ (t : List Bool). true ∷ t) (same_tests_true l m e)
same_tests_true (true ∷ l) (false ∷ m) e = false_true e
same_tests_true (false ∷ l) (true ∷ m) e = false_true e
same_tests_true (false ∷ l) (false ∷ m) e = ap (λ (t : List Bool). false ∷ t) (same_tests_true l m e)

-- what is one of these, is one of those that hold them all
abbrev pub all_among : List ℕ → List ℕ → Bool
all_among ys [] = true
all_among ys (x ∷ xs) = is_one_of ys x && all_among ys xs

pub among : (n : ℕ) (xs ys : List ℕ) → all_among ys xs ≡ true → is_one_of xs n ≡ true → is_one_of ys n ≡ true
among n [] ys a h = clash (cc h)
among n (x ∷ xs) ys a h = let b = and_true (is_one_of ys x) (all_among ys xs) a in on (eqb x n) refl b.0 (among n xs ys b.1) h
  where
    on : (t : Bool) → eqb x n ≡ t → is_one_of ys x ≡ true → (is_one_of xs n ≡ true → is_one_of ys n ≡ true) → t || is_one_of xs n ≡ true → is_one_of ys n ≡ true
    on true e b more h = rw (sym (eqb-true x n e)) b
    on false e b more h = more h
