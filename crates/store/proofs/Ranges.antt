-- A test of each place from `low` on below `n`, as `all` over a range makes it, against a recursion over the places. Assumes nothing.
use Prim.Native.Nat.{ℕ, zero, suc, ◌+◌, ◌-◌, ◌≤◌, ◌<◌}
use mathlib.Core.Path.{◌≡◌, refl, sym, ap, ◌∙◌}
use mathlib.Core.Bool.{Bool, true, false, ◌&&◌}
use mathlib.Core.List.{List}
use native.Mathlib.Omega.{arith}
use lib.ListN.{length, get_or}
use Rattle.std.specs.Bool.{MatchBool}
use Rattle.std.specs.List.{range_with_len, AllWithin, HoldsAt}
use Rattle.std.proofs.lemmas.List.FromFn.{length-range_with_len, get_or-range_with_len}

and_false : (b : Bool) → b && false ≡ false
and_false true = refl
and_false false = refl

-- G k says that t holds of each number from k on below n
module _ (G t : ℕ → Bool) (n : ℕ) (more : (k : ℕ) → k < n → G k ≡ t k && G (k + 1)) (done : G n ≡ true) where
  all_hold : (d low : ℕ) → low + d ≡ n → ((k : ℕ) → low ≤ k → k < n → t k ≡ true) → G low ≡ true
  all_hold zero low e h = let z : low ≡ n = omega arith in rw z done
  all_hold (suc d) low e h =
      let l : low < n = omega arith in
      more low l ∙ rw (h low (omega arith) l, all_hold d (low + 1) (omega arith) (λ k a b. h k (omega arith) b))

  one_fails : (d low k : ℕ) → low + d ≡ k → k < n → t k ≡ false → G low ≡ false
  one_fails zero low k e l f = let z : low ≡ k = omega arith in rw z (more k l ∙ rw f)
  one_fails (suc d) low k e l f = more low (omega arith) ∙ rw (one_fails d (low + 1) k (omega arith) l f) (and_false (t low))

  module _ (low : ℕ) where
    abbrev places : List ℕ
    places = range_with_len low (n - low)

    at_place : (i : ℕ) → i < n - low → get_or places i 0 ≡ low + i
    at_place i l = get_or-range_with_len low (n - low) i 0 l

    pub decided : low ≤ n
        → (r : Bool) → MatchBool r (AllWithin (λ k. t k ≡ true) places 0 (length places)) ((i : ℕ) × (i < length places) × HoldsAt (λ k. t k ≡ false) places i)
        → r ≡ G low
    decided l true h = sym (all_hold (n - low) low (omega arith) (λ k a b.
        let i : k - low < n - low = omega arith in
        let e : get_or places (k - low) 0 ≡ k = at_place (k - low) i ∙ (omega arith) in
        ap t (sym e) ∙ h (k - low) 0 (omega arith) (omega (arith, length-range_with_len low (n - low)))))
    decided l false h =
        let i : h.0 < n - low = omega (arith, h.1, length-range_with_len low (n - low)) in
        sym (one_fails h.0 low (low + h.0) refl (omega arith) (ap t (sym (at_place h.0 i)) ∙ h.2 0))
