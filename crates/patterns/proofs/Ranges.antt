-- A test of every number of a range, as the iterator goes over them, is the test of every number below.
use mathlib.Core.Path.{◌≡◌, refl, sym, ap, ◌∙◌}
use mathlib.Core.Bool.{Bool, true, false}
use mathlib.Core.Logic.{⊎_elim}
use mathlib.Core.List.{List, [], ◌∷◌}
use Prim.Native.Nat.{ℕ, ◌+◌, ◌-◌, max, ◌≤◌, ◌<◌}
use native.Mathlib.Nat.{le_antisymm}
use native.Mathlib.Omega.{arith}
use Rattle.std.proofs.Common.{Option, None, Some, MatchOption}
use Rattle.std.specs.Option.{unwrap_or}
use Rattle.std.specs.List.{list_all, range_with_len}
use Rattle.std.proofs.lemmas.List.FromFn.{length-range_with_len, get_or-range_with_len}
use Rattle.laws.specs.Counts.{all_to, scan, tab}
use Rattle.laws.specs.Lists.{every}
use Rattle.laws.proofs.Counts.{tab_is, every_tab, scan_bound, scan_true, scan_least}
use Rattle.laws.proofs.Tests.{true_false, lt_or_le}

-- 0, .., n - 1
range_tab : (n : ℕ) → range_with_len 0 n ≡ tab (λ i. i) n
range_tab n = tab_is (λ i. i) n (range_with_len 0 n) 0 (length-range_with_len 0 n) (λ i l. get_or-range_with_len 0 n i 0 l ∙ omega arith)

every_all : (test : ℕ → Bool) (xs : List ℕ) → list_all test xs ≡ every test xs
unfolding every
every_all test [] = refl
every_all test (x ∷ xs) = rw (every_all test xs)

pub all_range : (test : ℕ → Bool) (n : ℕ) → list_all test (range_with_len 0 n) ≡ all_to test n
all_range test n = every_all test (range_with_len 0 n) ∙ ap (every test) (range_tab n) ∙ every_tab test (λ i. i) n

-- where the search stands: at the first number that passes, or behind the last
module _ (P : ℕ → Bool) (n i : ℕ) where
  scan_at : (m : ℕ) → i ≤ m → m < n → P m ≡ true → ((k : ℕ) → i ≤ k → k < m → P k ≡ false) → scan P (n - i) i ≡ m
  scan_at m l h e none =
      let low : i ≤ scan P (n - i) i = (scan_bound P (n - i) i).0 in
      let before : scan P (n - i) i < m → scan P (n - i) i ≡ m =
      λ lt. true_false (sym (scan_true P (n - i) i (omega arith)) ∙ none (scan P (n - i) i) low lt) in
      let behind : m < scan P (n - i) i → scan P (n - i) i ≡ m = λ gt. true_false (sym e ∙ scan_least P (n - i) i m l gt) in
      ⊎_elim before (λ ge. ⊎_elim behind (λ le. le_antisymm le ge) (lt_or_le m (scan P (n - i) i))) (lt_or_le (scan P (n - i) i) m)

  scan_none : ((k : ℕ) → i ≤ k → k < n → P k ≡ false) → scan P (n - i) i ≡ max i n
  scan_none none =
      let low : i ≤ scan P (n - i) i = (scan_bound P (n - i) i).0 in
      let high : scan P (n - i) i ≤ i + (n - i) = (scan_bound P (n - i) i).1 in
      let before : scan P (n - i) i < i + (n - i) → scan P (n - i) i ≡ max i n =
      λ lt. true_false (sym (scan_true P (n - i) i lt) ∙ none (scan P (n - i) i) low (omega arith)) in
      ⊎_elim before (λ ge. omega arith) (lt_or_le (scan P (n - i) i) (i + (n - i)))

  -- `find` over the numbers from i on, below n, and the number behind them where it finds none
  pub scan_range : (r : Option ℕ) → MatchOption r ((k : ℕ) → i ≤ k → k < n → P k ≡ false)
      (λ m. (i ≤ m) × (m < n) × (P m ≡ true) × ((k : ℕ) → i ≤ k → k < m → P k ≡ false)) → unwrap_or r (max i n) ≡ scan P (n - i) i
  scan_range None h = sym (scan_none h)
  scan_range (Some m) h = sym (scan_at m h.0 h.1 h.2 h.3)
