-- The readers of spaces and digits, by index. Assumes nothing.
use mathlib.Core.Path.{◌≡◌, refl, sym, ap, ◌∙◌}
use mathlib.Core.List.{List, ◌∷◌}
use mathlib.Core.Bool.{true, false}
use Prim.Native.Nat.{ℕ, zero, suc, ◌+◌, ◌-◌, ◌*◌, ◌≤◌, ◌<◌}
use native.Mathlib.Numerals.{add-one}
use native.Mathlib.Omega.{arith}
use native.Mathlib.Nat.{mul-le-mul}
use lib.Dec.{leb, eqb}
use lib.ListN.{length, get_or, drop, drop_of_length-le}
use lib.Seq.{drop-cons}
use borrow.Author.Tests.{leb-true, le-leb, lt-leb, eq-eqb, ne_eqb}
use Rattle.laws.proofs.Tests.{and_true, and_both, second_false, first_false}
use Rattle.grammar.specs.Reading.{is_decimal, look}
use Rattle.grammar.specs.Going.{got, stuck, skip, digits, fixed}
use Rattle.text.specs.Text.{tens}
use Rattle.grammar.proofs.Digits.{digits_stop, digits_step, digits_over, fixed_step, fixed_stop}
use Rattle.grammar.proofs.Spaces.{skip_clear}

pub drop_more : (s : List ℕ) (i : ℕ) → i < length s → drop i s ≡ get_or s i 0 ∷ drop (i + 1) s
drop_more s i h = drop-cons s i 0 h ∙ ap (λ n. get_or s i 0 ∷ drop n s) (sym (add-one i))

pub look_at : (s : List ℕ) (i : ℕ) → i < length s → look (drop i s) ≡ get_or s i 0
look_at s i h = ap look (drop_more s i h)

pub look_end : (s : List ℕ) (i : ℕ) → length s ≤ i → look (drop i s) ≡ 0
look_end s i h = ap look (drop_of_length-le s h)

pub skip_more : (s : List ℕ) (i : ℕ) → i < length s → get_or s i 0 ≡ 32 → skip (drop i s) ≡ skip (drop (i + 1) s)
unfolding skip
skip_more s i h e = ap skip (drop_more s i h) ∙ rw (eq-eqb (get_or s i 0) 32 e)

pub skip_here : (s : List ℕ) (i : ℕ) → i < length s → (get_or s i 0 ≡ 32 → ⊥) → skip (drop i s) ≡ drop i s
skip_here s i h e = skip_clear (drop i s) (ap (λ c. eqb c 32) (look_at s i h) ∙ ne_eqb (get_or s i 0) 32 e)

pub skip_end : (s : List ℕ) (i : ℕ) → length s ≤ i → skip (drop i s) ≡ drop i s
skip_end s i h = skip_clear (drop i s) (ap (λ c. eqb c 32) (look_end s i h))

-- a digit is one of 48 to 57
pub digit_range : (c : ℕ) → is_decimal c ≡ true → (48 ≤ c) × (c ≤ 57)
digit_range c e = let q = and_true (leb 48 c) (leb c 57) e in (leb-true 48 c q.0, leb-true c 57 q.1)

pub digit_in : (c : ℕ) → 48 ≤ c → c ≤ 57 → is_decimal c ≡ true
digit_in c h k = and_both (leb 48 c) (leb c 57) (le-leb 48 c h) (le-leb c 57 k)

pub digit_low : (c : ℕ) → c < 48 → is_decimal c ≡ false
digit_low c h = first_false (leb 48 c) (leb c 57) (lt-leb 48 c h)

pub digit_high : (c : ℕ) → 57 < c → is_decimal c ≡ false
digit_high c h = second_false (leb 48 c) (leb c 57) (lt-leb c 57 h)

abbrev next : ℕ → ℕ → ℕ
next v d = 10 * v + (d - 48)

module _ (s : List ℕ) (most v i : ℕ) where
  pub digits_no : i < length s → is_decimal (get_or s i 0) ≡ false → digits most v (drop i s) ≡ got v (drop i s)
  digits_no h e = digits_stop most v (drop i s) (ap is_decimal (look_at s i h) ∙ e)

  pub digits_end : length s ≤ i → digits most v (drop i s) ≡ got v (drop i s)
  digits_end h = digits_stop most v (drop i s) (ap is_decimal (look_end s i h))

  pub digits_go : i < length s → is_decimal (get_or s i 0) ≡ true → next v (get_or s i 0) ≤ most
      → digits most v (drop i s) ≡ digits most (next v (get_or s i 0)) (drop (i + 1) s)
  digits_go h e k =
      ap (digits most v) (drop_more s i h) ∙ digits_step most v (get_or s i 0) (drop (i + 1) s) e (le-leb (next v (get_or s i 0)) most k)

  pub digits_big : i < length s → is_decimal (get_or s i 0) ≡ true → most < next v (get_or s i 0)
      → digits most v (drop i s) ≡ stuck (drop i s)
  digits_big h e k = digits_over most v (get_or s i 0) (drop i s) e (lt-leb (next v (get_or s i 0)) most k) (sym (look_at s i h))

module _ (s : List ℕ) (most k v i : ℕ) where
  pub fixed_go : i < length s → is_decimal (get_or s i 0) ≡ true → next v (get_or s i 0) * tens k ≤ most
      → fixed most (suc k) v (drop i s) ≡ fixed most k (next v (get_or s i 0)) (drop (i + 1) s)
  fixed_go h e q =
      ap (fixed most (suc k) v) (drop_more s i h)
      ∙ fixed_step most k v (get_or s i 0) (drop (i + 1) s)
      (and_both (is_decimal (get_or s i 0)) (leb (next v (get_or s i 0) * tens k) most) e (le-leb (next v (get_or s i 0) * tens k) most q))

  pub fixed_end : length s ≤ i → fixed most (suc k) v (drop i s) ≡ stuck (drop i s)
  fixed_end h = fixed_stop most k v 0 (drop i s) refl (sym (look_end s i h))

  pub fixed_no : i < length s → is_decimal (get_or s i 0) ≡ false → fixed most (suc k) v (drop i s) ≡ stuck (drop i s)
  fixed_no h e =
      fixed_stop most k v (get_or s i 0) (drop i s) (first_false (is_decimal (get_or s i 0)) (leb (next v (get_or s i 0) * tens k) most) e)
      (sym (look_at s i h))

  pub fixed_big : i < length s → most < next v (get_or s i 0) * tens k → fixed most (suc k) v (drop i s) ≡ stuck (drop i s)
  fixed_big h e =
      fixed_stop most k v (get_or s i 0) (drop i s)
      (second_false (is_decimal (get_or s i 0)) (leb (next v (get_or s i 0) * tens k) most)
      (lt-leb (next v (get_or s i 0) * tens k) most e)) (sym (look_at s i h))

-- how large a power of ten is
tens_pos : (k : ℕ) → 1 ≤ tens k
tens_pos zero = omega arith
tens_pos (suc k) = omega (arith, tens_pos k)

pub tens_grow : (w k : ℕ) → w ≤ w * tens k
tens_grow w k = on (tens k) (tens_pos k)
  where
    on : (t : ℕ) → 1 ≤ t → w ≤ w * t
    on zero h = absurd (omega arith)
    on (suc t) h = omega arith

tens_high : (k : ℕ) → k < 5 → tens k ≤ 10000
tens_high zero h = omega arith
tens_high (suc zero) h = omega arith
tens_high (suc (suc zero)) h = omega arith
tens_high (suc (suc (suc zero))) h = omega arith
tens_high (suc (suc (suc (suc zero)))) h = omega arith
tens_high (suc (suc (suc (suc (suc k))))) h = absurd (omega arith)

pub tens_fits : (w t k : ℕ) → w < 400000 → k < 5 → t ≡ tens k → w * t ≤ 4000000000
tens_fits w t k h q e = rw e (mul_bound w 400000 (tens k) 10000 (omega arith) (tens_high k q))
  where
    mul_bound : (a b c d : ℕ) → a ≤ b → c ≤ d → a * c ≤ b * d
    mul_bound a b c d h k = mul-le-mul h k
