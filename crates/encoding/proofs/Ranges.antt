-- Signed numbers of 32 bits against the ranges of document 01: one law over the bit width, and the numbers of a relative target.
-- Assumes nothing.
use mathlib.Core.Path.{◌≡◌, ◌∙◌, refl, sym, ap}
use mathlib.Core.Bool.{Bool, true, false, cond}
use Prim.Native.Nat.{ℕ, zero, suc, ◌-◌, ◌/◌, ◌^◌, ◌≤◌, ◌<◌}
use native.Mathlib.Nat.{div-eq_of_lt, div-le_self, div-lt_iff_lt-mul, one-mul}
use native.Mathlib.Omega.{arith}
use lib.Dec.{eqb, ltb}
use lib.IntN.{ℤ, pos, negsuc, ◌-ℤ◌}
use lib.Signed.{mag, shr_z}
use lib.Pow.{pow_pos}
use mir.Syntax.{w32}
use mir.Val.{SFits, to_z, of_z}
use mir.Facts.{to_z-of_z}
use borrow.Author.Tests.{eqb-true, ltb-true, lt-ltb, eq-eqb, ne_eqb}
use Rattle.laws.proofs.Tests.{false_true, same_test, cond_both, clash}
use Rattle.std.specs.Option.{ok_or}
use Rattle.std.specs.Prelude.{Err, Ok, None, Option, Some}
use Rattle.rules.specs.declared.Refusal.{Refusal}
use Rattle.rules.specs.Values.{below, nat}
use Rattle.encoding.specs.Operands.{number_as}

-- a signed value that is passed on is read back from its bits
abbrev pub S : ℤ → ℤ
S z = to_z w32 (of_z w32 z)

-- ---- 0 .. 2 ^ k - 1 by a shift, for every width

small_quotient : (a m : ℕ) → 0 < m → a / m ≡ 0 → a < m
small_quotient a m p e = rw one-mul at ((div-lt_iff_lt-mul {k = m} {x = a} {y = 1} p).0 (omega arith))

pub shift_range : (k : ℕ) (z : ℤ) → SFits w32 z → eqb (of_z w32 (shr_z z (2 ^ k))) 0 ≡ below (2 ^ k) z
shift_range k (pos a) f =
    same_test (eqb (a / 2 ^ k) 0) (ltb a (2 ^ k))
    (λ e. lt-ltb a (2 ^ k) (small_quotient a (2 ^ k) (pow_pos k) (eqb-true (a / 2 ^ k) 0 e)))
    (λ e. eq-eqb (a / 2 ^ k) 0 (div-eq_of_lt (ltb-true a (2 ^ k) e)))
shift_range k (negsuc a) f = ne_eqb (2 ^ 32 - suc (a / 2 ^ k)) 0 (λ e. omega (arith, f.sfits, div-le_self a (2 ^ k)))

-- ---- a number in a range

pub below_lt : (n : ℕ) (z : ℤ) → below n z ≡ true → nat z < n
below_lt n (pos a) e = ltb-true a n e
below_lt n (negsuc a) e = false_true e

pub below_more : (m n : ℕ) (z : ℤ) → m ≤ n → below m z ≡ true → below n z ≡ true
below_more m n (pos a) l e = lt-ltb a n (omega (arith, ltb-true a m e))
below_more m n (negsuc a) l e = false_true e

-- ---- a relative target

pub distance_fits : (z : ℤ) (n : ℕ) → below 65536 z ≡ true → n ≤ 65536 → SFits w32 (z -ℤ pos n)
distance_fits (pos a) zero e l = record { sfits = omega (arith, ltb-true a 65536 e) }
distance_fits (pos a) (suc n) e l =
    record {
      sfits = cond_both (λ (d : ℤ). mag d < 2 ^ 31) (ltb a (suc n)) (negsuc (suc n - suc a)) (pos (a - suc n))
          (omega arith)
          (omega (arith, ltb-true a 65536 e));
    }
distance_fits (negsuc a) n e l = false_true e

-- the distance to a, which v is
pub distance_is : (n a : ℕ) {d v : ℤ} → below 65536 v ≡ true → pos a ≡ v → n ≤ 65536 → d ≡ pos a -ℤ pos n → S d ≡ v -ℤ pos n
distance_is n a {v = v} b q l e = ap S (e ∙ ap (λ (z : ℤ). z -ℤ pos n) q) ∙ to_z-of_z (distance_fits v n b l)

-- ---- what asking a value that was passed on for a number told of the value
pub is_number : (n a : ℕ) (q : Refusal) {v : ℤ} {o : Option ℕ} → SFits w32 v → o ≡ number_as n (S v) → ok_or o q ≡ Ok a → (below n v ≡ true) × (pos a ≡ v)
is_number n a q {v} {o} f e h = on v (ap (λ x. ok_or x q) (sym (e ∙ ap (number_as n) (to_z-of_z f))) ∙ h)
  where
    on : (v : ℤ) → ok_or (number_as n v) q ≡ Ok a → (below n v ≡ true) × (pos a ≡ v)
    on (negsuc m) g = clash (cc)
    on (pos m) g = by (ltb m n) refl g
      where
        by : (b : Bool) → ltb m n ≡ b → ok_or (cond b (Some m) None) q ≡ Ok a → (ltb m n ≡ true) × (pos a ≡ pos m)
        by true d g = (d, (let z : m ≡ a = cc in ap pos (sym z)))
        by false d g = clash (cc)

pub no_number : (n : ℕ) (q : ℤ → Refusal) {r : Refusal} {v : ℤ} {o : Option ℕ} → SFits w32 v → o ≡ number_as n (S v) → ok_or o (q (S v)) ≡ Err r
    → (below n v ≡ false) × (r ≡ q v)
no_number n q {r} {v} {o} f e h =
    on (below n v) refl (ap (λ z. ok_or (number_as n z) (q z)) (sym (to_z-of_z f)) ∙ ap (λ x. ok_or x (q (S v))) (sym e) ∙ h)
  where
    on : (b : Bool) → below n v ≡ b → ok_or (cond b (Some (nat v)) None) (q v) ≡ Err r → (below n v ≡ false) × (r ≡ q v)
    on true d g = clash (cc)
    on false d g = (d, (let z : q v ≡ r = cc in sym z))
