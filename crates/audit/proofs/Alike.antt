-- How far two images are the same: counted byte by byte, and what the count says.
use mathlib.Core.Path.{◌≡◌, refl, sym, ap₂}
use mathlib.Core.List.{List, [], ◌∷◌}
use mathlib.Core.Logic.{◌⊎◌, inl, inr}
use mathlib.Core.Bool.{Bool, true, false, cond}
use Prim.Native.Nat.{ℕ, suc, ◌≤◌, ◌<◌}
use native.Mathlib.Omega.{arith}
use lib.Dec.{eqb}
use lib.ListN.{length, get_or, take}
use borrow.Author.Tests.{eq-eqb, ne_eqb, eqb-true}
use Rattle.laws.proofs.Tests.{both_ways}
use Rattle.audit.specs.Audit.{alike}

-- ---- counted byte by byte: a and b are what is left behind the first n
pub alike_same : (xs ys : List ℕ) (x y : ℕ) → x ≡ y → alike (x ∷ xs) (y ∷ ys) ≡ suc (alike xs ys)
unfolding alike
alike_same xs ys x y e = rw (eq-eqb x y e)

pub alike_other : (xs ys : List ℕ) (x y : ℕ) → (x ≡ y → ⊥) → alike (x ∷ xs) (y ∷ ys) ≡ 0
unfolding alike
alike_other xs ys x y n = rw (ne_eqb x y n)

-- one of them ends
pub alike_ended : (a b : List ℕ) → (length a ≡ 0) ⊎ (length b ≡ 0) → alike a b ≡ 0
unfolding alike
alike_ended [] b e = refl
alike_ended (x ∷ a) [] e = refl
alike_ended (x ∷ a) (y ∷ b) (inl e) = absurd (omega arith)
alike_ended (x ∷ a) (y ∷ b) (inr e) = absurd (omega arith)

-- ---- what the count says
pub record Front (w s : List ℕ) (n : ℕ) : Type 0 where
  pub in_wanted : n ≤ length w
  pub in_shipped : n ≤ length s
  pub same : take n s ≡ take n w
  pub other : n < length w → n < length s → get_or w n 0 ≡ get_or s n 0 → ⊥

pub front_is : (w s : List ℕ) → Front w s (alike w s)
unfolding alike
front_is [] s = record { in_wanted = omega arith; in_shipped = omega arith; same = refl; other = λ h k e. omega arith }
front_is (x ∷ xs) [] = record { in_wanted = omega arith; in_shipped = omega arith; same = refl; other = λ h k e. omega arith }
front_is (x ∷ xs) (y ∷ ys) = on (eqb x y) refl (front_is xs ys)
  where
    on : (b : Bool) → eqb x y ≡ b → Front xs ys (alike xs ys) → Front (x ∷ xs) (y ∷ ys) (cond b (suc (alike xs ys)) 0)
    on true e f =
        let z : y ≡ x = sym (eqb-true x y e) in
        record {
          in_wanted = omega (arith, f.in_wanted);
          in_shipped = omega (arith, f.in_shipped);
          same = ap₂ (λ (a : ℕ) (l : List ℕ). a ∷ l) z f.same;
          other = λ h k. f.other (omega (arith, h)) (omega (arith, k));
        }
    on false e f = record { in_wanted = omega arith; in_shipped = omega arith; same = refl; other = λ h k d. both_ways (eqb x y) (eq-eqb x y d) e }
