-- The statement that an address comes to, taken apart.
use mathlib.Core.Path.{◌≡◌, refl, sym, ◌∙◌, subst}
use mathlib.Core.List.{[], ◌∷◌}
use mathlib.Core.Option.{Option, none, some}
use mathlib.Core.Bool.{Bool, true, false, cond, ◌&&◌}
use Prim.Native.Nat.{ℕ, zero, suc, ◌+◌, ◌-◌, ◌≤◌, ◌<◌}
use native.Mathlib.Omega.{arith}
use lib.Dec.{ltb}
use borrow.Author.Tests.{ltb-true, ltb-false}
use Rattle.laws.proofs.Tests.{false_true, true_false}
use Rattle.rules.specs.Programs.{Program, at, byte_count}
use Rattle.rules.specs.Layout.{after, position_from, Origin}
use Rattle.paths.specs.Walk.{is_code, code_from}

pub data ComesFrom (a i q : ℕ) (p : Program) : Option Origin → Type 0 where
  nowhere : ((c : ℕ) → is_code (at p c) ≡ true → position_from q p c + byte_count (position_from q p c) (at p c) ≤ a) → ComesFrom a i q p none
  comes : (b : ℕ) → is_code (at p b) ≡ true → a < position_from q p b + byte_count (position_from q p b) (at p b)
      → ((c : ℕ) → c < b → is_code (at p c) ≡ true → position_from q p c + byte_count (position_from q p c) (at p c) ≤ a)
      → ComesFrom a i q p (some (record { place = i + b; offset = a - position_from q p b }))

pub comes_from : (a i q : ℕ) (p : Program) → ComesFrom a i q p (code_from i q p a)
unfolding code_from position_from
comes_from a i q [] = nowhere (λ c e. false_true e)
comes_from a i q (s ∷ p) = split (is_code s) (ltb a (q + byte_count q s)) refl refl (comes_from a (suc i) (after q s) p)
  where
    more : {o : Option Origin} → (is_code s ≡ true → q + byte_count q s ≤ a) → ComesFrom a (suc i) (after q s) p o → ComesFrom a i q (s ∷ p) o
    more h (nowhere k) = nowhere each
      where
        each : (c : ℕ) → is_code (at (s ∷ p) c) ≡ true → position_from q (s ∷ p) c + byte_count (position_from q (s ∷ p) c) (at (s ∷ p) c) ≤ a
        each zero e = h e
        each (suc c) e = k c e
    more h (comes b e l k) =
        let z : i + suc b ≡ suc i + b = omega arith in
        subst (λ (n : ℕ). ComesFrom a i q (s ∷ p) (some (record { place = n; offset = a - position_from (after q s) p b }))) z (comes (suc b) e l before)
      where
        before : (c : ℕ) → c < suc b → is_code (at (s ∷ p) c) ≡ true → position_from q (s ∷ p) c + byte_count (position_from q (s ∷ p) c) (at (s ∷ p) c) ≤ a
        before zero m x = h x
        before (suc c) m x = k c (omega arith) x

    split : (t u : Bool) → is_code s ≡ t → ltb a (q + byte_count q s) ≡ u → ComesFrom a (suc i) (after q s) p (code_from (suc i) (after q s) p a)
        → ComesFrom a i q (s ∷ p) (cond (t && u) (some (record { place = i; offset = a - q })) (code_from (suc i) (after q s) p a))
    split true true e l below =
        let z : i + 0 ≡ i = omega arith in
        subst (λ (n : ℕ). ComesFrom a i q (s ∷ p) (some (record { place = n; offset = a - q }))) z (comes 0 e (ltb-true a (q + byte_count q s) l) (λ c h x. absurd (omega arith)))
    split true false e l below = more (λ x. ltb-false a (q + byte_count q s) l) below
    split false u e l below = more (λ x. true_false (sym x ∙ e)) below
