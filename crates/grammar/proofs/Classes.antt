-- The class of a byte, and what may stand behind spaces where an operand is expected. Assumes nothing.
use mathlib.Core.Path.{◌≡◌, refl, sym, ap, ◌∙◌}
use mathlib.Core.Logic.{◌⊎◌, inl, inr}
use mathlib.Core.List.{List, [], ◌∷◌}
use mathlib.Core.Bool.{Bool, true, false, cond}
use Prim.Native.Nat.{ℕ}
use lib.Dec.{eqb}
use borrow.Author.Tests.{eqb-true}
use Rattle.rules.specs.declared.Op1.TheVariants.{Negate}
use Rattle.grammar.specs.Reading.{is_decimal, look, touches}
use Rattle.text.specs.Text.{sign1}
use Rattle.grammar.specs.Going as going
use Rattle.grammar.specs.Going.{Class, class_of, Start, leaf, paren, sign, nothing, led_by, led}
use Rattle.grammar.proofs.Takes.{Took, idle}

-- ---- the class of a byte

abbrev pub Is : ℕ → Class → Type 0
Is c going.digit = is_decimal c ≡ true
Is c going.minus = c ≡ 45
Is c going.global = c ≡ 103
Is c going.dot = c ≡ 46
Is c going.bracket = c ≡ 40
Is c going.upper = c ≡ 62
Is c going.lower = c ≡ 60
Is c going.space = c ≡ 32
Is c going.other = Unit

branch : (c : ℕ) (b : Bool) (x y : Class) → (b ≡ true → Is c x) → Is c y → Is c (cond b x y)
branch c true x y f g = f refl
branch c false x y f g = g

pub class_is : (c : ℕ) → Is c (class_of c)
unfolding class_of
class_is c =
    let k8 : Class = cond (eqb c 32) going.space going.other in
    let k7 : Class = cond (eqb c 60) going.lower k8 in
    let k6 : Class = cond (eqb c 62) going.upper k7 in
    let k5 : Class = cond (eqb c 40) going.bracket k6 in
    let k4 : Class = cond (eqb c 46) going.dot k5 in
    let k3 : Class = cond (eqb c 103) going.global k4 in
    let k2 : Class = cond (eqb c 45) going.minus k3 in
    branch c (is_decimal c) going.digit k2 (λ e. e)
    (branch c (eqb c 45) going.minus k3 (eqb-true c 45)
    (branch c (eqb c 103) going.global k4 (eqb-true c 103)
    (branch c (eqb c 46) going.dot k5 (eqb-true c 46)
    (branch c (eqb c 40) going.bracket k6 (eqb-true c 40)
    (branch c (eqb c 62) going.upper k7 (eqb-true c 62) (branch c (eqb c 60) going.lower k8 (eqb-true c 60)
    (branch c (eqb c 32) going.space going.other (eqb-true c 32) tt)))))))

pub class_digit : (c : ℕ) → is_decimal c ≡ true → class_of c ≡ going.digit
unfolding class_of
class_digit c e = rw e

-- ---- behind spaces

-- a sign; or nothing was taken, or a minus
abbrev pub FineLed : List ℕ → Start → Type 0
FineLed t (leaf o) = ⊥
FineLed t paren = ⊥
FineLed t (sign s r) = (t ≡ sign1 s ∷ r) × (touches s r ≡ false)
FineLed t (nothing r) = Took t r (λ w. (w ≡ []) ⊎ (w ≡ 45 ∷ [])) (λ x u. led x ≡ nothing u)

pub fine_led : (t : List ℕ) → FineLed t (led t)
unfolding led class_of
fine_led [] = idle [] (inl refl) (λ u k. at u k)
  where
    at : (u : List ℕ) → 0 ≡ look u → led u ≡ nothing u
    at [] e = refl
    at (d ∷ x) e = ap (λ y. led_by (class_of y) d x) (sym e)
fine_led (c ∷ t) = by (class_of c) refl (class_is c)
  where
    idles : (k : Class) → class_of c ≡ k → ((d : ℕ) (x : List ℕ) → led_by k d x ≡ nothing (d ∷ x)) → FineLed (c ∷ t) (nothing (c ∷ t))
    idles k p f = idle (c ∷ t) (inl refl) (λ u e. at u e)
      where
        at : (u : List ℕ) → c ≡ look u → led u ≡ nothing u
        at [] e = refl
        at (d ∷ x) e = ap (λ y. led_by y d x) (ap class_of (sym e) ∙ p) ∙ f d x

    by : (k : Class) → class_of c ≡ k → Is c k → FineLed (c ∷ t) (led_by k c t)
    by going.digit p i = idles going.digit p (λ d x. refl)
    by going.minus p i = on (is_decimal (look t)) refl
      where
        on : (b : Bool) → is_decimal (look t) ≡ b → FineLed (c ∷ t) (cond b (nothing t) (sign Negate t))
        on true q =
            record {
              w = c ∷ [];
              split = refl;
              means = inr (ap (λ y. y ∷ []) i);
              alike = λ u k. ap (λ y. led_by y c u) p ∙ ap (λ b. cond b (nothing u) (sign Negate u)) (ap is_decimal (sym k) ∙ q);
            }
        on false q = (ap (λ y. y ∷ t) i, q)
    by going.global p i = idles going.global p (λ d x. refl)
    by going.dot p i = idles going.dot p (λ d x. refl)
    by going.bracket p i = idles going.bracket p (λ d x. refl)
    by going.upper p i = (ap (λ y. y ∷ t) i, refl)
    by going.lower p i = (ap (λ y. y ∷ t) i, refl)
    by going.space p i = idles going.space p (λ d x. refl)
    by going.other p i = idles going.other p (λ d x. refl)
