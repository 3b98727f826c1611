-- Which rule it was, by the forms that stood there and stand there now.
use mathlib.Core.Path.{◌≡◌, refl, sym, ap, ◌∙◌}
use mathlib.Core.List.{List, [], ◌∷◌}
use mathlib.Core.Bool.{Bool, true, false, ◌&&◌, ◌||◌, not, cond}
use mathlib.Core.Logic.{⊎_elim}
use Prim.Native.Nat.{ℕ, suc, ◌<◌}
use native.Mathlib.Omega.{arith}
use lib.Dec.{eqb}
use borrow.Author.Tests.{eqb-true, eq-eqb, ne_eqb, not-true}
use Rattle.laws.specs.Lists.{every}
use Rattle.laws.proofs.Tests.{and_true, or_true, or_first, or_second, cond_true, cond_false, false_true}
use Rattle.rules.specs.Forms.{size_at, form_at, is_transfer, is_unconditional, jmp, jmpf, br, callf, Pair, pairs}
use Rattle.promises.proofs.Steps.{other_of}
use Rattle.steps.specs.Steps.{inverting, bouncing, shrinking, rule_of}

-- a trampoline keeps its branch
pub rule_bounce : (f : ℕ) → rule_of f f ≡ bouncing
unfolding rule_of
rule_bounce f = cond_true (eqb f f) bouncing _ (eq-eqb f f refl)

-- ---- a pair's forms are two, and neither is Jmpf or Callf
abbrev apart : (a b : ℕ) → Bool
apart a b = not (eqb a b) && not (eqb a jmpf || eqb a callf)

apart_rule : (a b : ℕ) → apart a b ≡ true → rule_of a b ≡ inverting
unfolding rule_of
apart_rule a b e =
    let h = and_true (not (eqb a b)) (not (eqb a jmpf || eqb a callf)) e in
    cond_false (eqb a b) bouncing _ (not-true (eqb a b) h.0) ∙ cond_false (eqb a jmpf || eqb a callf) shrinking inverting (not-true _ h.1)

abbrev both_apart : Pair → Bool
both_apart x = apart x.first x.second && apart x.second x.first

other_apart : (xs : List Pair) (f : ℕ) → every both_apart xs ≡ true → is_transfer (other_of xs f) ≡ true → apart f (other_of xs f) ≡ true
unfolding every is_transfer form_at
other_apart [] f a t = false_true t
other_apart (x ∷ xs) f a t = on (λ h u. other_apart xs f h u) (eqb f x.first) refl (eqb f x.second) refl t
  where
    parts : (both_apart x ≡ true) × (every both_apart xs ≡ true)
    parts = and_true (both_apart x) (every both_apart xs) a

    here : (apart x.first x.second ≡ true) × (apart x.second x.first ≡ true)
    here = and_true (apart x.first x.second) (apart x.second x.first) parts.0

    on : (every both_apart xs ≡ true → is_transfer (other_of xs f) ≡ true → apart f (other_of xs f) ≡ true)
        → (b : Bool) → eqb f x.first ≡ b → (c : Bool) → eqb f x.second ≡ c → is_transfer (cond b x.second (cond c x.first (other_of xs f))) ≡ true
        → apart f (cond b x.second (cond c x.first (other_of xs f))) ≡ true
    on below true e c d u = ap (λ (z : ℕ). apart z x.second) (eqb-true f x.first e) ∙ here.0
    on below false e true d u = ap (λ (z : ℕ). apart z x.first) (eqb-true f x.second d) ∙ here.1
    on below false e false d u = below parts.1 u

pairs_apart : every both_apart pairs ≡ true
unfolding every
pairs_apart = refl

pub rule_invert : (f g : ℕ) → g ≡ other_of pairs f → is_transfer g ≡ true → rule_of f g ≡ inverting
rule_invert f g e t = apart_rule f g (ap (apart f) e ∙ other_apart pairs f pairs_apart (ap is_transfer (sym e) ∙ t))

-- ---- a shrink begins with Jmpf or Callf: Br and Jmp are the shortest unconditionals
size_br : (size_at br ≡ 2) × (size_at jmp ≡ 2) × (size_at jmpf ≡ 3)
unfolding form_at
size_br = (refl, refl, refl)

shrinks : (f g : ℕ) → size_at g < size_at f → (is_unconditional f && is_unconditional g) || eqb f callf ≡ true → eqb f jmpf || eqb f callf ≡ true
shrinks f g h e = ⊎_elim both (λ c. or_second (eqb f jmpf) (eqb f callf) c) (or_true (is_unconditional f && is_unconditional g) (eqb f callf) e)
  where
    two : (x : ℕ) → is_unconditional x ≡ true → (eqb x jmpf ≡ true → ⊥) → size_at x ≡ 2
    two x u n =
        ⊎_elim (λ b. ap size_at (eqb-true x br b) ∙ size_br.0)
        (λ r. ⊎_elim (λ j. ap size_at (eqb-true x jmp j) ∙ size_br.1) (λ j. absurd (n j)) (or_true (eqb x jmp) (eqb x jmpf) r)) (or_true (eqb x br) (eqb x jmp || eqb x jmpf) u)

    least : (x : ℕ) → is_unconditional x ≡ true → (b : Bool) → eqb x jmpf ≡ b → 2 < suc (size_at x)
    least x u true d = omega (arith, ap size_at (eqb-true x jmpf d), size_br.2)
    least x u false d = omega (arith, two x u (λ z. false_true (sym d ∙ z)))

    both : is_unconditional f && is_unconditional g ≡ true → eqb f jmpf || eqb f callf ≡ true
    both u =
        let w = and_true (is_unconditional f) (is_unconditional g) u in
        on (eqb f jmpf) refl w.0 w.1
      where
        on : (b : Bool) → eqb f jmpf ≡ b → is_unconditional f ≡ true → is_unconditional g ≡ true → eqb f jmpf || eqb f callf ≡ true
        on true d x y = or_first (eqb f jmpf) (eqb f callf) d
        on false d x y = absurd (omega (arith, h, two f x (λ z. false_true (sym d ∙ z)), least g y (eqb g jmpf) refl))

pub rule_shrink : (f g : ℕ) → size_at g < size_at f → (is_unconditional f && is_unconditional g) || eqb f callf ≡ true → rule_of f g ≡ shrinking
unfolding rule_of
rule_shrink f g h e =
    cond_false (eqb f g) bouncing _ (ne_eqb f g (λ z. omega (arith, h, ap size_at z))) ∙ cond_true (eqb f jmpf || eqb f callf) shrinking inverting (shrinks f g h e)
