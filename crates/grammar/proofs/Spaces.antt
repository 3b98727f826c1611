-- Spaces, operators, and the first byte of an expression. Assumes nothing.
use mathlib.Core.Path.{◌≡◌, refl, sym, ap, ◌∙◌, subst}
use mathlib.Core.List.{List, [], ◌∷◌, ◌++◌, append_assoc}
use mathlib.Core.Option.{Option, none, some}
use mathlib.Core.Bool.{Bool, true, false, cond}
use Prim.Native.Nat.{ℕ, zero, suc}
use native.Mathlib.Omega.{arith}
use lib.Dec.{eqb}
use borrow.Author.Tests.{eqb-true, eq-eqb, ne_eqb}
use Rattle.laws.proofs.Tests.{clash}
use Rattle.rules.specs.declared.Op1.{Op1}
use Rattle.rules.specs.declared.Op1.TheVariants.{Negate, Upper, Lower}
use Rattle.rules.specs.declared.Op2.{Op2}
use Rattle.rules.specs.declared.Op2.TheVariants.{Plus, Minus, Times, Divide, Xor, And, Or}
use Rattle.rules.specs.Expressions.{Expr}
use Rattle.text.specs.Text.{sign1, sign2}
use Rattle.grammar.specs.Reading as reading
use Rattle.grammar.specs.Reading.{is_decimal, look, spaces, level_of, Decimal, Number, Name, Exp, number, named, signed, parens, tighter, joined}
use Rattle.grammar.specs.Going.{skip, infix_of, at_level, op_at}
use Rattle.grammar.proofs.Takes.{Took, front}

-- ---- spaces

pub skip_clear : (u : List ℕ) → eqb (look u) 32 ≡ false → skip u ≡ u
unfolding skip
skip_clear [] e = refl
skip_clear (c ∷ u) e = rw e

pub skip_spaces : (n : ℕ) (u : List ℕ) → eqb (look u) 32 ≡ false → skip (spaces n ++ u) ≡ u
unfolding skip
skip_spaces zero u e = skip_clear u e
skip_spaces (suc n) u e = skip_spaces n u e

pub skip_look : (t : List ℕ) → eqb (look (skip t)) 32 ≡ false
unfolding skip
skip_look [] = refl
skip_look (c ∷ t) = on (eqb c 32) refl (skip_look t)
  where
    on : (b : Bool) → eqb c 32 ≡ b → eqb (look (skip t)) 32 ≡ false → eqb (look (cond b (skip t) (c ∷ t))) 32 ≡ false
    on true p h = h
    on false p h = p

-- however many stand before
pub skip_over : (n : ℕ) (u : List ℕ) → skip (spaces n ++ u) ≡ skip u
unfolding skip
skip_over zero u = refl
skip_over (suc n) u = skip_over n u

pub blanks : (t : List ℕ) → (n : ℕ) × (t ≡ spaces n ++ skip t)
unfolding skip
blanks [] = (0, refl)
blanks (c ∷ t) = on (eqb c 32) refl (blanks t)
  where
    on : (b : Bool) → eqb c 32 ≡ b → (n : ℕ) × (t ≡ spaces n ++ skip t) → (n : ℕ) × (c ∷ t ≡ spaces n ++ cond b (skip t) (c ∷ t))
    on true p (n, e) = (suc n, ap (λ x. x ∷ t) (eqb-true c 32 p) ∙ ap (λ x. 32 ∷ x) e)
    on false p h = (0, refl)

-- spaces before what is taken
pub spaced : {P Q : List ℕ → Type 0} {G H : List ℕ → List ℕ → Type 0} (t r : List ℕ) → Took (skip t) r P G
    → ((n : ℕ) (w : List ℕ) → t ≡ (spaces n ++ w) ++ r → P w → Q (spaces n ++ w))
    → ((y u : List ℕ) → look t ≡ look y → look r ≡ look u → G (skip y) u → H y u) → Took t r Q H
spaced {G = G} {H = H} t r a f g =
    let s = blanks t in
    let n = s.0 in
    let split : t ≡ (spaces n ++ a.w) ++ r = s.1 ∙ ap (λ x. spaces n ++ x) a.split ∙ sym (append_assoc (spaces n) a.w r) in
    record {
      w = spaces n ++ a.w;
      split = split;
      means = f n a.w split a.means;
      alike =
          λ u k.
          let y : List ℕ = spaces n ++ (a.w ++ u) in
          let m : look (skip t) ≡ look (a.w ++ u) = ap look a.split ∙ front a.w r u k in
          let same : look t ≡ look y = ap look s.1 ∙ front (spaces n) (skip t) (a.w ++ u) m in
          let skips : skip y ≡ a.w ++ u = skip_spaces n (a.w ++ u) (ap (λ c. eqb c 32) (sym m) ∙ skip_look t) in
          subst (λ x. H x u) (sym (append_assoc (spaces n) a.w u)) (g y u same k (subst (λ x. G x u) (sym skips) (a.alike u k)));
    }

pub leading : {P : List ℕ → Type 0} {G : List ℕ → List ℕ → Type 0} (n : ℕ) (t r : List ℕ)
    → Took t r (λ w. P (spaces n ++ w)) (λ x u. G (spaces n ++ x) u)
    → Took (spaces n ++ t) r P G
leading {G = G} n t r a =
    record {
      w = spaces n ++ a.w;
      split = ap (λ x. spaces n ++ x) a.split ∙ sym (append_assoc (spaces n) a.w r);
      means = a.means;
      alike = λ u k. subst (λ x. G x u) (sym (append_assoc (spaces n) a.w u)) (a.alike u k);
    }

-- spaces behind what is taken
pub trailed : {P Q : List ℕ → Type 0} {G H : List ℕ → List ℕ → Type 0} (t r : List ℕ) → Took t r P G
    → ((w : List ℕ) (n : ℕ) → r ≡ spaces n ++ skip r → P w → Q (w ++ spaces n))
    → ((x y u : List ℕ) → look r ≡ look y → look (skip r) ≡ look u → skip y ≡ u → G x y → H x u) → Took t (skip r) Q H
trailed {H = H} t r a f g =
    let s = blanks r in
    let n = s.0 in
    record {
      w = a.w ++ spaces n;
      split = a.split ∙ ap (λ x. a.w ++ x) s.1 ∙ sym (append_assoc a.w (spaces n) (skip r));
      means = f a.w n s.1 a.means;
      alike =
          λ u k.
          let y : List ℕ = spaces n ++ u in
          let same : look r ≡ look y = ap look s.1 ∙ front (spaces n) (skip r) u k in
          subst (λ x. H x u) (sym (append_assoc a.w (spaces n) u))
          (g (a.w ++ y) y u same k (skip_spaces n u (ap (λ c. eqb c 32) (sym k) ∙ skip_look r)) (a.alike y same));
    }

-- ---- operators

abbrev IsOp : ℕ → Option Op2 → Type 0
IsOp c none = Unit
IsOp c (some o) = c ≡ sign2 o

branch : (c : ℕ) (b : Bool) (x y : Option Op2) → (b ≡ true → IsOp c x) → IsOp c y → IsOp c (cond b x y)
branch c true x y f g = f refl
branch c false x y f g = g

op_is : (c : ℕ) → IsOp c (infix_of c)
unfolding infix_of
op_is c =
    let k7 : Option Op2 = cond (eqb c 124) (some Or) none in
    let k6 : Option Op2 = cond (eqb c 94) (some Xor) k7 in
    let k5 : Option Op2 = cond (eqb c 38) (some And) k6 in
    let k4 : Option Op2 = cond (eqb c 45) (some Minus) k5 in
    let k3 : Option Op2 = cond (eqb c 43) (some Plus) k4 in
    let k2 : Option Op2 = cond (eqb c 47) (some Divide) k3 in
    branch c (eqb c 42) (some Times) k2 (eqb-true c 42)
    (branch c (eqb c 47) (some Divide) k3 (eqb-true c 47)
    (branch c (eqb c 43) (some Plus) k4 (eqb-true c 43)
    (branch c (eqb c 45) (some Minus) k5 (eqb-true c 45)
    (branch c (eqb c 38) (some And) k6 (eqb-true c 38)
    (branch c (eqb c 94) (some Xor) k7 (eqb-true c 94) (branch c (eqb c 124) (some Or) none (eqb-true c 124) tt))))))

pub infix_sign : (o : Op2) → infix_of (sign2 o) ≡ some o
unfolding infix_of
infix_sign Plus = refl
infix_sign Minus = refl
infix_sign Times = refl
infix_sign Divide = refl
infix_sign Xor = refl
infix_sign And = refl
infix_sign Or = refl

pub op_at_lem : (l : ℕ) (o : Op2) → level_of o ≡ l → op_at l (sign2 o) ≡ some o
op_at_lem l o e = rw (infix_sign o) (rw (eq-eqb (level_of o) l e))

pub op_other : (l : ℕ) (o : Op2) → (level_of o ≡ l → ⊥) → op_at l (sign2 o) ≡ none
op_other l o e = rw (infix_sign o) (rw (ne_eqb (level_of o) l e))

pub record Operator (l : ℕ) (o : Op2) (r : List ℕ) : Type 0 where
  pub tail : List ℕ
  pub is : r ≡ sign2 o ∷ tail
  pub level : level_of o ≡ l

pub operator : (l : ℕ) (o : Op2) (r : List ℕ) → op_at l (look r) ≡ some o → Operator l o r
operator l o r e = on (infix_of (look r)) refl (op_is (look r)) e
  where
    seen : (p : Op2) (b : Bool) → eqb (level_of p) l ≡ b → cond b (some p) none ≡ some o → (p ≡ o) × (level_of p ≡ l)
    seen p true q e = (cc, eqb-true (level_of p) l q)
    seen p false q e = clash (cc)

    at : (r : List ℕ) → look r ≡ sign2 o → level_of o ≡ l → Operator l o r
    at [] f g = clash (nosign o f)
      where
        nosign : (p : Op2) → 0 ≡ sign2 p → ◌≡◌ {A = ℕ} 0 1
        nosign Plus e = omega arith
        nosign Minus e = omega arith
        nosign Times e = omega arith
        nosign Divide e = omega arith
        nosign Xor e = omega arith
        nosign And e = omega arith
        nosign Or e = omega arith
    at (c ∷ t) f g = record { tail = t; is = ap (λ x. x ∷ t) f; level = g }

    on : (x : Option Op2) → infix_of (look r) ≡ x → IsOp (look r) x → at_level l x ≡ some o → Operator l o r
    on none p i e = clash (cc)
    on (some p) q i e =
        let s = seen p (eqb (level_of p) l) refl e in
        at r (i ∙ ap sign2 s.0) (ap level_of (sym s.0) ∙ s.1)

pub sign_clear : (o : Op1) → eqb (sign1 o) 32 ≡ false
sign_clear Negate = refl
sign_clear Upper = refl
sign_clear Lower = refl

-- ---- the first byte of an expression

record Head (w : List ℕ) : Type 0 where
  first : ℕ
  tail : List ℕ
  is : w ≡ first ∷ tail

number_head : (most v : ℕ) (t : List ℕ) → Decimal most v t → Head t
number_head most v [] d = absurd (omega (arith, d.some))
number_head most v (c ∷ t) d = record { first = c; tail = t; is = refl }

head : {l : ℕ} {e : Expr} {w : List ℕ} → Exp l e w → Head w
head (number (reading.plain {v = v} {t = t} d)) = number_head 2147483647 v t d
head (number (reading.minus {t = t} d)) = record { first = 45; tail = t; is = refl }
head (named (reading.global {t = t} l d)) = record { first = 103; tail = t; is = refl }
head (named (reading.local {t = t} l d)) = record { first = 46; tail = 108 ∷ t; is = refl }
head (signed {t = t} o m n q x) = on m
  where
    on : (m : ℕ) → Head (spaces m ++ (sign1 o ∷ (spaces n ++ t)))
    on zero = record { first = sign1 o; tail = spaces n ++ t; is = refl }
    on (suc m) = record { first = 32; tail = spaces m ++ (sign1 o ∷ (spaces n ++ t)); is = refl }
head (parens {t = t} x) = record { first = 40; tail = t ++ (41 ∷ []); is = refl }
head (tighter x) = head x
head (joined {s = s} {t = t} o m n q x y) =
    let h = head x in
    let z : List ℕ = spaces m ++ (sign2 o ∷ (spaces n ++ t)) in
    record { first = h.first; tail = h.tail ++ z; is = ap (λ y. y ++ z) h.is }

-- what follows an expression does not change its first byte
pub head_look : {l : ℕ} {e : Expr} {w : List ℕ} (x : Exp l e w) (u : List ℕ) → look (w ++ u) ≡ look w
head_look {w = w} x u = let h = head x in ap (λ y. look (y ++ u)) h.is ∙ sym (ap look h.is)
