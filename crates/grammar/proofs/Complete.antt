-- Every expression of the grammar is read, to the tree that the grammar gives it. So a text is an expression of one tree only. Assumes
-- nothing.
use mathlib.Core.Path.{◌≡◌, refl, sym, ap, ◌∙◌, subst}
use mathlib.Core.Logic.{◌⊎◌, inl, inr}
use mathlib.Core.List.{List, [], ◌∷◌, ◌++◌, append_assoc}
use mathlib.Core.Option.{none}
use mathlib.Core.Bool.{Bool, true, false, cond, not}
use Prim.Native.Nat.{ℕ, zero, suc, ◌+◌, ◌<◌}
use native.Mathlib.Omega.{arith}
use lib.Dec.{eqb}
use lib.IntN.{pos, neg_ℤ}
use lib.ListN.{length}
use borrow.Author.Tests.{eqb-true}
use Rattle.rules.specs.declared.Op1.{Op1}
use Rattle.rules.specs.declared.Op2.{Op2}
use Rattle.rules.specs.declared.Op2.TheVariants.{Plus, Minus, Times, Divide, Xor, And, Or}
use Rattle.rules.specs.Expressions.{Expr, num, name, two, one}
use Rattle.text.specs.Text.{sign1, sign2}
use Rattle.grammar.specs.Reading as reading
use Rattle.grammar.specs.Reading.{is_decimal, worth, look, spaces, touches, level_of, Decimal, Exp, number, named, signed, parens, tighter, joined}
use Rattle.grammar.specs.Going.{Read, got, stuck, on_got, fixed, class_of, leaf, start, skip, infix_of, op_at, is_some, gap, close, Mode, alone, whole, rest, Goes, leafs, opens, signs, nones, ends, fails, firsts, sinks, stops, agains, breaks}
use Rattle.grammar.proofs.Digits.{first_digit, digits_all, fixed_all}
use Rattle.grammar.proofs.Classes.{class_digit, FineLed, fine_led}
use Rattle.grammar.proofs.Starts.{sign_starts, start_sign, paren_starts, start_paren, start_global, start_local}
use Rattle.grammar.proofs.Spaces.{skip_clear, skip_spaces, skip_over, sign_clear, infix_sign, op_at_lem, op_other, head_look}
use Rattle.grammar.proofs.Goings.{HasOp, touch_look}
use Rattle.grammar.proofs.Determined.{determined}

-- ---- what may follow

-- no operator that binds before level l
abbrev pub Below : ℕ → List ℕ → Type 0
Below l v = (k : ℕ) → k < l → op_at k (look v) ≡ none

-- n spaces and v: no digit, and an operator if there are spaces
pub record Clear (n : ℕ) (v : List ℕ) : Type 0 where
  pub digit : is_decimal (look v) ≡ false
  pub space : eqb (look v) 32 ≡ false
  pub follows : (n ≡ 0) ⊎ HasOp v

abbrev pub Complete : ℕ → Expr → List ℕ → Type 0
Complete zero e w = (v : List ℕ) → is_decimal (look v) ≡ false → Goes alone (w ++ v) (got e v)
Complete (suc l) e w =
    (n : ℕ) (v : List ℕ) (o : Read Expr) → Below (suc l) v → Clear n v → Goes (rest l e) v o → Goes (whole (suc l)) (w ++ (spaces n ++ v)) o

-- ---- spaces before an expression that is read: without them it is read alike

abbrev Bared : Mode → List ℕ → Read Expr → Type 0
Bared alone t (got e r) = Goes alone (skip t) (got e r)
Bared alone t (stuck r) = Unit
Bared (whole l) t (got e r) = Goes (whole l) (skip t) (got e r)
Bared (whole l) t (stuck r) = Unit
Bared (rest l d) t o = Unit

bared_alone : (t : List ℕ) (o : Read Expr) → Goes alone (skip t) o → Bared alone t o
bared_alone t (got e r) g = g
bared_alone t (stuck r) g = tt

bared_whole : (l : ℕ) (t : List ℕ) (o : Read Expr) → Goes (whole l) (skip t) o → Bared (whole l) t o
bared_whole l t (got e r) g = g
bared_whole l t (stuck r) g = tt

leaf_skip : (t : List ℕ) (o : Read Expr) → start t ≡ leaf o → skip t ≡ t
unfolding start class_of
leaf_skip [] o e = skip_clear [] refl
leaf_skip (c ∷ t) o e = on (eqb c 32) refl
  where
    on : (b : Bool) → eqb c 32 ≡ b → skip (c ∷ t) ≡ c ∷ t
    on true q = absurd (subst (λ x. FineLed (skip t) x) (subst (λ y. start (y ∷ t) ≡ leaf o) (eqb-true c 32 q) e) (fine_led (skip t)))
    on false q = skip_clear (c ∷ t) q

bared : {m : Mode} {t : List ℕ} {o : Read Expr} → Goes m t o → Bared m t o
bared (leafs {t = t} {o = o} e) = bared_alone t o (leafs (ap start (leaf_skip t o e) ∙ e))
bared (opens {t = t} {o = o} e g) =
    let p = start_paren t e in
    let s : skip t ≡ t = subst (λ y. skip y ≡ y) (sym p.1) (skip_clear (40 ∷ p.0) refl) in
    bared_alone t (close o) (subst (λ y. Goes alone y (close o)) (sym s) (opens e g))
bared (signs {t = t} {r = r} {o = o} s e g) =
    let p = start_sign s r t e in
    let q : skip t ≡ sign1 s ∷ r = ap skip p.is ∙ skip_spaces p.n (sign1 s ∷ r) (sign_clear s) in
    bared_alone t (on_got (one s) o) (signs s (ap start q ∙ sign_starts s 0 r p.apart) g)
bared (nones e) = tt
bared (ends {t = t} {r = r} {e = e} g) = bared_whole 0 t (gap e r) (ends (bared g))
bared (fails g) = tt
bared (firsts {t = t} {o = o} {l = l} g h) = bared_whole (suc l) t o (firsts (bared g) h)
bared (sinks g) = tt
bared (stops q) = tt
bared (agains p z g h) = tt
bared (breaks p z g) = tt

-- ---- operands

digit_look : (most v : ℕ) (w r : List ℕ) → Decimal most v w → is_decimal (look (w ++ r)) ≡ true
digit_look most v [] r d = absurd (omega (arith, d.some))
digit_look most v (c ∷ w) r d = (first_digit c w d.digits).0

plain_read : (n : ℕ) (w : List ℕ) → Decimal 2147483647 n w → Complete 0 (num (pos n)) w
unfolding start
plain_read n [] d v e = absurd (omega (arith, d.some))
plain_read n (c ∷ w) d v e =
    leafs {t = c ∷ (w ++ v)} {o = got (num (pos n)) v}
    (rw (class_digit c (first_digit c w d.digits).0)
    (ap (λ x. leaf (on_got (λ v. num (pos v)) x)) (digits_all 2147483647 0 (c ∷ w) v d.digits (omega (arith, d.is, d.within)) e
    ∙ ap (λ x. got x v) d.is)))

minus_read : (n : ℕ) (w : List ℕ) → Decimal 2147483648 n w → Complete 0 (num (neg_ℤ (pos n))) (45 ∷ w)
unfolding start class_of
minus_read n w d v e =
    leafs {t = 45 ∷ (w ++ v)} {o = got (num (neg_ℤ (pos n))) v}
    (rw (digit_look 2147483648 n w v d)
    (ap (λ x. leaf (on_got (λ v. num (neg_ℤ (pos v))) x)) (digits_all 2147483648 0 w v d.digits (omega (arith, d.is, d.within)) e
    ∙ ap (λ x. got x v) d.is)))

name_read : (n : ℕ) (w v : List ℕ) → length w ≡ 5 → Decimal 32767 n w → fixed 32767 5 0 (w ++ v) ≡ got n v
name_read n w v l d = fixed_all 32767 5 0 w v d.digits (omega (arith, d.is, d.within)) l ∙ ap (λ x. got x v) d.is

sign_read : (o : Op1) (m n : ℕ) (e : Expr) (t : List ℕ) → touches o (spaces n ++ t) ≡ false → Exp 0 e t → Complete 0 e t
    → Complete 0 (one o e) (spaces m ++ (sign1 o ∷ (spaces n ++ t)))
sign_read o m n e t q x ih v k =
    let y : List ℕ = (spaces n ++ t) ++ v in
    let s : skip y ≡ skip (t ++ v) = ap skip (append_assoc (spaces n) t v) ∙ skip_over n (t ++ v) in
    subst (λ z. Goes alone z (got (one o e) v)) (sym (append_assoc (spaces m) (sign1 o ∷ (spaces n ++ t)) v))
    (signs {o = got e v} o (sign_starts o m y (touch_look o (spaces n ++ t) y (same n) q))
    (subst (λ z. Goes alone z (got e v)) (sym s) (bared (ih v k))))
  where
    same : (n : ℕ) → look (spaces n ++ t) ≡ look ((spaces n ++ t) ++ v)
    same zero = sym (head_look x v)
    same (suc m) = refl

paren_read : (e : Expr) (t : List ℕ) → Complete 5 e t → Complete 0 e (40 ∷ (t ++ (41 ∷ [])))
unfolding infix_of
paren_read e t ih v k =
    subst (λ y. Goes alone (40 ∷ y) (got e v)) (sym (append_assoc t (41 ∷ []) v))
    (opens {o = got e (41 ∷ v)} (paren_starts (t ++ (41 ∷ v)))
    (ih 0 (41 ∷ v) (got e (41 ∷ v)) (λ k h. refl) (record { digit = refl; space = refl; follows = inl refl }) (stops refl)))

-- ---- chains

-- where nothing follows that binds as tight, an expression of level l is read whole
gap_none : (e : Expr) (n : ℕ) (v : List ℕ) → Clear n v → gap e (spaces n ++ v) ≡ got e v
gap_none e zero v c = rw c.space (ap (λ x. got e x) (skip_spaces 0 v c.space))
gap_none e (suc n) v c = on c.follows
  where
    s : skip (spaces (suc n) ++ v) ≡ v
    s = skip_spaces (suc n) v c.space

    on : (suc n ≡ 0) ⊎ HasOp v → gap e (spaces (suc n) ++ v) ≡ got e v
    on (inl h) = absurd (omega arith)
    on (inr h) =
        ap (λ x. cond (not (is_some (infix_of (look x)))) (stuck x) (got e x)) s
        ∙ ap (λ b. cond (not b) (stuck v) (got e v)) h

to_whole : (l : ℕ) (e : Expr) (w : List ℕ) → Complete l e w → (n : ℕ) (v : List ℕ) → Below (suc l) v → Clear n v
    → Goes (whole l) (w ++ (spaces n ++ v)) (got e v)
to_whole zero e w ih n v b c = subst (λ x. Goes (whole 0) (w ++ (spaces n ++ v)) x) (gap_none e n v c) (ends (ih (spaces n ++ v) (clear n)))
  where
    clear : (n : ℕ) → is_decimal (look (spaces n ++ v)) ≡ false
    clear zero = c.digit
    clear (suc n) = refl
to_whole (suc l) e w ih n v b c = ih n v (got e v) (λ k h. b k (omega arith)) c (stops (b (suc l) (omega arith)))

sign_digit : (o : Op2) → is_decimal (sign2 o) ≡ false
sign_digit Plus = refl
sign_digit Minus = refl
sign_digit Times = refl
sign_digit Divide = refl
sign_digit Xor = refl
sign_digit And = refl
sign_digit Or = refl

sign_space : (o : Op2) → eqb (sign2 o) 32 ≡ false
sign_space Plus = refl
sign_space Minus = refl
sign_space Times = refl
sign_space Divide = refl
sign_space Xor = refl
sign_space And = refl
sign_space Or = refl

joined_read : (l : ℕ) (o : Op2) (m n : ℕ) (e d : Expr) (s t : List ℕ) → level_of o ≡ suc l → Complete (suc l) e s → Complete l d t
    → Complete (suc l) (two o e d) (s ++ (spaces m ++ (sign2 o ∷ (spaces n ++ t))))
joined_read l o m n e d s t h ih jh k v out b c g =
    let y : List ℕ = t ++ (spaces k ++ v) in
    let z : skip (spaces n ++ y) ≡ skip y = skip_over n y in
    subst (λ y. Goes (whole (suc l)) y out) (sym (four s (spaces m) (spaces n) t (spaces k ++ v)))
    (ih m (sign2 o ∷ (spaces n ++ y)) out (λ j q. op_other j o (λ p. omega arith))
    (record { digit = sign_digit o; space = sign_space o; follows = inr (ap is_some (infix_sign o)) })
    (agains {q = v} {d = d} o (op_at_lem (suc l) o h) (subst (λ y. Goes (whole l) y (got d v)) (sym z) (bared (to_whole l d t jh k v b c)))
    g))
  where
    four : (s a b c v : List ℕ) → (s ++ (a ++ (sign2 o ∷ (b ++ c)))) ++ v ≡ s ++ (a ++ (sign2 o ∷ (b ++ (c ++ v))))
    four s a b c v = simp append_assoc

pub complete : {l : ℕ} {e : Expr} {w : List ℕ} → Exp l e w → Complete l e w
complete (number (reading.plain {v = n} {t = t} d)) = plain_read n t d
complete (number (reading.minus {v = n} {t = t} d)) = minus_read n t d
complete (named (reading.global {n = n} {t = t} l d)) = λ v k. leafs (start_global (t ++ v)
    ∙ ap (λ x. leaf (on_got (λ n. name n) x)) (name_read n t v l d))
complete (named (reading.local {n = n} {t = t} l d)) =
    λ v k. leafs (start_local (t ++ v) ∙ ap (λ x. leaf (on_got (λ n. name (0x8000 + n)) x)) (name_read n t v l d))
complete (signed {e = e} {t = t} o m n q x) = sign_read o m n e t q x (complete x)
complete (parens {e = e} {t = t} x) = paren_read e t (complete x)
complete (tighter {l = l} {e = e} {t = t} x) = λ n v o b c g. firsts (to_whole l e t (complete x) n v b c) g
complete (joined {l = l} {e = e} {d = d} {s = s} {t = t} o m n h x y) = joined_read l o m n e d s t h (complete x) (complete y)

-- ---- a whole expression, where something follows that is no digit, no space and no operator

pub record Stop (v : List ℕ) : Type 0 where
  pub digit : is_decimal (look v) ≡ false
  pub space : eqb (look v) 32 ≡ false
  pub operator : infix_of (look v) ≡ none

pub read_whole : {e : Expr} {w : List ℕ} → Exp 5 e w → (v : List ℕ) → Stop v → Goes (whole 5) (w ++ v) (got e v)
read_whole {e} {w} x v s =
    complete x 0 v (got e v) (λ k h. rw s.operator) (record { digit = s.digit; space = s.space; follows = inl refl })
    (stops (rw s.operator))

stop_end : Stop []
unfolding infix_of
stop_end = record { digit = refl; space = refl; operator = refl }

-- "each accepted line has one reading", for expressions
pub one_reading : {e d : Expr} {w : List ℕ} → Exp 5 e w → Exp 5 d w → e ≡ d
one_reading {e} {d} {w} x y =
    let same : got e [] ≡ got d [] = determined (read_whole x [] stop_end) (got d []) (read_whole y [] stop_end) in
    cc
