-- What an operand begins with, and the operands that are numbers and names. Assumes nothing.
use mathlib.Core.Path.{◌≡◌, refl, sym, ap, ◌∙◌, subst}
use mathlib.Core.Logic.{◌⊎◌, inl, inr}
use mathlib.Core.List.{List, [], ◌∷◌, ◌++◌, append_assoc, append-nil}
use mathlib.Core.Bool.{Bool, true, false, cond}
use Prim.Native.Nat.{ℕ, zero, suc, ◌+◌, ◌-◌, ◌*◌, ◌≤◌}
use native.Mathlib.Omega.{arith}
use lib.Dec.{leb, eqb, lit≤}
use lib.IntN.{pos, neg_ℤ}
use lib.ListN.{length, replicate}
use borrow.Author.Tests.{leb-true, le-leb, eqb-true}
use Rattle.laws.proofs.Tests.{clash, and_true}
use Rattle.rules.specs.declared.Op1.{Op1}
use Rattle.rules.specs.declared.Op1.TheVariants.{Negate, Upper, Lower}
use Rattle.rules.specs.Expressions.{Expr, num, name}
use Rattle.grammar.specs.Reading.{is_decimal, worth, look, Decimal, plain, minus, global, local, touches, spaces, Exp, number, named}
use Rattle.text.specs.Text.{sign1}
use Rattle.grammar.specs.Going as going
use Rattle.grammar.specs.Going.{Read, got, stuck, on_got, digits, fixed, Class, class_of, leaf, paren, sign, nothing, led, start_by, start, skip}
use Rattle.grammar.proofs.Classes.{Is, class_is, class_digit, FineLed, fine_led}
use Rattle.grammar.proofs.Takes.{Took, idle, push}
use Rattle.grammar.proofs.Digits.{AllDigits, more_digits, digits_step, FineDigits, fine_digits, FineFixed, fine_fixed, zeros_digits, zeros_worth}
use Rattle.grammar.proofs.Spaces.{skip_spaces, blanks, spaced, sign_clear}

-- ---- leaves

-- some expression of level l begins so
pub record Can (l : ℕ) (w : List ℕ) : Type 0 where
  pub more : List ℕ
  pub tree : Expr
  pub good : Exp l tree (w ++ more)

abbrev pub FineLeaf : List ℕ → Read Expr → Type 0
FineLeaf t (got e r) = Took t r (λ w. Exp 0 e w) (λ x u. start x ≡ leaf (got e u))
FineLeaf t (stuck r) = Took t r (λ w. Can 0 w) (λ x u. start x ≡ leaf (stuck u))

abbrev next : ℕ → ℕ → ℕ
next v d = 10 * v + (d - 48)

digit_small : (d : ℕ) → is_decimal d ≡ true → next 0 d ≤ 9
digit_small d e = omega (arith, leb-true d 57 (and_true (leb 48 d) (leb d 57) e).1)

module _ (pre : List ℕ) (d : ℕ) (s : List ℕ) (most : ℕ) (f : ℕ → Expr) (p : is_decimal d ≡ true)
    (means : (v : ℕ) (w : List ℕ) → Decimal most v w → Exp 0 (f v) (pre ++ w))
    (starts : (x : List ℕ) → start (pre ++ (d ∷ x)) ≡ leaf (on_got f (digits most (next 0 d) x))) where
  joins : (w u : List ℕ) → (pre ++ (d ∷ w)) ++ u ≡ pre ++ (d ∷ (w ++ u))
  joins w u = append_assoc pre (d ∷ w) u

  whole_number : (v : ℕ) (w : List ℕ) → AllDigits w → worth (next 0 d) w ≡ v → v ≤ most → Decimal most v (d ∷ w)
  unfolding worth
  whole_number v w a b h = record { some = omega arith; digits = more_digits d w p a; is = b; within = h }

  number_leaf : (o : Read ℕ) → FineDigits most (next 0 d) s o → FineLeaf (pre ++ (d ∷ s)) (on_got f o)
  number_leaf (got v r) a =
      record {
        w = pre ++ (d ∷ a.w);
        split = ap (λ x. pre ++ (d ∷ x)) a.split ∙ sym (joins a.w r);
        means = means v (d ∷ a.w) (whole_number v a.w a.means.0 a.means.1.0 a.means.1.1);
        alike = λ u k. ap start (joins a.w u) ∙ starts (a.w ++ u) ∙ ap (λ x. leaf (on_got f x)) (a.alike u k);
      }
  number_leaf (stuck r) a =
      record {
        w = pre ++ (d ∷ a.w);
        split = ap (λ x. pre ++ (d ∷ x)) a.split ∙ sym (joins a.w r);
        means =
            record {
              more = [];
              tree = f (worth (next 0 d) a.w);
              good =
                  subst (λ x. Exp 0 (f (worth (next 0 d) a.w)) x) (sym (append-nil (pre ++ (d ∷ a.w))))
                  (means (worth (next 0 d) a.w) (d ∷ a.w) (whole_number (worth (next 0 d) a.w) a.w a.means.0 refl a.means.1));
            };
        alike = λ u k. ap start (joins a.w u) ∙ starts (a.w ++ u) ∙ ap (λ x. leaf (on_got f x)) (a.alike u k);
      }

module _ (pre s : List ℕ) (f : ℕ → Expr) (means : (n : ℕ) (w : List ℕ) → length w ≡ 5 → Decimal 32767 n w → Exp 0 (f n) (pre ++ w))
    (starts : (x : List ℕ) → start (pre ++ x) ≡ leaf (on_got f (fixed 32767 5 0 x))) where
  name_leaf : (o : Read ℕ) → FineFixed 32767 5 0 s o → FineLeaf (pre ++ s) (on_got f o)
  name_leaf (got n r) a =
      let m = a.means in
      record {
        w = pre ++ a.w;
        split = ap (λ x. pre ++ x) a.split ∙ sym (append_assoc pre a.w r);
        means = means n a.w m.size (record { some = omega (arith, m.size); digits = m.digits; is = m.is; within = m.within });
        alike = λ u k. ap start (append_assoc pre a.w u) ∙ starts (a.w ++ u) ∙ ap (λ x. leaf (on_got f x)) (a.alike u k);
      }
  name_leaf (stuck r) a =
      let m = a.means in
      let x : List ℕ = a.w ++ m.more in
      record {
        w = pre ++ a.w;
        split = ap (λ y. pre ++ y) a.split ∙ sym (append_assoc pre a.w r);
        means =
            record {
              more = m.more;
              tree = f (worth 0 x);
              good =
                  subst (λ y. Exp 0 (f (worth 0 x)) y) (sym (append_assoc pre a.w m.more))
                  (means (worth 0 x) x m.size (record { some = omega (arith, m.size); digits = m.digits; is = refl; within = m.within }));
            };
        alike = λ u k. ap start (append_assoc pre a.w u) ∙ starts (a.w ++ u) ∙ ap (λ x. leaf (on_got f x)) (a.alike u k);
      }

-- how each kind of leaf starts

pub start_plain : (c : ℕ) (x : List ℕ) → is_decimal c ≡ true
    → start (c ∷ x) ≡ leaf (on_got (λ v. num (pos v)) (digits 2147483647 (next 0 c) x))
unfolding start
start_plain c x e =
    rw (class_digit c e) (ap (λ y. leaf (on_got (λ v. num (pos v)) y))
    (digits_step 2147483647 0 c x e (le-leb (next 0 c) 2147483647 (omega (arith, digit_small c e)))))

pub start_minus : (d : ℕ) (x : List ℕ) → is_decimal d ≡ true
    → start (45 ∷ (d ∷ x)) ≡ leaf (on_got (λ v. num (neg_ℤ (pos v))) (digits 2147483648 (next 0 d) x))
unfolding start class_of
start_minus d x e =
    rw e (ap (λ y. leaf (on_got (λ v. num (neg_ℤ (pos v))) y))
    (digits_step 2147483648 0 d x e (le-leb (next 0 d) 2147483648 (omega (arith, digit_small d e)))))

pub start_global : (x : List ℕ) → start (103 ∷ x) ≡ leaf (on_got (λ n. name n) (fixed 32767 5 0 x))
unfolding start class_of
start_global x = refl

pub start_local : (x : List ℕ) → start (46 ∷ (108 ∷ x)) ≡ leaf (on_got (λ n. name (0x8000 + n)) (fixed 32767 5 0 x))
unfolding start class_of going.local
start_local x = refl

pub start_dot : (u : List ℕ) → eqb (look u) 108 ≡ false → start (46 ∷ u) ≡ leaf (stuck u)
unfolding start class_of going.local
start_dot [] e = refl
start_dot (c ∷ u) e = rw e

leaf_of : (a b : Read Expr) → leaf a ≡ leaf b → a ≡ b
leaf_of a b e = cc

zero_name : Exp 0 (name 0x8000) (46 ∷ (108 ∷ replicate 5 48))
zero_name = named (local refl (record { some = lit≤ tt; digits = zeros_digits 5; is = zeros_worth 5 0; within = lit≤ tt }))

pub fine_leaf : (t : List ℕ) (o : Read Expr) → start t ≡ leaf o → FineLeaf t o
unfolding start going.local
fine_leaf [] o e = clash (cc)
fine_leaf (c ∷ t) o e = by (class_of c) (class_is c) e
  where
    by : (k : Class) → Is c k → start_by k c t ≡ leaf o → FineLeaf (c ∷ t) o
    by going.digit p e =
        let s = digits_step 2147483647 0 c t p (le-leb (next 0 c) 2147483647 (omega (arith, digit_small c p))) in
        subst (λ x. FineLeaf (c ∷ t) x) (ap (λ y. on_got (λ v. num (pos v)) y) (sym s)
        ∙ leaf_of (on_got (λ v. num (pos v)) (digits 2147483647 0 (c ∷ t))) o e)
        (number_leaf [] c t 2147483647 (λ v. num (pos v)) p (λ v w d. number (plain d)) (λ x. start_plain c x p)
        (digits 2147483647 (next 0 c) t)
        (fine_digits 2147483647 (next 0 c) t (omega (arith, digit_small c p))))
    by going.minus p e = subst (λ x. FineLeaf (x ∷ t) o) (sym p) (minus_leaf t e)
      where
        minus_leaf : (t : List ℕ) → start_by going.minus c t ≡ leaf o → FineLeaf (45 ∷ t) o
        minus_leaf [] e = clash (cc)
        minus_leaf (d ∷ x) e = on (is_decimal d) refl e
          where
            f : ℕ → Expr
            f v = num (neg_ℤ (pos v))

            on : (b : Bool) → is_decimal d ≡ b → cond b (leaf (on_got f (digits 2147483648 0 (d ∷ x)))) (sign Negate (d ∷ x)) ≡ leaf o
                → FineLeaf (45 ∷ (d ∷ x)) o
            on true q e =
                let s = digits_step 2147483648 0 d x q (le-leb (next 0 d) 2147483648 (omega (arith, digit_small d q))) in
                subst (λ y. FineLeaf (45 ∷ (d ∷ x)) y) (ap (λ y. on_got f y) (sym s) ∙ leaf_of (on_got f (digits 2147483648 0 (d ∷ x))) o e)
                (number_leaf (45 ∷ []) d x 2147483648 f q (λ v w h. number (minus h)) (λ y. start_minus d y q)
                (digits 2147483648 (next 0 d) x)
                (fine_digits 2147483648 (next 0 d) x (omega (arith, digit_small d q))))
            on false q e = clash (cc)
    by going.global p e =
        subst (λ x. FineLeaf (x ∷ t) o) (sym p)
        (subst (λ y. FineLeaf (103 ∷ t) y) (leaf_of (on_got (λ n. name n) (fixed 32767 5 0 t)) o e)
        (name_leaf (103 ∷ []) t (λ n. name n) (λ n w l d. named (global l d)) (λ x. start_global x) (fixed 32767 5 0 t)
        (fine_fixed 32767 5 0 t (lit≤ tt))))
    by going.dot p e = subst (λ x. FineLeaf (x ∷ t) o) (sym p) (dot_leaf t e)
      where
        stops : (u : List ℕ) → eqb (look u) 108 ≡ false → FineLeaf (46 ∷ u) (stuck u)
        stops u q =
            record {
              w = 46 ∷ [];
              split = refl;
              means = record { more = 108 ∷ replicate 5 48; tree = name 0x8000; good = zero_name };
              alike = λ v k. start_dot v (ap (λ b. eqb b 108) (sym k) ∙ q);
            }

        dot_leaf : (t : List ℕ) → leaf (going.local t) ≡ leaf o → FineLeaf (46 ∷ t) o
        dot_leaf [] e = subst (λ y. FineLeaf (46 ∷ []) y) (leaf_of (stuck []) o e) (stops [] refl)
        dot_leaf (d ∷ x) e = on (eqb d 108) refl e
          where
            f : ℕ → Expr
            f n = name (0x8000 + n)

            on : (b : Bool) → eqb d 108 ≡ b → leaf (cond b (on_got f (fixed 32767 5 0 x)) (stuck (d ∷ x))) ≡ leaf o
                → FineLeaf (46 ∷ (d ∷ x)) o
            on true q e =
                subst (λ y. FineLeaf (46 ∷ (y ∷ x)) o) (sym (eqb-true d 108 q))
                (subst (λ y. FineLeaf (46 ∷ (108 ∷ x)) y) (leaf_of (on_got f (fixed 32767 5 0 x)) o e)
                (name_leaf (46 ∷ 108 ∷ []) x f (λ n w l d. named (local l d)) (λ y. start_local y) (fixed 32767 5 0 x)
                (fine_fixed 32767 5 0 x (lit≤ tt))))
            on false q e = subst (λ y. FineLeaf (46 ∷ (d ∷ x)) y) (leaf_of (stuck (d ∷ x)) o e) (stops (d ∷ x) q)
    by going.bracket p e = clash (cc)
    by going.upper p e = clash (cc)
    by going.lower p e = clash (cc)
    by going.space p e = absurd (subst (λ x. FineLed (skip t) x) e (fine_led (skip t)))
    by going.other p e = clash (cc)

-- ---- signs, parentheses, and what is no operand

pub record Signed (s : Op1) (r t : List ℕ) : Type 0 where
  pub n : ℕ
  pub is : t ≡ spaces n ++ (sign1 s ∷ r)
  pub apart : touches s r ≡ false

pub led_sign : (s : Op1) (x : List ℕ) → touches s x ≡ false → led (sign1 s ∷ x) ≡ sign s x
unfolding led class_of
led_sign Negate x e = rw e
led_sign Upper x e = refl
led_sign Lower x e = refl

pub sign_starts : (s : Op1) (n : ℕ) (x : List ℕ) → touches s x ≡ false → start (spaces n ++ (sign1 s ∷ x)) ≡ sign s x
unfolding start class_of
sign_starts s (suc n) x e = ap led (skip_spaces n (sign1 s ∷ x) (sign_clear s)) ∙ led_sign s x e
sign_starts Negate zero x e = rw e
sign_starts Upper zero x e = refl
sign_starts Lower zero x e = refl

pub start_sign : (s : Op1) (r t : List ℕ) → start t ≡ sign s r → Signed s r t
unfolding start
start_sign s r [] e = clash (cc)
start_sign s r (c ∷ t) e = by (class_of c) (class_is c) e
  where
    sign_of : (o : Op1) → sign o t ≡ sign s r → o ≡ s
    sign_of o e = cc

    text_of : (o : Op1) → sign o t ≡ sign s r → t ≡ r
    text_of o e = cc

    is : (o : Op1) → sign o t ≡ sign s r → c ≡ sign1 o → touches o t ≡ false → Signed s r (c ∷ t)
    is o e p q =
        subst (λ y. Signed y r (c ∷ t)) (sign_of o e)
        (subst (λ y. Signed o y (c ∷ t)) (text_of o e) (record { n = 0; is = ap (λ y. y ∷ t) p; apart = q }))

    by : (k : Class) → Is c k → start_by k c t ≡ sign s r → Signed s r (c ∷ t)
    by going.digit p e = clash (cc)
    by going.minus p e = on (is_decimal (look t)) refl e
      where
        on : (b : Bool) → is_decimal (look t) ≡ b
            → cond b (leaf (on_got (λ v. num (neg_ℤ (pos v))) (digits 2147483648 0 t))) (sign Negate t) ≡ sign s r
            → Signed s r (c ∷ t)
        on true q e = clash (cc)
        on false q e = is Negate e p q
    by going.global p e = clash (cc)
    by going.dot p e = clash (cc)
    by going.bracket p e = clash (cc)
    by going.upper p e = is Upper e p refl
    by going.lower p e = is Lower e p refl
    by going.space p e =
        let f = subst (λ x. FineLed (skip t) x) e (fine_led (skip t)) in
        let b = blanks t in
        record {
          n = suc b.0;
          is = ap (λ y. y ∷ t) p ∙ ap (λ x. 32 ∷ x) (b.1 ∙ ap (λ x. spaces b.0 ++ x) f.0);
          apart = f.1;
        }
    by going.other p e = clash (cc)

pub paren_starts : (x : List ℕ) → start (40 ∷ x) ≡ paren
unfolding start class_of
paren_starts x = refl

pub start_paren : (t : List ℕ) → start t ≡ paren → (x : List ℕ) × (t ≡ 40 ∷ x)
unfolding start
start_paren [] e = clash (cc)
start_paren (c ∷ t) e = by (class_of c) (class_is c) e
  where
    by : (k : Class) → Is c k → start_by k c t ≡ paren → (x : List ℕ) × (c ∷ t ≡ 40 ∷ x)
    by going.digit p e = clash (cc)
    by going.minus p e = on (is_decimal (look t)) e
      where
        on : (b : Bool) → cond b (leaf (on_got (λ v. num (neg_ℤ (pos v))) (digits 2147483648 0 t))) (sign Negate t) ≡ paren
            → (x : List ℕ) × (c ∷ t ≡ 40 ∷ x)
        on true e = clash (cc)
        on false e = clash (cc)
    by going.global p e = clash (cc)
    by going.dot p e = clash (cc)
    by going.bracket p e = (t, ap (λ y. y ∷ t) p)
    by going.upper p e = clash (cc)
    by going.lower p e = clash (cc)
    by going.space p e = absurd (subst (λ x. FineLed (skip t) x) e (fine_led (skip t)))
    by going.other p e = clash (cc)

-- where no operand starts: spaces were taken, or spaces and a minus
abbrev pub Blank : List ℕ → Type 0
Blank w = (n : ℕ) × ((w ≡ spaces n) ⊎ (w ≡ spaces n ++ (45 ∷ [])))

pub start_nothing : (t r : List ℕ) → start t ≡ nothing r → Took t r (λ w. Blank w) (λ x u. start x ≡ nothing u)
unfolding start class_of
start_nothing [] r e = subst (λ y. Took [] y (λ w. Blank w) (λ x u. start x ≡ nothing u)) (text_of e)
    (idle [] (0, inl refl) (λ u k. at u k))
  where
    text_of : nothing [] ≡ nothing r → [] ≡ r
    text_of e = cc

    at : (u : List ℕ) → 0 ≡ look u → start u ≡ nothing u
    at [] e = refl
    at (d ∷ x) e = ap (λ y. start_by (class_of y) d x) (sym e)
start_nothing (c ∷ t) r e = by (class_of c) refl (class_is c) e
  where
    by : (k : Class) → class_of c ≡ k → Is c k → start_by k c t ≡ nothing r → Took (c ∷ t) r (λ w. Blank w) (λ x u. start x ≡ nothing u)
    by going.digit p i e = clash (cc)
    by going.minus p i e = on (is_decimal (look t)) e
      where
        on : (b : Bool) → cond b (leaf (on_got (λ v. num (neg_ℤ (pos v))) (digits 2147483648 0 t))) (sign Negate t) ≡ nothing r
            → Took (c ∷ t) r (λ w. Blank w) (λ x u. start x ≡ nothing u)
        on true e = clash (cc)
        on false e = clash (cc)
    by going.global p i e = clash (cc)
    by going.dot p i e = clash (cc)
    by going.bracket p i e = clash (cc)
    by going.upper p i e = clash (cc)
    by going.lower p i e = clash (cc)
    by going.space p i e =
        subst (λ y. Took (y ∷ t) r (λ w. Blank w) (λ x u. start x ≡ nothing u)) (sym i)
        (push {Q = λ w. Blank w} {G = λ y u. led (skip y) ≡ nothing u} {H = λ x u. start x ≡ nothing u} 32 t r
        (spaced {Q = λ w. Blank w} {H = λ y u. led (skip y) ≡ nothing u} t r (subst (λ x. FineLed (skip t) x) e (fine_led (skip t)))
        (λ n w q m. blank n w m) (λ y u k k' g. g))
        (λ w q m. further w m.0 m.1) (λ y u k k' g. g))
      where
        blank : (n : ℕ) (w : List ℕ) → (w ≡ []) ⊎ (w ≡ 45 ∷ []) → Blank (spaces n ++ w)
        blank n w (inl q) = (n, inl (ap (λ x. spaces n ++ x) q ∙ append-nil (spaces n)))
        blank n w (inr q) = (n, inr (ap (λ x. spaces n ++ x) q))

        further : (w : List ℕ) (n : ℕ) → (w ≡ spaces n) ⊎ (w ≡ spaces n ++ (45 ∷ [])) → Blank (32 ∷ w)
        further w n (inl q) = (suc n, inl (ap (λ x. 32 ∷ x) q))
        further w n (inr q) = (suc n, inr (ap (λ x. 32 ∷ x) q))
    by going.other p i e = subst (λ y. Took (c ∷ t) y (λ w. Blank w) (λ x u. start x ≡ nothing u)) (text_of e)
        (idle (c ∷ t) (0, inl refl) (λ u k. at u k))
      where
        text_of : nothing (c ∷ t) ≡ nothing r → c ∷ t ≡ r
        text_of e = cc

        at : (u : List ℕ) → c ≡ look u → start u ≡ nothing u
        at [] e = refl
        at (d ∷ x) e = ap (λ y. start_by y d x) (ap class_of (sym e) ∙ p)
