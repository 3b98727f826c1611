-- How the reader goes is right: what it takes is an expression of the grammar, where it gets stuck some expression begins with what it
-- took, and it does the same on every text that begins with what it took and looks alike behind it. Assumes nothing.
use mathlib.Core.Path.{◌≡◌, refl, sym, ap, ◌∙◌, subst}
use mathlib.Core.Logic.{◌⊎◌, inl, inr}
use mathlib.Core.List.{List, [], ◌∷◌, ◌++◌, append_assoc, append-nil}
use mathlib.Core.Option.{none}
use mathlib.Core.Bool.{Bool, true, false, ◌&&◌, cond, not}
use Prim.Native.Nat.{ℕ, zero, suc}
use lib.Dec.{eqb, lit≤}
use lib.IntN.{pos}
use lib.ListN.{drop}
use borrow.Author.Tests.{eqb-true, not-false}
use Rattle.laws.specs.Lists.{every}
use Rattle.laws.proofs.Tests.{clash}
use Rattle.rules.specs.declared.Op1.{Op1}
use Rattle.rules.specs.declared.Op1.TheVariants.{Negate, Upper, Lower}
use Rattle.rules.specs.declared.Op2.{Op2}
use Rattle.rules.specs.declared.Op2.TheVariants.{Or}
use Rattle.rules.specs.Expressions.{Expr, num, two, one}
use Rattle.text.specs.Text.{sign1, sign2}
use Rattle.grammar.specs.Reading as reading
use Rattle.grammar.specs.Reading.{look, spaces, touches, level_of, Exp, number, signed, parens, tighter, joined, worth}
use Rattle.grammar.specs.Going.{Read, got, stuck, on_got, nothing, start, skip, infix_of, op_at, is_some, close, Mode, alone, whole, rest, Goes, leafs, opens, signs, nones, ends, fails, firsts, sinks, stops, agains, breaks}
use Rattle.grammar.proofs.Takes.{Took, idle, push, pull, turn, after}
use Rattle.grammar.proofs.Starts.{Can, FineLeaf, fine_leaf, sign_starts, start_sign, paren_starts, start_paren, start_nothing}
use Rattle.grammar.proofs.Spaces.{spaced, leading, trailed, operator, op_at_lem, head_look}

-- ---- what is meant

abbrev pub HasOp : List ℕ → Type 0
HasOp r = is_some (infix_of (look r)) ≡ true

-- an expression and spaces behind it, which an operator follows if there are any
pub record Trails (l : ℕ) (e : Expr) (r w : List ℕ) : Type 0 where
  pub text : List ℕ
  pub n : ℕ
  pub is : w ≡ text ++ spaces n
  pub good : Exp l e text
  pub follows : (n ≡ 0) ⊎ HasOp r

-- the front of an expression of level l; or a whole one and spaces behind it
pub data Ahead (l : ℕ) (w : List ℕ) : Type 0 where
  inside : Can l w → Ahead l w
  behind : (e : Expr) (text : List ℕ) (n : ℕ) → w ≡ text ++ spaces n → Exp l e text → Ahead l w

abbrev pub Fine : Mode → List ℕ → Read Expr → Type 0
Fine alone t (got e r) = Took t r (λ w. Exp 0 e w) (λ x u. Goes alone x (got e u))
Fine alone t (stuck r) = Took t r (λ w. Can 0 w) (λ x u. Goes alone x (stuck u))
Fine (whole l) t (got e r) = Took t r (λ w. Trails l e r w) (λ x u. Goes (whole l) x (got e u))
Fine (whole l) t (stuck r) = Took t r (λ w. Ahead l w) (λ x u. Goes (whole l) x (stuck u))
Fine (rest l d) t (got e r) =
    Took t r (λ w. (s : List ℕ) (n : ℕ) → Exp (suc l) d s → (n ≡ 0) ⊎ HasOp t
    → Trails (suc l) e r (s ++ (spaces n ++ w))) (λ x u. Goes (rest l d) x (got e u))
Fine (rest l d) t (stuck r) =
    Took t r (λ w. (s : List ℕ) (n : ℕ) → Exp (suc l) d s → Ahead (suc l) (s ++ (spaces n ++ w))) (λ x u. Goes (rest l d) x (stuck u))

-- ---- completions

pub nought : Exp 0 (num (pos 0)) (48 ∷ [])
unfolding every worth
nought = number (reading.plain (record { some = lit≤ tt; digits = refl; is = refl; within = lit≤ tt }))

pub lift5 : {e : Expr} {t : List ℕ} → Exp 0 e t → Exp 5 e t
lift5 x = tighter (tighter (tighter (tighter (tighter x))))

pub bracketed : Exp 0 (num (pos 0)) (40 ∷ (48 ∷ (41 ∷ [])))
bracketed = parens (lift5 nought)

-- what was read so far can be gone on with to an expression of the lowest level
pub can_5 : (w : List ℕ) → Ahead 5 w → Can 5 w
can_5 w (inside c) = c
can_5 w (behind e text n p x) =
    record {
      more = 124 ∷ (48 ∷ []);
      tree = two Or e (num (pos 0));
      good =
          subst (λ y. Exp 5 (two Or e (num (pos 0))) y) (sym (ap (λ y. y ++ (124 ∷ (48 ∷ []))) p
          ∙ append_assoc text (spaces n) (124 ∷ (48 ∷ []))))
          (joined Or n 0 refl x (tighter (tighter (tighter (tighter nought)))));
    }

pub trails_ahead : (l : ℕ) (e : Expr) (r w : List ℕ) → Trails l e r w → Ahead l w
trails_ahead l e r w a = behind e a.text a.n a.is a.good

in_brackets : (w : List ℕ) → Can 5 w → Can 0 (40 ∷ w)
in_brackets w c =
    record {
      more = c.more ++ (41 ∷ []);
      tree = c.tree;
      good = subst (λ y. Exp 0 c.tree (40 ∷ y)) (append_assoc w c.more (41 ∷ [])) (parens c.good);
    }

lift_ahead : (l : ℕ) (w : List ℕ) → Ahead l w → Ahead (suc l) w
lift_ahead l w (inside c) = inside (record { more = c.more; tree = c.tree; good = tighter c.good })
lift_ahead l w (behind e text n p x) = behind e text n p (tighter x)

-- ---- an operand alone

leaf_fine : (t : List ℕ) (o : Read Expr) → FineLeaf t o → Fine alone t o
leaf_fine t (got e r) a = turn t r a (λ w s p. p) (λ w u s k g. leafs g)
leaf_fine t (stuck r) a = turn t r a (λ w s p. p) (λ w u s k g. leafs g)

-- parentheses

no_close : (r : List ℕ) → eqb (look r) 41 ≡ true → HasOp r → ◌≡◌ {A = ℕ} 0 1
unfolding infix_of
no_close r q h = let e : false ≡ true = subst (λ c. is_some (infix_of c) ≡ true) (eqb-true (look r) 41 q) h in cc

closes : (x : List ℕ) (e : Expr) (r : List ℕ) (b : Bool) → eqb (look r) 41 ≡ b → Fine (whole 5) x (got e r)
    → Fine alone (40 ∷ x) (cond b (got e (drop 1 r)) (stuck r))
closes x e [] true q a = clash (cc)
closes x e (c ∷ z) true q a =
    pull c (40 ∷ x) z (push {Q = λ w. (v : List ℕ) × ((w ≡ 40 ∷ v) × Exp 5 e v)} {H = λ y u. Goes alone y (close (got e u))} 40 x (c ∷ z) a
    (λ w s m. (w, (refl, bare w m))) (λ y u k k' g. opens (paren_starts y) g))
    (λ w m. closed w m.0 m.1.0 m.1.1) (λ y u g. subst (λ b. Goes alone y (cond b (got e u) (stuck (c ∷ u)))) q g)
  where
    f : c ≡ 41
    f = eqb-true c 41 q

    bare : (w : List ℕ) → Trails 5 e (c ∷ z) w → Exp 5 e w
    bare w m = on m.follows
      where
        on : (m.n ≡ 0) ⊎ HasOp (c ∷ z) → Exp 5 e w
        on (inl h) = subst (λ y. Exp 5 e y) (sym (m.is ∙ ap (λ k. m.text ++ spaces k) h ∙ append-nil m.text)) m.good
        on (inr h) = clash (no_close (c ∷ z) q h)

    closed : (w v : List ℕ) → w ≡ 40 ∷ v → Exp 5 e v → Exp 0 e (w ++ (c ∷ []))
    closed w v p g = subst (λ y. Exp 0 e (y ++ (c ∷ []))) (sym p) (subst (λ y. Exp 0 e (40 ∷ (v ++ (y ∷ [])))) (sym f) (parens g))
closes x e r false q a =
    push 40 x r a (λ w s m. in_brackets w (can_5 w (trails_ahead 5 e r w m)))
    (λ y u k k' g. subst (λ b. Goes alone (40 ∷ y) (cond b (got e (drop 1 u)) (stuck u))) (ap (λ c. eqb c 41) (sym k')
    ∙ q) (opens (paren_starts y) g))

open_fine : (x : List ℕ) (o : Read Expr) → Fine (whole 5) x o → Fine alone (40 ∷ x) (close o)
open_fine x (got e r) a = closes x e r (eqb (look r) 41) refl a
open_fine x (stuck r) a = push 40 x r a (λ w s m. in_brackets w (can_5 w m)) (λ y u k k' g. opens (paren_starts y) g)

-- signs

pub touch_look : (s : Op1) (x y : List ℕ) → look x ≡ look y → touches s x ≡ false → touches s y ≡ false
touch_look Negate x y k e = ap reading.is_decimal (sym k) ∙ e
touch_look Upper x y k e = refl
touch_look Lower x y k e = refl

sign_goes : (s : Op1) (x y : List ℕ) (o : Read Expr) → touches s x ≡ false → look x ≡ look y → Goes alone (skip y) o → (m : ℕ)
    → Goes alone (spaces m ++ (sign1 s ∷ y)) (on_got (one s) o)
sign_goes s x y o e k g m = signs s (sign_starts s m y (touch_look s x y k e)) g

sign_fine : (s : Op1) (m : ℕ) (x : List ℕ) → touches s x ≡ false → (o : Read Expr) → Fine alone (skip x) o
    → Fine alone (spaces m ++ (sign1 s ∷ x)) (on_got (one s) o)
sign_fine s m x e (got d r) a =
    leading {P = λ w. Exp 0 (one s d) w} {G = λ y u. Goes alone y (got (one s d) u)} m (sign1 s ∷ x) r
    (push {G = λ y u. Goes alone (skip y) (got d u)} (sign1 s) x r
    (spaced {Q = λ w. (n : ℕ) × ((v : List ℕ) × ((w ≡ spaces n ++ v) × Exp 0 d v))} {H = λ y u. Goes alone (skip y) (got d u)} x r a
    (λ n w q p. (n, (w, (refl, p)))) (λ y u k k' g. g))
    (λ w q p. means w p.0 p.1.0 q p.1.1.0 p.1.1.1) (λ y u k k' g. sign_goes s x y (got d u) e k g m))
  where
    means : (w : List ℕ) (n : ℕ) (v : List ℕ) → x ≡ w ++ r → w ≡ spaces n ++ v → Exp 0 d v → Exp 0 (one s d) (spaces m ++ (sign1 s ∷ w))
    means w n v q p g =
        subst (λ y. Exp 0 (one s d) (spaces m ++ (sign1 s ∷ y))) (sym p)
        (signed s m n (touch_look s x (spaces n ++ v) (ap look (q ∙ ap (λ y. y ++ r) p) ∙ same n) e) g)
      where
        same : (n : ℕ) → look ((spaces n ++ v) ++ r) ≡ look (spaces n ++ v)
        same zero = head_look g r
        same (suc m) = refl
sign_fine s m x e (stuck r) a =
    leading {P = λ w. Can 0 w} {G = λ y u. Goes alone y (stuck u)} m (sign1 s ∷ x) r
    (push {G = λ y u. Goes alone (skip y) (stuck u)} (sign1 s) x r
    (spaced {Q = λ w. (n : ℕ) × ((v : List ℕ) × ((w ≡ spaces n ++ v) × Can 0 v))} {H = λ y u. Goes alone (skip y) (stuck u)} x r a
    (λ n w q p. (n, (w, (refl, p)))) (λ y u k k' g. g))
    (λ w q p. subst (λ y. Can 0 (spaces m ++ (sign1 s ∷ y))) (sym p.1.1.0) (means p.0 p.1.0 (q ∙ ap (λ y. y ++ r) p.1.1.0) p.1.1.1))
    (λ y u k k' g. sign_goes s x y (stuck u) e k g m))
  where
    spared : (s : Op1) → touches s (40 ∷ (48 ∷ (41 ∷ []))) ≡ false
    spared Negate = refl
    spared Upper = refl
    spared Lower = refl

    grouped : (a b v c : List ℕ) (o : ℕ) → (a ++ (o ∷ (b ++ v))) ++ c ≡ a ++ (o ∷ (b ++ (v ++ c)))
    grouped a b v c o = simp append_assoc

    further : (n : ℕ) (v more : List ℕ) (tree : Expr) → Exp 0 tree (v ++ more) → touches s (spaces n ++ (v ++ more)) ≡ false
        → Can 0 (spaces m ++ (sign1 s ∷ (spaces n ++ v)))
    further n v more tree g q =
        record {
          more = more;
          tree = one s tree;
          good = subst (λ y. Exp 0 (one s tree) y) (sym (grouped (spaces m) (spaces n) v more (sign1 s))) (signed s m n q g);
        }

    means : (n : ℕ) (v : List ℕ) → x ≡ (spaces n ++ v) ++ r → Can 0 v → Can 0 (spaces m ++ (sign1 s ∷ (spaces n ++ v)))
    means zero [] q c = further 0 [] (40 ∷ (48 ∷ (41 ∷ []))) (num (pos 0)) bracketed (spared s)
    means zero (b ∷ v) q c = further 0 (b ∷ v) c.more c.tree c.good (touch_look s x (b ∷ (v ++ c.more)) (ap look q) e)
    means (suc n) v q c = further (suc n) v c.more c.tree c.good (touch_look s x (spaces (suc n) ++ (v ++ c.more)) (ap look q) e)

-- nothing that an operand begins with: behind spaces a sign could stand, and behind them and a minus a space
blank_can : (w : List ℕ) (n : ℕ) → (w ≡ spaces n) ⊎ (w ≡ spaces n ++ (45 ∷ [])) → Can 0 w
blank_can w n (inl p) = subst (λ y. Can 0 y) (sym p)
    (record { more = 62 ∷ (48 ∷ []); tree = one Upper (num (pos 0)); good = signed Upper n 0 refl nought })
blank_can w n (inr p) =
    subst (λ y. Can 0 y) (sym p)
    (record {
      more = 32 ∷ (48 ∷ []);
      tree = one Negate (num (pos 0));
      good = subst (λ y. Exp 0 (one Negate (num (pos 0))) y) (sym (append_assoc (spaces n) (45 ∷ []) (32 ∷ (48 ∷ []))))
          (signed Negate n 1 refl nought);
    })

none_fine : (t r : List ℕ) → start t ≡ nothing r → Fine alone t (stuck r)
none_fine t r e = turn t r (start_nothing t r e) (λ w s p. blank_can w p.0 p.1) (λ w u s k g. nones g)

-- ---- the spaces behind an operand

abbrev tested : List ℕ → List ℕ → Bool
tested r q = eqb (look r) 32 && not (is_some (infix_of (look q)))

gap_fine : (t : List ℕ) (e : Expr) (r : List ℕ) → Fine alone t (got e r) → (b : Bool) → tested r (skip r) ≡ b
    → Fine (whole 0) t (cond b (stuck (skip r)) (got e (skip r)))
gap_fine t e r a b q = on b q
  where
    goes : (b : Bool) → tested r (skip r) ≡ b → (x y u : List ℕ) → look r ≡ look y → look (skip r) ≡ look u → skip y ≡ u
        → Goes alone x (got e y)
        → Goes (whole 0) x (cond b (stuck u) (got e u))
    goes b q x y u k m s g =
        subst (λ b. Goes (whole 0) x (cond b (stuck u) (got e u))) (ap (λ c. eqb c 32 && not (is_some (infix_of (look u)))) (sym k)
        ∙ ap (λ c. eqb (look r) 32 && not (is_some (infix_of c))) (sym m) ∙ q)
        (subst (λ v. Goes (whole 0) x (cond (tested y v) (stuck v) (got e v))) s (ends g))

    on : (b : Bool) → tested r (skip r) ≡ b → Fine (whole 0) t (cond b (stuck (skip r)) (got e (skip r)))
    on true q = trailed t r a (λ w n s p. behind e w n refl p) (goes true q)
    on false q = trailed t r a (λ w n s p. record { text = w; n = n; is = refl; good = p; follows = follows n s }) (goes false q)
      where
        follows : (n : ℕ) → r ≡ spaces n ++ skip r → (n ≡ 0) ⊎ HasOp (skip r)
        follows zero s = inl refl
        follows (suc n) s = inr (not-false (is_some (infix_of (look (skip r))))
            (subst (λ c. eqb c 32 && not (is_some (infix_of (look (skip r)))) ≡ false) (ap look s) q))

-- ---- chains

-- an expression of level l, and what follows it in a chain of level l + 1
chain_fine : (l : ℕ) (t : List ℕ) (e : Expr) (r : List ℕ) (o : Read Expr) → Fine (whole l) t (got e r) → Fine (rest l e) r o
    → Fine (whole (suc l)) t o
chain_fine l t e r (got d q) a b =
    after t r q a b
    (λ w v s m f.
    subst (λ y. Trails (suc l) d q y) (sym (ap (λ y. y ++ v) m.is ∙ append_assoc m.text (spaces m.n) v))
    (f m.text m.n (tighter m.good) m.follows))
    (λ x y u k k' g h. firsts g h)
chain_fine l t e r (stuck q) a b =
    after t r q a b
    (λ w v s m f.
    subst (λ y. Ahead (suc l) y) (sym (ap (λ y. y ++ v) m.is ∙ append_assoc m.text (spaces m.n) v)) (f m.text m.n (tighter m.good)))
    (λ x y u k k' g h. firsts g h)

stop_fine : (l : ℕ) (e : Expr) (r : List ℕ) → op_at (suc l) (look r) ≡ none → Fine (rest l e) r (got e r)
stop_fine l e r q =
    idle r (λ s n x f. record { text = s; n = n; is = ap (λ y. s ++ y) (append-nil (spaces n)); good = x; follows = f })
    (λ u k. stops (ap (λ c. op_at (suc l) c) (sym k) ∙ q))

-- an operator and its right operand, then the rest: the text of all of it, put together in two ways
regroup : (s a b c d v : List ℕ) (o : ℕ) → (s ++ (a ++ (o ∷ (b ++ c)))) ++ (d ++ v) ≡ s ++ (a ++ (o ∷ (b ++ ((c ++ d) ++ v))))
regroup s a b c d v o = simp append_assoc

again_fine : (l : ℕ) (p : Op2) (e : Expr) (x : List ℕ) (d : Expr) (q : List ℕ) (o : Read Expr) → level_of p ≡ suc l
    → Fine (whole l) (skip x) (got d q)
    → Fine (rest l (two p e d)) q o → Fine (rest l e) (sign2 p ∷ x) o
again_fine l p e x d q (got e' r) h a b =
    push (sign2 p) x r
    (spaced {Q = λ w. (m : ℕ)
    × ((v : List ℕ) × ((w ≡ spaces m ++ v) × ((s : List ℕ) (n k : ℕ) → Exp (suc l) e s
    → Trails (suc l) e' r (s ++ (spaces n ++ (sign2 p ∷ (spaces k ++ v)))))))}
    {H = λ y u. (z : List ℕ) × (Goes (whole l) (skip y) (got d z) × Goes (rest l (two p e d)) z (got e' u))} x r
    (after {R = λ w. (s : List ℕ) (n m : ℕ) → Exp (suc l) e s → Trails (suc l) e' r (s ++ (spaces n ++ (sign2 p ∷ (spaces m ++ w))))}
    {I = λ y u. (z : List ℕ) × (Goes (whole l) y (got d z) × Goes (rest l (two p e d)) z (got e' u))} (skip x) q r a b
    (λ w v z t f s n m g.
    subst (λ y. Trails (suc l) e' r y)
    (regroup s (spaces n) (spaces m) t.text (spaces t.n) v (sign2 p)
    ∙ ap (λ y. s ++ (spaces n ++ (sign2 p ∷ (spaces m ++ (y ++ v))))) (sym t.is))
    (f (s ++ (spaces n ++ (sign2 p ∷ (spaces m ++ t.text)))) t.n (joined p n m h g t.good) t.follows))
    (λ y z u k k' g g'. (z, (g, g'))))
    (λ m w z f. (m, (w, (refl, f)))) (λ y u k k' g. g))
    (λ w z m. λ s n g f. subst (λ y. Trails (suc l) e' r (s ++ (spaces n ++ (sign2 p ∷ y)))) (sym m.1.1.0) (m.1.1.1 s n m.0 g))
    (λ y u k k' g. agains p (op_at_lem (suc l) p h) g.1.0 g.1.1)
again_fine l p e x d q (stuck r) h a b =
    push (sign2 p) x r
    (spaced {Q = λ w. (m : ℕ)
    × ((v : List ℕ) × ((w ≡ spaces m ++ v) × ((s : List ℕ) (n k : ℕ) → Exp (suc l) e s
    → Ahead (suc l) (s ++ (spaces n ++ (sign2 p ∷ (spaces k ++ v)))))))}
    {H = λ y u. (z : List ℕ) × (Goes (whole l) (skip y) (got d z) × Goes (rest l (two p e d)) z (stuck u))} x r
    (after {R = λ w. (s : List ℕ) (n m : ℕ) → Exp (suc l) e s → Ahead (suc l) (s ++ (spaces n ++ (sign2 p ∷ (spaces m ++ w))))}
    {I = λ y u. (z : List ℕ) × (Goes (whole l) y (got d z) × Goes (rest l (two p e d)) z (stuck u))} (skip x) q r a b
    (λ w v z t f s n m g.
    subst (λ y. Ahead (suc l) y)
    (regroup s (spaces n) (spaces m) t.text (spaces t.n) v (sign2 p)
    ∙ ap (λ y. s ++ (spaces n ++ (sign2 p ∷ (spaces m ++ (y ++ v))))) (sym t.is))
    (f (s ++ (spaces n ++ (sign2 p ∷ (spaces m ++ t.text)))) t.n (joined p n m h g t.good)))
    (λ y z u k k' g g'. (z, (g, g'))))
    (λ m w z f. (m, (w, (refl, f)))) (λ y u k k' g. g))
    (λ w z m. λ s n g. subst (λ y. Ahead (suc l) (s ++ (spaces n ++ (sign2 p ∷ y)))) (sym m.1.1.0) (m.1.1.1 s n m.0 g))
    (λ y u k k' g. agains p (op_at_lem (suc l) p h) g.1.0 g.1.1)

break_fine : (l : ℕ) (p : Op2) (e : Expr) (x q : List ℕ) → level_of p ≡ suc l → Fine (whole l) (skip x) (stuck q)
    → Fine (rest l e) (sign2 p ∷ x) (stuck q)
break_fine l p e x q h a =
    push (sign2 p) x q
    (spaced {Q = λ w. (m : ℕ) × ((v : List ℕ) × ((w ≡ spaces m ++ v) × Ahead l v))} {H = λ y u. Goes (whole l) (skip y) (stuck u)} x q a
    (λ m w z f. (m, (w, (refl, f)))) (λ y u k k' g. g))
    (λ w z m. λ s n g. subst (λ y. Ahead (suc l) (s ++ (spaces n ++ (sign2 p ∷ y)))) (sym m.1.1.0) (ahead s n m.0 m.1.0 g m.1.1.1))
    (λ y u k k' g. breaks p (op_at_lem (suc l) p h) g)
  where
    three : (s a b c v : List ℕ) (o : ℕ) → (s ++ (a ++ (o ∷ (b ++ c)))) ++ v ≡ s ++ (a ++ (o ∷ (b ++ (c ++ v))))
    three s a b c v o = simp append_assoc

    ahead : (s : List ℕ) (n m : ℕ) (v : List ℕ) → Exp (suc l) e s → Ahead l v
        → Ahead (suc l) (s ++ (spaces n ++ (sign2 p ∷ (spaces m ++ v))))
    ahead s n m v g (inside c) =
        inside
        (record {
          more = c.more;
          tree = two p e c.tree;
          good = subst (λ y. Exp (suc l) (two p e c.tree) y) (sym (three s (spaces n) (spaces m) v c.more (sign2 p)))
              (joined p n m h g c.good);
        })
    ahead s n m v g (behind d text k z x) =
        behind (two p e d) (s ++ (spaces n ++ (sign2 p ∷ (spaces m ++ text)))) k
        (ap (λ y. s ++ (spaces n ++ (sign2 p ∷ (spaces m ++ y)))) z ∙ sym (three s (spaces n) (spaces m) text (spaces k) (sign2 p)))
        (joined p n m h g x)

-- ---- the whole

pub fine : {m : Mode} {t : List ℕ} {o : Read Expr} → Goes m t o → Fine m t o
fine (leafs {t = t} {o = o} e) = leaf_fine t o (fine_leaf t o e)
fine (opens {t = t} {o = o} e g) =
    let p = start_paren t e in
    subst (λ y. Fine alone y (close o)) (sym p.1) (open_fine p.0 o (subst (λ y. Fine (whole 5) (drop 1 y) o) p.1 (fine g)))
fine (signs {t = t} {r = r} {o = o} s e g) =
    let p = start_sign s r t e in
    subst (λ y. Fine alone y (on_got (one s) o)) (sym p.is) (sign_fine s p.n r p.apart o (fine g))
fine (nones {t = t} {r = r} e) = none_fine t r e
fine (ends {t = t} {r = r} {e = e} g) = gap_fine t e r (fine g) (tested r (skip r)) refl
fine (fails {t = t} {r = r} g) = turn t r (fine g) (λ w s c. inside c) (λ w u s k g. fails g)
fine (firsts {t = t} {r = r} {e = e} {o = o} {l = l} g h) = chain_fine l t e r o (fine g) (fine h)
fine (sinks {t = t} {r = r} {l = l} g) = turn t r (fine g) (λ w s c. lift_ahead l w c) (λ w u s k g. sinks g)
fine (stops {r = r} {e = e} {l = l} q) = stop_fine l e r q
fine (agains {r = r} {q = q} {e = e} {d = d} {l = l} {o = o} p z g h) =
    let x = operator (suc l) p r z in
    subst (λ y. Fine (rest l e) y o) (sym x.is)
    (again_fine l p e x.tail d q o x.level (subst (λ y. Fine (whole l) (skip (drop 1 y)) (got d q)) x.is (fine g)) (fine h))
fine (breaks {r = r} {q = q} {e = e} {l = l} p z g) =
    let x = operator (suc l) p r z in
    subst (λ y. Fine (rest l e) y (stuck q)) (sym x.is)
    (break_fine l p e x.tail q x.level (subst (λ y. Fine (whole l) (skip (drop 1 y)) (stuck q)) x.is (fine g)))
