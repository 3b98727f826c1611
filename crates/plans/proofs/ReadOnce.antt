-- Every text of a plan is read, and in one way only; where the reader gets stuck is the column, and there is one. Assumes nothing.
use mathlib.Core.Path.{◌≡◌, refl, sym, ap, ◌∙◌, subst}
use mathlib.Core.List.{List, [], ◌∷◌, ◌++◌, append_assoc}
use mathlib.Core.Bool.{Bool, true, false}
use Prim.Native.Nat.{ℕ, zero, suc, ◌+◌, ◌-◌, ◌≤◌, ◌<◌}
use native.Mathlib.Omega.{arith}
use lib.Dec.{leb}
use lib.ListN.{length, take, drop, length-append, take-append-drop}
use lib.Seq.{take_at, take-take}
use borrow.Author.Tests.{leb-true, leb-false}
use Rattle.laws.proofs.Tests.{clash, both_ways}
use Rattle.rules.specs.Expressions.{Expr}
use Rattle.rules.specs.Programs.{Stmt}
use Rattle.rules.specs.declared.Op1.{Op1}
use Rattle.rules.specs.declared.Op1.TheVariants.{Negate, Upper, Lower}
use Rattle.text.specs.Text.{sign1, sign2}
use Rattle.grammar.specs.Reading as reading
use Rattle.grammar.specs.Reading.{is_decimal, look, spaces, Decimal, Exp}
use Rattle.grammar.specs.Going as going
use Rattle.grammar.specs.Going.{Read, got, stuck}
use Rattle.plans.specs.Plans as plans
use Rattle.plans.specs.Plans.{Plan, expression, Alike, same, Reads, Walks, Alive}
use Rattle.grammar.proofs.Digits.{first_digit, digits_all, fixed_all}
use Rattle.grammar.proofs.Classes.{class_digit}
use Rattle.grammar.proofs.Determined.{determined}
use Rattle.grammar.proofs.Complete.{read_whole}
use Rattle.plans.proofs.Planned.{behind_stop, fork_next, fine_walk, Begun, Lost}

-- ---- every text of the plan is read

pub digit_head : (most n : ℕ) (w v : List ℕ) → Decimal most n w → is_decimal (look (w ++ v)) ≡ true
digit_head most n [] v d = absurd (omega (arith, d.some))
digit_head most n (c ∷ w) v d = (first_digit c w d.digits).0

-- no expression begins with a byte of no class
exp_class : {l : ℕ} {e : Expr} {w : List ℕ} → Exp l e w → (v : List ℕ) → going.class_of (look (w ++ v)) ≡ going.other → ◌≡◌ {A = ℕ} 0 1
unfolding going.class_of
exp_class (reading.number (reading.plain {v = n} {t = t} d)) v q = let z = class_digit (look (t ++ v)) (digit_head 2147483647 n t v d) in cc
exp_class (reading.number (reading.minus d)) v q = cc
exp_class (reading.named (reading.global l d)) v q = cc
exp_class (reading.named (reading.local l d)) v q = cc
exp_class (reading.signed {t = t} o m n z x) v q = on m o q
  where
    on : (m : ℕ) (o : Op1) → going.class_of (look ((spaces m ++ (sign1 o ∷ (spaces n ++ t))) ++ v)) ≡ going.other → ◌≡◌ {A = ℕ} 0 1
    on (suc m) o q = cc
    on zero Negate q = cc
    on zero Upper q = cc
    on zero Lower q = cc
exp_class (reading.parens x) v q = cc
exp_class (reading.tighter x) v q = exp_class x v q
exp_class (reading.joined {s = s} {t = t} o m n z x y) v q =
    let w : List ℕ = spaces m ++ (sign2 o ∷ (spaces n ++ t)) in
    exp_class x (w ++ v) (ap (λ r. going.class_of (look r)) (sym (append_assoc s w v)) ∙ q)

no_mark : (ok : ℕ → Bool) (t : List ℕ) → ((c : ℕ) → ok c ≡ true → going.class_of c ≡ going.other)
    → (going.class_of (look t) ≡ going.other → ◌≡◌ {A = ℕ} 0 1) → ok (look t) ≡ false
no_mark ok t f h = on (ok (look t)) refl
  where
    on : (b : Bool) → ok (look t) ≡ b → b ≡ false
    on true p = clash (h (f (look t) p))
    on false p = refl

pub complete_walk : {P : Plan} {s : Stmt} {t : List ℕ} → Reads P s t → Alive P → Walks P t (got s [])
unfolding Alive
complete_walk plans.last a = plans.last
complete_walk plans.ends a = plans.ended
complete_walk (plans.byte {end = end} {ok = ok} {f = f} {c = c} p g) a = plans.steps p (complete_walk g (fork_next end ok f a c p))
complete_walk (plans.tree {s = s} {f = f} {e = e} {v = v} x g) a =
    plans.tree (read_whole x v (behind_stop (f e) (a e).0 s v g)) (complete_walk g (a e).1)
complete_walk (plans.value {s = s} {most = most} {n = n} {f = f} {w = w} {v = v} d g) a =
    let q = behind_stop (f n) (a.1 n).0 s v g in
    plans.value (digit_head most n w v d)
    (digits_all most 0 w v d.digits (omega (arith, d.is, d.within)) q.digit ∙ ap (λ x. got x v) d.is) (complete_walk g (a.1 n).1)
complete_walk (plans.digits {n = n} {f = f} {w = w} {v = v} l d g) a =
    plans.digits (fixed_all 32767 5 0 w v d.digits (omega (arith, d.is, d.within)) l ∙ ap (λ x. got x v) d.is) (complete_walk g (a n))
complete_walk (plans.marked {ok = ok} {c = c} p g) a = plans.marked p (complete_walk g (a.1.0 c p))
complete_walk (plans.bare {s = s} {ok = ok} {f = f} {e = e} {w = w} {v = v} x g) a =
    plans.bare (no_mark ok (w ++ v) a.0.0 (exp_class x v)) (read_whole x v (behind_stop (f e) (a.1.1 e).0 s v g))
    (complete_walk g (a.1.1 e).1)
complete_walk (plans.finished e) a = plans.finishes e

-- ---- in one way only

pub single : {P : Plan} {t : List ℕ} {o : Read Stmt} → Walks P t o → (x : Read Stmt) → Walks P t x → o ≡ x
single plans.last x plans.last = refl
single plans.over x plans.over = refl
single plans.ended x plans.ended = refl
single plans.short x plans.short = refl
single (plans.steps p g) x (plans.steps q h) = single g x h
single (plans.steps {ok = ok} {c = c} p g) x (plans.wrong q) = both_ways (ok c) p q
single (plans.wrong {ok = ok} {c = c} p) x (plans.steps q h) = both_ways (ok c) q p
single (plans.wrong p) x (plans.wrong q) = refl
single (plans.tree {f = f} {e = e} {r = r} {o = o} g h) x (plans.tree {e = d} {r = q} g' h') =
    single h x (subst (λ y. On y) (sym (determined g (got d q) g')) h')
  where
    On : Read Expr → Type 0
    On (got e r) = Walks (f e) r x
    On (stuck r) = Unit
single (plans.tree {e = e} {r = r} g h) x (plans.treeless {r = q} g') = let z = determined g (stuck q) g' in clash (cc)
single (plans.treeless {r = r} g) x (plans.tree {e = d} {r = q} g' h') = let z = determined g (got d q) g' in clash (cc)
single (plans.treeless g) x (plans.treeless {r = q} g') = let z = determined g (stuck q) g' in cc
single (plans.value {f = f} {n = n} {r = r} p e g) x (plans.value {n = m} {r = q} p' e' g') = single g x (subst (λ y. On y) (sym e' ∙ e) g')
  where
    On : Read ℕ → Type 0
    On (got n r) = Walks (f n) r x
    On (stuck r) = Unit
single (plans.value p e g) x (plans.large p' e') = let z = sym e ∙ e' in clash (cc)
single (plans.value {t = t} p e g) x (plans.valueless p') = both_ways (is_decimal (look t)) p p'
single (plans.large p e) x (plans.value p' e' g') = let z = sym e ∙ e' in clash (cc)
single (plans.large p e) x (plans.large p' e') = let z = sym e ∙ e' in cc
single (plans.large {t = t} p e) x (plans.valueless p') = both_ways (is_decimal (look t)) p p'
single (plans.valueless {t = t} p) x (plans.value p' e' g') = both_ways (is_decimal (look t)) p' p
single (plans.valueless {t = t} p) x (plans.large p' e') = both_ways (is_decimal (look t)) p' p
single (plans.valueless p) x (plans.valueless p') = refl
single (plans.digits {f = f} e g) x (plans.digits e' g') = single g x (subst (λ y. On y) (sym e' ∙ e) g')
  where
    On : Read ℕ → Type 0
    On (got n r) = Walks (f n) r x
    On (stuck r) = Unit
single (plans.digits e g) x (plans.nameless e') = let z = sym e ∙ e' in clash (cc)
single (plans.nameless e) x (plans.digits e' g') = let z = sym e ∙ e' in clash (cc)
single (plans.nameless e) x (plans.nameless e') = let z = sym e ∙ e' in cc
single (plans.marked p g) x (plans.marked q h) = single g x h
single (plans.marked {ok = ok} {c = c} p g) x (plans.bare q g' h') = both_ways (ok c) p q
single (plans.marked {ok = ok} {c = c} p g) x (plans.bareless q g') = both_ways (ok c) p q
single (plans.bare q g h) x (plans.marked {ok = ok} {c = c} p h') = both_ways (ok c) p q
single (plans.bare {f = f} {e = e} {r = r} q g h) x (plans.bare {e = d} {r = z} q' g' h') =
    single h x (subst (λ y. On y) (sym (determined g (got d z) g')) h')
  where
    On : Read Expr → Type 0
    On (got e r) = Walks (f e) r x
    On (stuck r) = Unit
single (plans.bare {e = e} {r = r} q g h) x (plans.bareless {r = z} q' g') = let y = determined g (stuck z) g' in clash (cc)
single (plans.bareless q g) x (plans.marked {ok = ok} {c = c} p h') = both_ways (ok c) p q
single (plans.bareless {r = r} q g) x (plans.bare {e = d} {r = z} q' g' h') = let y = determined g (got d z) g' in clash (cc)
single (plans.bareless q g) x (plans.bareless {r = z} q' g') = let y = determined g (stuck z) g' in cc
single (plans.finishes e) x (plans.finishes e') = sym e ∙ e'

-- "each accepted line has one reading"
pub one_line : (P : Plan) → Alive P → (s r : Stmt) (t : List ℕ) → Reads P s t → Reads P r t → s ≡ r
one_line P a s r t g h = let z = single (complete_walk g a) (got r []) (complete_walk h a) in cc

-- ---- "the column from 0 of the first byte that no good line could have there, or of the line's end"

pub record Wrong (P : Plan) (t : List ℕ) (c : ℕ) : Type 0 where
  pub within : c ≤ length t
  pub before : Begun P (take c t)
  pub there : c < length t → Begun P (take (suc c) t) → ⊥
  pub ends : c ≡ length t → (s : Stmt) → Reads P s t → ⊥

stuck_got : {X : Type 0} (s : Stmt) (r q : List ℕ) → ◌≡◌ {A = Read Stmt} (stuck r) (got s q) → X
stuck_got s r q e = clash (cc)

none_there : (P : Plan) → Alive P → (t w r : List ℕ) → t ≡ w ++ r → ((u : List ℕ) → Alike r u → Walks P (w ++ u) (stuck u))
    → length w < length t
    → Begun P (take (suc (length w)) t) → ⊥
none_there P a t w [] e f h b = omega (arith, ap length e, length-append w [])
none_there P a t w (c ∷ r) e f h b =
    let one : take (suc (length w)) t ≡ w ++ (c ∷ []) =
    ap (λ x. take (suc (length w)) x) (e ∙ sym (append_assoc w (c ∷ []) r))
    ∙ take_at (w ++ (c ∷ [])) r (suc (length w)) (length-append w (c ∷ []) ∙ plus_one (length w)) in
    let g : Reads P b.line (w ++ (c ∷ b.more)) = subst (λ x. Reads P b.line x) (ap (λ x. x ++ b.more) one
    ∙ append_assoc w (c ∷ []) b.more) b.good in
    stuck_got b.line (c ∷ b.more) [] (single (f (c ∷ b.more) same) (got b.line []) (complete_walk g a))
  where
    plus_one : (n : ℕ) → n + 1 ≡ suc n
    plus_one n = omega arith

-- where the reader is stuck is the column
pub stuck_is : (P : Plan) → Alive P → (t r : List ℕ) → Walks P t (stuck r) → Wrong P t (length t - length r)
stuck_is P a t r g =
    let l : Lost P t r = fine_walk g a in
    let size : length t ≡ length l.w + length r = ap length l.split ∙ length-append l.w r in
    let at : length l.w ≡ length t - length r = omega arith in
    subst (λ c. Wrong P t c) at
    (record {
      within = omega arith;
      before = subst (λ x. Begun P x) (sym (ap (λ x. take (length l.w) x) l.split ∙ take_at l.w r (length l.w) refl)) l.begun;
      there = none_there P a t l.w r l.split l.alike;
      ends = λ h s z. stuck_got s r [] (single g (got s []) (complete_walk z a));
    })

-- there is one such column
begun_less : (P : Plan) (t : List ℕ) (c d : ℕ) → c ≤ d → Begun P (take d t) → Begun P (take c t)
begun_less P t c d h b =
    let e : take d t ≡ take c t ++ drop c (take d t) = sym (take-append-drop c (take d t))
    ∙ ap (λ x. x ++ drop c (take d t)) (take-take c d t h) in
    record {
      more = drop c (take d t) ++ b.more;
      line = b.line;
      good = subst (λ x. Reads P b.line x) (ap (λ x. x ++ b.more) e ∙ append_assoc (take c t) (drop c (take d t)) b.more) b.good;
    }

pub one_column : (P : Plan) (t : List ℕ) (c d : ℕ) → Wrong P t c → Wrong P t d → c ≡ d
one_column P t c d x y = on (leb c d) refl (leb d c) refl
  where
    less : (c d : ℕ) → Wrong P t c → Wrong P t d → c < d → ⊥
    less c d x y h = x.there (omega (arith, y.within)) (begun_less P t (suc c) d h y.before)

    on : (p : Bool) → leb c d ≡ p → (q : Bool) → leb d c ≡ q → c ≡ d
    on true e true f = omega (arith, leb-true c d e, leb-true d c f)
    on true e false f = absurd (less c d x y (leb-false d c f))
    on false e q f = absurd (less d c y x (leb-false c d e))
