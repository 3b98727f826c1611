-- What a step of the rewriting has to show of two machines, and what both folds share: dropped slots, targets that lead outside, the label that a branch names.
use mathlib.Core.Path.{◌≡◌, refl, sym, ◌∙◌, ap}
use mathlib.Core.Logic.{◌⊎◌, inl, inr, ⊎_elim}
use mathlib.Core.List.{List, [], ◌∷◌}
use mathlib.Core.Bool.{Bool, true, false, ◌&&◌, not, cond, ◌||◌}
use Prim.Native.Nat.{ℕ, ◌≤◌}
use native.Mathlib.Omega.{arith}
use lib.Dec.{leb, ltb, eqb}
use lib.ListN.{set}
use lib.Seq.{get_or-set_other}
use borrow.Author.Tests.{eq-eqb, ne_eqb, le-leb, lt-ltb, not-true}
use Rattle.laws.specs.Lists.{every}
use Rattle.laws.proofs.Tests.{clash, eq_or_not, lt_or_le, both_ways, and_true, and_both}
use Rattle.laws.proofs.Lists.{every_any}
use Rattle.laws.proofs.Stores.{set_default}
use Rattle.rules.specs.Expressions.{name}
use Rattle.rules.specs.Programs.{Operand, register, value, inner, Stmt, gone, instr, label, Program, at, args_of, last_of}
use Rattle.rules.specs.Names.{context_at, key_of}
use Rattle.rules.specs.Rewriting.{of_inner, every_inner_label, no_inner_label_between, drop_all}
use Rattle.walk.proofs.Machines.{Machine, go}
use Rattle.walk.proofs.Folds.{Close, close_same, close_trans, Folded, forth, back}
use Rattle.walk.proofs.Resolves.{Lands, named, anchored, Resolved, label_once}

-- ---- dropped slots
abbrev pub is_in : ℕ → List ℕ → Bool
is_in n [] = false
is_in n (i ∷ is) = eqb n i || is_in n is

set_gone : (p : Program) (i n : ℕ) → at (set p i gone) n ≡ cond (eqb n i) gone (at p n)
set_gone p i n = ⊎_elim (λ (e : n ≡ i). rw (e, eq-eqb i i refl) (set_default p i gone)) (λ ne. rw (ne_eqb n i ne) (get_or-set_other p i n gone gone ne)) (eq_or_not n i)

pub at_drop : (l : List ℕ) (p : Program) (n : ℕ) → at (drop_all l p) n ≡ cond (is_in n l) gone (at p n)
unfolding drop_all
at_drop [] p n = refl
at_drop (i ∷ is) p n = at_drop is (set p i gone) n ∙ rw (set_gone p i n) (mix (eqb n i) (is_in n is))
  where
    mix : (a b : Bool) → cond b gone (cond a gone (at p n)) ≡ cond (a || b) gone (at p n)
    mix true true = refl
    mix true false = refl
    mix false b = refl

-- ---- no inner label between: a target that is one leads outside
pub every_last : (f : Operand → Bool) (xs : List Operand) → f (register 0) ≡ true → every f xs ≡ true → f (last_of xs) ≡ true
unfolding every
every_last f [] z h = z
every_last f (x ∷ []) z h = (and_true (f x) true h).0
every_last f (x ∷ y ∷ xs) z h = every_last f (y ∷ xs) z (and_true (f x) (every f (y ∷ xs)) h).1

pub inner_outside : (p : Program) (i v : ℕ) → no_inner_label_between p i v ≡ true → (n f c : ℕ) (xs : List Operand) (d : ℕ) → at p n ≡ instr f xs c → last_of xs ≡ inner d 0 → (d ≤ i) ⊎ (v ≤ d)
unfolding no_inner_label_between every_inner_label
inner_outside p i v h n f c xs d s t = ⊎_elim (λ a. ⊎_elim (λ b. both_ways (ltb i d && leb d v) (and_both (ltb i d) (leb d v) (lt-ltb i d a) (le-leb d v (omega arith))) (not-true _ passes)) (λ b. inr b) (lt_or_le d v)) (λ a. inl a) (lt_or_le i d)
  where
    free : Operand → Bool
    free = of_inner (λ owner o. not (ltb i owner && leb owner v))

    all : every (of_inner (λ owner o. not (ltb i owner && leb owner v))) xs ≡ true
    all =
        ap (λ (s : Stmt). every (of_inner (λ owner o. not (ltb i owner && leb owner v))) (args_of s)) (sym s)
        ∙ every_any (λ s. every (of_inner (λ owner o. not (ltb i owner && leb owner v))) (args_of s)) p n gone (unfold every in refl) h

    passes : not (ltb i d && leb d v) ≡ true
    passes = ap (of_inner (λ owner o. not (ltb i owner && leb owner v))) (sym t) ∙ every_last (of_inner (λ owner o. not (ltb i owner && leb owner v))) xs refl all

-- ---- what is promised of a step
pub record Alike (m m' : Machine) : Type 0 where
  pub no_more : (n : ℕ) (ts : List Bool) → (n' : ℕ) × (n' ≤ n) × Close (go n' m' 0 ts) (go n m 0 ts)
  pub no_fewer : (n : ℕ) (ts : List Bool) → (n' : ℕ) × (n ≤ n') × (go n m' 0 ts ≡ go n' m 0 ts)

pub alike_same : (m : Machine) → Alike m m
alike_same m = record { no_more = λ n ts. (n, omega arith, close_same _ _ refl); no_fewer = λ n ts. (n, omega arith, refl) }

pub alike_trans : (a b c : Machine) → Alike a b → Alike b c → Alike a c
alike_trans a b c f g =
    record {
      no_more = λ n ts. let x = f.no_more n ts in let y = g.no_more x.0 ts in (y.0, omega arith, close_trans _ _ _ y.2 x.2);
      no_fewer = λ n ts. let y = g.no_fewer n ts in let x = f.no_fewer y.0 ts in (x.0, omega arith, y.2 ∙ x.2);
    }

pub folded_alike : (m m' : Machine) (i v : ℕ) → Folded m m' i v → Alike m m'
folded_alike m m' i v f = record { no_more = λ n ts. forth m m' i v f n 0 (inl (omega arith)) ts; no_fewer = λ n ts. back m m' i v f n 0 (inl (omega arith)) ts }

-- the label that a branch names, met in its context
pub branch_lands : {p : Program} {m : Machine} → Resolved p m → (n a t : ℕ) (x : Operand) (d : ℕ) → Lands p (context_at p n) x d → x ≡ value (name t) → at p a ≡ label t → context_at p a ≡ context_at p n → d ≡ a
branch_lands {p} r n a t x d (named {n = l} e z) h s k =
    let same : l ≡ t = cc in
    label_once r d a t (e ∙ ap label same) s (ap (λ (y : ℕ). key_of (context_at p d) y) (sym same) ∙ z ∙ ap (λ (y : ℕ). key_of (context_at p n) y) same ∙ ap (λ (y : ℕ). key_of y t) (sym k))
branch_lands r n a t x d anchored h s k = clash (cc)
