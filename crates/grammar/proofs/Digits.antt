-- Numbers and names: what their readers take, and that they take every number and every name in range. Assumes nothing.
use mathlib.Core.Path.{◌≡◌, refl, sym, ap, ◌∙◌}
use mathlib.Core.List.{List, [], ◌∷◌, ◌++◌}
use mathlib.Core.Bool.{Bool, true, false, ◌&&◌, cond}
use Prim.Native.Nat.{ℕ, zero, suc, ◌+◌, ◌-◌, ◌*◌, ◌≤◌}
use native.Mathlib.Omega.{arith}
use lib.Dec.{leb}
use lib.ListN.{length, replicate, length-replicate}
use borrow.Author.Tests.{leb-true, le-leb}
use Rattle.laws.specs.Lists.{every}
use Rattle.laws.proofs.Tests.{false_true, and_true, and_both}
use Rattle.grammar.specs.Reading.{is_decimal, worth, look}
use Rattle.grammar.specs.Going.{Read, got, stuck, digits, fixed}
use Rattle.text.specs.Text.{tens}
use Rattle.grammar.proofs.Takes.{Took, idle}

abbrev pub AllDigits : List ℕ → Type 0
AllDigits t = every (λ c. is_decimal c) t ≡ true

pub more_digits : (d : ℕ) (w : List ℕ) → is_decimal d ≡ true → AllDigits w → AllDigits (d ∷ w)
unfolding every
more_digits d w p q = and_both (is_decimal d) (every (λ c. is_decimal c) w) p q

pub first_digit : (d : ℕ) (w : List ℕ) → AllDigits (d ∷ w) → (is_decimal d ≡ true) × AllDigits w
unfolding every
first_digit d w q = and_true (is_decimal d) (every (λ c. is_decimal c) w) q

-- ---- any number of digits

abbrev next : ℕ → ℕ → ℕ
next v d = 10 * v + (d - 48)

pub digits_stop : (most v : ℕ) (u : List ℕ) → is_decimal (look u) ≡ false → digits most v u ≡ got v u
unfolding digits
digits_stop most v [] e = refl
digits_stop most v (d ∷ t) e = rw e

pub digits_step : (most v d : ℕ) (t : List ℕ) → is_decimal d ≡ true → leb (next v d) most ≡ true
    → digits most v (d ∷ t) ≡ digits most (next v d) t
unfolding digits
digits_step most v d t e f = rw (e, f)

pub digits_over : (most v d : ℕ) (u : List ℕ) → is_decimal d ≡ true → leb (next v d) most ≡ false → d ≡ look u → digits most v u ≡ stuck u
unfolding digits
digits_over most v d [] e f g = false_true (rw g at e)
digits_over most v d (c ∷ t) e f g = rw (rw g at e, rw g at f)

abbrev pub FineDigits : (most v : ℕ) → List ℕ → Read ℕ → Type 0
FineDigits most v t (got n r) = Took t r (λ w. AllDigits w × ((worth v w ≡ n) × (n ≤ most))) (λ x u. digits most v x ≡ got n u)
FineDigits most v t (stuck r) = Took t r (λ w. AllDigits w × (worth v w ≤ most)) (λ x u. digits most v x ≡ stuck u)

push_digit : (most v d : ℕ) (t : List ℕ) → is_decimal d ≡ true → leb (next v d) most ≡ true → (o : Read ℕ) → FineDigits most (next v d) t o
    → FineDigits most v (d ∷ t) o
unfolding worth
push_digit most v d t p q (got n r) a =
    record {
      w = d ∷ a.w;
      split = ap (λ x. d ∷ x) a.split;
      means = (more_digits d a.w p a.means.0, a.means.1);
      alike = λ u k. digits_step most v d (a.w ++ u) p q ∙ a.alike u k;
    }
push_digit most v d t p q (stuck r) a =
    record {
      w = d ∷ a.w;
      split = ap (λ x. d ∷ x) a.split;
      means = (more_digits d a.w p a.means.0, a.means.1);
      alike = λ u k. digits_step most v d (a.w ++ u) p q ∙ a.alike u k;
    }

pub fine_digits : (most v : ℕ) (t : List ℕ) → v ≤ most → FineDigits most v t (digits most v t)
unfolding digits worth every
fine_digits most v [] h = idle [] (refl, (refl, h)) (λ u k. digits_stop most v u (ap is_decimal (sym k)))
fine_digits most v (d ∷ t) h = on (is_decimal d) refl (leb (next v d) most) refl (λ k. fine_digits most (next v d) t k)
  where
    on : (b : Bool) → is_decimal d ≡ b → (c : Bool) → leb (next v d) most ≡ c
        → (next v d ≤ most → FineDigits most (next v d) t (digits most (next v d) t))
        → FineDigits most v (d ∷ t) (cond b (cond c (digits most (next v d) t) (stuck (d ∷ t))) (got v (d ∷ t)))
    on true p true q ih = push_digit most v d t p q (digits most (next v d) t) (ih (leb-true (next v d) most q))
    on true p false q ih = idle (d ∷ t) (refl, h) (λ u k. digits_over most v d u p q k)
    on false p c q ih = idle (d ∷ t) (refl, (refl, h)) (λ u k. digits_stop most v u (ap is_decimal (sym k) ∙ p))

-- a number never falls by more digits
pub worth_up : (v : ℕ) (t : List ℕ) → v ≤ worth v t
unfolding worth
worth_up v [] = omega arith
worth_up v (d ∷ t) = omega (arith, worth_up (next v d) t)

pub digits_all : (most v : ℕ) (w r : List ℕ) → AllDigits w → worth v w ≤ most → is_decimal (look r) ≡ false
    → digits most v (w ++ r) ≡ got (worth v w) r
unfolding worth
digits_all most v [] r p h e = digits_stop most v r e
digits_all most v (d ∷ w) r p h e =
    let q = first_digit d w p in
    digits_step most v d (w ++ r) q.0 (le-leb (next v d) most (omega (arith, worth_up (next v d) w)))
    ∙ digits_all most (next v d) w r q.1 h e

-- ---- a fixed number of digits

pub zeros_worth : (k v : ℕ) → worth v (replicate k 48) ≡ v * tens k
unfolding worth
zeros_worth zero v = omega arith
zeros_worth (suc k) v = zeros_worth k (next v 48) ∙ grow v (tens k)
  where
    grow : (a b : ℕ) → (10 * a + 0) * b ≡ a * (10 * b)
    grow a b = omega arith

pub zeros_digits : (k : ℕ) → AllDigits (replicate k 48)
unfolding every
zeros_digits zero = refl
zeros_digits (suc k) = zeros_digits k

abbrev may : (most k v d : ℕ) → Bool
may most k v d = is_decimal d && leb (next v d * tens k) most

pub fixed_step : (most k v d : ℕ) (t : List ℕ) → may most k v d ≡ true → fixed most (suc k) v (d ∷ t) ≡ fixed most k (next v d) t
unfolding fixed
fixed_step most k v d t e = rw e

pub fixed_stop : (most k v d : ℕ) (u : List ℕ) → may most k v d ≡ false → d ≡ look u → fixed most (suc k) v u ≡ stuck u
unfolding fixed
fixed_stop most k v d [] e f = refl
fixed_stop most k v d (c ∷ t) e f = rw (rw f at e)

-- k digits, v before them; or some of them, and those that can follow
pub record Full (most k v n : ℕ) (w : List ℕ) : Type 0 where
  pub digits : AllDigits w
  pub is : worth v w ≡ n
  pub within : n ≤ most
  pub size : length w ≡ k

pub record Part (most k v : ℕ) (w : List ℕ) : Type 0 where
  pub more : List ℕ
  pub digits : AllDigits (w ++ more)
  pub within : worth v (w ++ more) ≤ most
  pub size : length (w ++ more) ≡ k

abbrev pub FineFixed : (most k v : ℕ) → List ℕ → Read ℕ → Type 0
FineFixed most k v t (got n r) = Took t r (λ w. Full most k v n w) (λ x u. fixed most k v x ≡ got n u)
FineFixed most k v t (stuck r) = Took t r (λ w. Part most k v w) (λ x u. fixed most k v x ≡ stuck u)

push_fixed : (most k v d : ℕ) (t : List ℕ) → may most k v d ≡ true → (o : Read ℕ) → FineFixed most k (next v d) t o
    → FineFixed most (suc k) v (d ∷ t) o
unfolding worth
push_fixed most k v d t p (got n r) a =
    let q = and_true (is_decimal d) (leb (next v d * tens k) most) p in
    let m = a.means in
    record {
      w = d ∷ a.w;
      split = ap (λ x. d ∷ x) a.split;
      means = record { digits = more_digits d a.w q.0 m.digits; is = m.is; within = m.within; size = ap suc m.size };
      alike = λ u s. fixed_step most k v d (a.w ++ u) p ∙ a.alike u s;
    }
push_fixed most k v d t p (stuck r) a =
    let q = and_true (is_decimal d) (leb (next v d * tens k) most) p in
    let m = a.means in
    record {
      w = d ∷ a.w;
      split = ap (λ x. d ∷ x) a.split;
      means = record { more = m.more; digits = more_digits d (a.w ++ m.more) q.0 m.digits; within = m.within; size = ap suc m.size };
      alike = λ u s. fixed_step most k v d (a.w ++ u) p ∙ a.alike u s;
    }

could : (most k v : ℕ) → v * tens k ≤ most → Part most k v []
could most k v h =
    record {
      more = replicate k 48;
      digits = zeros_digits k;
      within = omega (arith, zeros_worth k v);
      size = length-replicate k 48;
    }

pub fine_fixed : (most k v : ℕ) (t : List ℕ) → v * tens k ≤ most → FineFixed most k v t (fixed most k v t)
unfolding fixed worth every
fine_fixed most zero v t h = idle t (record { digits = refl; is = refl; within = omega arith; size = refl }) (λ u k. refl)
fine_fixed most (suc k) v [] h = idle [] (could most (suc k) v h) (λ u e. fixed_stop most k v 0 u refl e)
fine_fixed most (suc k) v (d ∷ t) h = on (may most k v d) refl (λ s. fine_fixed most k (next v d) t s)
  where
    on : (b : Bool) → may most k v d ≡ b → (next v d * tens k ≤ most → FineFixed most k (next v d) t (fixed most k (next v d) t))
        → FineFixed most (suc k) v (d ∷ t) (cond b (fixed most k (next v d) t) (stuck (d ∷ t)))
    on true p ih =
        push_fixed most k v d t p (fixed most k (next v d) t)
        (ih (leb-true (next v d * tens k) most (and_true (is_decimal d) (leb (next v d * tens k) most) p).1))
    on false p ih = idle (d ∷ t) (could most (suc k) v h) (λ u e. fixed_stop most k v d u p e)

-- what k digits come to is at least the number with zeros behind it
pub worth_least : (v : ℕ) (t : List ℕ) → v * tens (length t) ≤ worth v t
unfolding worth
worth_least v [] = omega arith
worth_least v (d ∷ t) = grow (tens (length t)) (worth_least (next v d) t)
  where
    grow : (b : ℕ) {x : ℕ} → (10 * v + (d - 48)) * b ≤ x → v * (10 * b) ≤ x
    grow b h = omega (arith, wide v (d - 48) b)
      where
        wide : (a e c : ℕ) → (10 * a + e) * c ≡ a * (10 * c) + e * c
        wide a e c = omega arith

pub fixed_all : (most k v : ℕ) (w r : List ℕ) → AllDigits w → worth v w ≤ most → length w ≡ k → fixed most k v (w ++ r) ≡ got (worth v w) r
unfolding worth fixed
fixed_all most zero v [] r p h e = refl
fixed_all most (suc k) v [] r p h e = absurd (omega arith)
fixed_all most zero v (d ∷ w) r p h e = absurd (omega arith)
fixed_all most (suc k) v (d ∷ w) r p h e =
    let q = first_digit d w p in
    let l : length w ≡ k = omega arith in
    let s : next v d * tens k ≤ most = rw (sym l) (omega (arith, worth_least (next v d) w)) in
    fixed_step most k v d (w ++ r) (and_both (is_decimal d) (leb (next v d * tens k) most) q.0 (le-leb (next v d * tens k) most s))
    ∙ fixed_all most k (next v d) w r q.1 h l
