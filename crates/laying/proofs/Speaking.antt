-- A line by its plan: its end, one byte, a number, a name. Assumes nothing.
use mathlib.Core.Path.{◌≡◌, refl, sym, ap, subst}
use mathlib.Core.List.{List, [], ◌∷◌}
use mathlib.Core.Option.{Option, none}
use mathlib.Core.Bool.{Bool, true, false, cond}
use Prim.Native.Nat.{ℕ, suc, ◌+◌, ◌/◌, ◌%◌, ◌≤◌, ◌<◌}
use native.Mathlib.Omega.{arith}
use lib.Dec.{ltb}
use lib.ListN.{length, drop, length-drop, drop_of_length-le}
use lib.Seq.{drop-drop}
use borrow.Author.Tests.{ltb-true, ltb-false}
use Rattle.std.specs.Prelude.{Result, Ok, Err}
use Rattle.laws.proofs.Tests.{clash}
use Rattle.rules.specs.Expressions.{pair}
use Rattle.rules.specs.Programs.{Stmt}
use Rattle.grammar.specs.Reading.{is_decimal, look}
use Rattle.grammar.specs.Going.{Read, got, stuck, digits, fixed}
use Rattle.leaves.specs.Answering.{Valued}
use Rattle.plans.specs.Plans as plans
use Rattle.plans.specs.Plans.{Plan, done, fork, decimal, five, Walks}
use Rattle.laying.specs.Laying.{Stands, Added}
use Rattle.laying.proofs.Laying.{nothing_stands}
use Rattle.laying.specs.Speaking.{Held, Spoken, ends_at, number_of, Counted}

-- ---- a plan that is reached from another

pub through : (P Q : Plan) (s : List ℕ) (k n : ℕ) (a : List ℕ) (r : Result ℕ ℕ) → ((o : Read Stmt) → Walks Q (drop n s) o → Walks P (drop k s) o)
    → Spoken Q s n a r → Spoken P s k a r
through P Q s k n a (Ok to) f (x, (w, h)) = (x, (f (got x []) w, h))
through P Q s k n a (Err c) f (w, h) = (f (stuck (drop c s)) w, h)

-- ---- the end

over_walk : (x : Stmt) (t : List ℕ) → 1 ≤ length t → Walks (done x) t (stuck t)
over_walk x [] h = absurd (omega arith)
over_walk x (c ∷ t) h = plans.Walks.over

pub done_spoken : (x : Stmt) (s : List ℕ) (k : ℕ) (a : List ℕ) (to : ℕ) → k ≤ length s → Held a to x
    → Spoken (done x) s k a (ends_at (length s) k to)
done_spoken x s k a to h w = on (ltb k (length s)) refl
  where
    on : (b : Bool) → ltb k (length s) ≡ b → Spoken (done x) s k a (cond b (Err k) (Ok to))
    on true q = (over_walk x (drop k s) (omega (arith, length-drop k s, ltb-true k (length s) q)), h)
    on false q =
        let l : length s ≤ k = ltb-false k (length s) q in
        (x, (subst (λ t. Walks (done x) t (got x [])) (sym (drop_of_length-le s l)) plans.Walks.last, w))

-- ---- one byte

pub first_byte : (t : List ℕ) (c : ℕ) → look t ≡ suc c → t ≡ suc c ∷ drop 1 t
first_byte [] c e = absurd (omega arith)
first_byte (b ∷ t) c e = ap (λ y. y ∷ t) e

pub byte_there : (s : List ℕ) (k c : ℕ) → look (drop k s) ≡ suc c → k + 1 ≤ length s
byte_there s k c e = omega (arith, some (drop k s) e, length-drop k s)
  where
    some : (t : List ℕ) → look t ≡ suc c → 1 ≤ length t
    some [] e = absurd (omega arith)
    some (b ∷ t) e = omega arith

pub fork_byte : (end : Option Stmt) (ok : ℕ → Bool) (f : ℕ → Plan) (s : List ℕ) (k c : ℕ) (o : Read Stmt) → look (drop k s) ≡ suc c
    → ok (suc c) ≡ true
    → Walks (f (suc c)) (drop (k + 1) s) o → Walks (fork end ok f) (drop k s) o
fork_byte end ok f s k c o e p w =
    subst (λ t. Walks (fork end ok f) t o) (sym (first_byte (drop k s) c e))
    (plans.Walks.steps p (subst (λ t. Walks (f (suc c)) t o) (sym (drop-drop 1 k s)) w))

pub fork_wrong : (ok : ℕ → Bool) (f : ℕ → Plan) (t : List ℕ) → ok (look t) ≡ false → Walks (fork none ok f) t (stuck t)
fork_wrong ok f [] e = plans.Walks.short
fork_wrong ok f (c ∷ t) e = plans.Walks.wrong e

-- ---- numbers and names

pub decimal_got : (most : ℕ) (f : ℕ → Plan) (t r : List ℕ) (v : ℕ) (o : Read Stmt) → number_of most t ≡ got v r → Walks (f v) r o
    → Walks (decimal most f) t o
unfolding number_of
decimal_got most f t r v o e w = on (is_decimal (look t)) refl e
  where
    on : (b : Bool) → is_decimal (look t) ≡ b → cond b (digits most 0 t) (stuck t) ≡ got v r → Walks (decimal most f) t o
    on true q e = plans.Walks.value q e w
    on false q e = clash (cc)

pub decimal_stuck : (most : ℕ) (f : ℕ → Plan) (t r : List ℕ) → number_of most t ≡ stuck r → Walks (decimal most f) t (stuck r)
unfolding number_of
decimal_stuck most f t r e = on (is_decimal (look t)) refl e
  where
    same : {r t : List ℕ} → ◌≡◌ {A = Read ℕ} (stuck t) (stuck r) → t ≡ r
    same e = cc

    on : (b : Bool) → is_decimal (look t) ≡ b → cond b (digits most 0 t) (stuck t) ≡ stuck r → Walks (decimal most f) t (stuck r)
    on true q e = plans.Walks.large q e
    on false q e = subst (λ y. Walks (decimal most f) t (stuck y)) (same e) (plans.Walks.valueless q)

-- the code's number, from the part of the line to the line
pub no_number : (s : List ℕ) (k most : ℕ) → k ≤ length s → is_decimal (look (drop k s)) ≡ false → Counted s k most (Err k)
unfolding number_of
no_number s k most h e = (rw e, h)

pub number_is : (s : List ℕ) (k most : ℕ) (r : Result (ℕ × ℕ) ℕ) → is_decimal (look (drop k s)) ≡ true
    → Valued s (digits most 0 (drop k s)) most r → Counted s k most r
unfolding number_of
number_is s k most (Ok (n, v)) e w = (rw e w.0, (w.1, w.2))
number_is s k most (Err n) e w = (rw e w.0, w.1)

module _ (f : ℕ → Plan) (s : List ℕ) (k : ℕ) (a : List ℕ) (r : Result (ℕ × ℕ) ℕ) (w : Valued s (fixed 32767 5 0 (drop k s)) 32767 r) where
  pub name_spoken : (n v : ℕ) (x : Result ℕ ℕ) → r ≡ Ok (n, v) → Spoken (f v) s n a x → Spoken (five f) s k a x
  name_spoken n v x q g =
      let y = subst (λ z. Valued s (fixed 32767 5 0 (drop k s)) 32767 z) q w in
      through (five f) (f v) s k n a x (λ o m. plans.Walks.digits y.0 m) g

  pub name_wrong : (n : ℕ) → r ≡ Err n → (x : Result ℕ ℕ) → x ≡ Err n → Spoken (five f) s k a x
  name_wrong n q x e =
      let y = subst (λ z. Valued s (fixed 32767 5 0 (drop k s)) 32767 z) q w in
      subst (λ z. Spoken (five f) s k a z) (sym e) (plans.Walks.nameless y.0, y.1)

-- ---- a frame's first bytes

pub head_stands : (b₀ b₁ b₂ b₃ : List ℕ) (kind word hi lo p q r : ℕ) → length b₀ ≡ 120 → word < 65536 → Added b₀ b₁ 0 p (kind ∷ []) 0
    → Added b₁ b₂ p q (hi ∷ []) 0
    → Added b₂ b₃ q r (lo ∷ []) 0 → hi ≡ word / 256 % 256 → lo ≡ word % 256 → Stands b₃ r (kind ∷ pair word) 0
head_stands b₀ b₁ b₂ b₃ kind word hi lo p q r e h x y z u v =
    let i : hi ≡ word / 256 = omega arith in
    subst (λ n. Stands b₃ r (kind ∷ n ∷ word % 256 ∷ []) 0) i
    (subst (λ n. Stands b₃ r (kind ∷ hi ∷ n ∷ []) 0) v
    (z.adds (kind ∷ hi ∷ []) 0 (y.adds (kind ∷ []) 0 (x.adds [] 0 (nothing_stands b₀ e)))))
