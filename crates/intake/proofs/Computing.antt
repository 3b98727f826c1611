-- Reading a line by its plan, computed: it comes to the one answer that `Walks` allows. For the runs. Assumes nothing.
use mathlib.Core.Path.{◌≡◌, refl, subst}
use mathlib.Core.List.{List, [], ◌∷◌}
use mathlib.Core.Option.{Option, none, some}
use mathlib.Core.Bool.{Bool, true, false, cond}
use Prim.Native.Nat.{ℕ}
use Rattle.laws.proofs.Tests.{clash}
use Rattle.rules.specs.Expressions.{Expr}
use Rattle.rules.specs.Programs.{Stmt}
use Rattle.grammar.specs.Reading.{is_decimal, look}
use Rattle.grammar.specs.Going as going
use Rattle.grammar.specs.Going.{Read, got, stuck, whole, Goes}
use Rattle.grammar.proofs.Computing.{goes, computed}
use Rattle.plans.specs.Plans as plans
use Rattle.plans.specs.Plans.{Plan, done, fork, expression, decimal, five, either, finish, Walks}

abbrev Answer : Type 0
Answer = Option (Read Stmt)

-- by what was read: go on, or be stuck
abbrev then : Option (Read Expr) → (Expr → List ℕ → Answer) → Answer
then none f = none
then (some (got e r)) f = f e r
then (some (stuck r)) f = some (stuck r)

abbrev then_number : Read ℕ → (ℕ → List ℕ → Answer) → Answer
then_number (got n r) f = f n r
then_number (stuck r) f = some (stuck r)

unfoldable pub walks : Plan → List ℕ → Option (Read Stmt)
walks (done s) [] = some (got s [])
walks (done s) (c ∷ t) = some (stuck (c ∷ t))
walks (fork (some s) ok f) [] = some (got s [])
walks (fork none ok f) [] = some (stuck [])
walks (fork (some s) ok f) (c ∷ t) = cond (ok c) (walks (f c) t) (some (stuck (c ∷ t)))
walks (fork none ok f) (c ∷ t) = cond (ok c) (walks (f c) t) (some (stuck (c ∷ t)))
walks (expression f) t = then (goes 200 (whole 5) t) (λ e r. walks (f e) r)
walks (decimal most f) t = cond (is_decimal (look t)) (then_number (going.digits most 0 t) (λ n r. walks (f n) r)) (some (stuck t))
walks (five f) t = then_number (going.fixed 32767 5 0 t) (λ n r. walks (f n) r)
walks (either ok next f) [] = cond (ok 0) none (then (goes 200 (whole 5) []) (λ e r. walks (f e) r))
walks (either ok next f) (c ∷ t) = cond (ok c) (walks (next c) t) (then (goes 200 (whole 5) (c ∷ t)) (λ e r. walks (f e) r))
walks (finish read) t = some (read t)

is : {x y : Read Stmt} → ◌≡◌ {A = Answer} (some x) (some y) → x ≡ y
is e = cc

nothing : {X : Type 0} {y : Read Stmt} → ◌≡◌ {A = Answer} none (some y) → X
nothing e = clash (cc)

byte : (end : Option Stmt) (ok : ℕ → Bool) (f : ℕ → Plan) (c : ℕ) (t : List ℕ) (o : Read Stmt) (b : Bool) → ok c ≡ b
    → cond b (walks (f c) t) (some (stuck (c ∷ t))) ≡ some o → (walks (f c) t ≡ some o → Walks (f c) t o) → Walks (fork end ok f) (c ∷ t) o
byte end ok f c t o true q e below = plans.steps q (below e)
byte end ok f c t o false q e below = subst (λ x. Walks (fork end ok f) (c ∷ t) x) (is e) (plans.wrong q)

-- what the computation comes to is how the reader goes
pub walked : (P : Plan) (t : List ℕ) (o : Read Stmt) → walks P t ≡ some o → Walks P t o
unfolding walks
walked (done s) [] o e = subst (λ x. Walks (done s) [] x) (is e) plans.last
walked (done s) (c ∷ t) o e = subst (λ x. Walks (done s) (c ∷ t) x) (is e) plans.over
walked (fork (some s) ok f) [] o e = subst (λ x. Walks (fork (some s) ok f) [] x) (is e) plans.ended
walked (fork none ok f) [] o e = subst (λ x. Walks (fork none ok f) [] x) (is e) plans.short
walked (fork (some s) ok f) (c ∷ t) o e = byte (some s) ok f c t o (ok c) refl e (walked (f c) t o)
walked (fork none ok f) (c ∷ t) o e = byte none ok f c t o (ok c) refl e (walked (f c) t o)
walked (expression f) t o e = on (goes 200 (whole 5) t) refl e (λ d r. walked (f d) r o)
  where
    on : (a : Option (Read Expr)) → goes 200 (whole 5) t ≡ a → then a (λ d r. walks (f d) r) ≡ some o
        → ((d : Expr) (r : List ℕ) → walks (f d) r ≡ some o → Walks (f d) r o) → Walks (expression f) t o
    on none z e below = nothing e
    on (some (got d r)) z e below = plans.tree (computed 200 (whole 5) t (got d r) z) (below d r e)
    on (some (stuck r)) z e below = subst (λ x. Walks (expression f) t x) (is e) (plans.treeless (computed 200 (whole 5) t (stuck r) z))
walked (decimal most f) t o e = on (is_decimal (look t)) refl (going.digits most 0 t) refl e (λ n r. walked (f n) r o)
  where
    on : (b : Bool) → is_decimal (look t) ≡ b → (a : Read ℕ) → going.digits most 0 t ≡ a
        → cond b (then_number a (λ n r. walks (f n) r)) (some (stuck t)) ≡ some o
        → ((n : ℕ) (r : List ℕ) → walks (f n) r ≡ some o → Walks (f n) r o) → Walks (decimal most f) t o
    on true q (got n r) z e below = plans.value q z (below n r e)
    on true q (stuck r) z e below = subst (λ x. Walks (decimal most f) t x) (is e) (plans.large q z)
    on false q a z e below = subst (λ x. Walks (decimal most f) t x) (is e) (plans.valueless q)
walked (five f) t o e = on (going.fixed 32767 5 0 t) refl e (λ n r. walked (f n) r o)
  where
    on : (a : Read ℕ) → going.fixed 32767 5 0 t ≡ a → then_number a (λ n r. walks (f n) r) ≡ some o
        → ((n : ℕ) (r : List ℕ) → walks (f n) r ≡ some o → Walks (f n) r o) → Walks (five f) t o
    on (got n r) z e below = plans.digits z (below n r e)
    on (stuck r) z e below = subst (λ x. Walks (five f) t x) (is e) (plans.nameless z)
walked (either ok next f) [] o e = on (ok 0) refl (goes 200 (whole 5) []) refl e (λ d r. walked (f d) r o)
  where
    on : (b : Bool) → ok 0 ≡ b → (a : Option (Read Expr)) → goes 200 (whole 5) [] ≡ a → cond b none (then a (λ d r. walks (f d) r)) ≡ some o
        → ((d : Expr) (r : List ℕ) → walks (f d) r ≡ some o → Walks (f d) r o) → Walks (either ok next f) [] o
    on true q a z e below = nothing e
    on false q none z e below = nothing e
    on false q (some (got d r)) z e below = plans.bare q (computed 200 (whole 5) [] (got d r) z) (below d r e)
    on false q (some (stuck r)) z e below = subst (λ x. Walks (either ok next f) [] x) (is e)
        (plans.bareless q (computed 200 (whole 5) [] (stuck r) z))
walked (either ok next f) (c ∷ t) o e = on (ok c) refl (goes 200 (whole 5) (c ∷ t)) refl e (walked (next c) t o) (λ d r. walked (f d) r o)
  where
    on : (b : Bool) → ok c ≡ b → (a : Option (Read Expr)) → goes 200 (whole 5) (c ∷ t) ≡ a
        → cond b (walks (next c) t) (then a (λ d r. walks (f d) r)) ≡ some o → (walks (next c) t ≡ some o → Walks (next c) t o)
        → ((d : Expr) (r : List ℕ) → walks (f d) r ≡ some o → Walks (f d) r o) → Walks (either ok next f) (c ∷ t) o
    on true q a z e first below = plans.marked q (first e)
    on false q none z e first below = nothing e
    on false q (some (got d r)) z e first below = plans.bare q (computed 200 (whole 5) (c ∷ t) (got d r) z) (below d r e)
    on false q (some (stuck r)) z e first below =
        subst (λ x. Walks (either ok next f) (c ∷ t) x) (is e) (plans.bareless q (computed 200 (whole 5) (c ∷ t) (stuck r) z))
walked (finish read) t o e = plans.finishes (is e)
