-- What a text of a plan is made of. Assumes nothing.
use mathlib.Core.Path.{◌≡◌, refl, sym, subst}
use mathlib.Core.Logic.{inl, inr}
use mathlib.Core.List.{List, ◌∷◌, ◌++◌}
use mathlib.Core.Option.{none}
use mathlib.Core.Bool.{Bool, true, false}
use Prim.Native.Nat.{ℕ}
use lib.Dec.{eqb}
use lib.ListN.{length}
use borrow.Author.Tests.{eqb-true}
use Rattle.laws.proofs.Tests.{clash}
use Rattle.rules.specs.Expressions.{Expr}
use Rattle.rules.specs.Programs.{Stmt}
use Rattle.grammar.specs.Reading as reading
use Rattle.grammar.specs.Reading.{is_decimal, Exp, Line}
use Rattle.grammar.specs.Going.{infix_of}
use Rattle.plans.specs.Plans as plans
use Rattle.plans.specs.Plans.{Plan, done, fork, expression, decimal, five, Reads, Behind, Alive}
use Rattle.plans.proofs.Worded.{Step, fork_step}

pub done_is : {r s : Stmt} {t : List ℕ} → Reads (done r) s t → s ≡ r
done_is plans.last = refl

-- what a text of a plan is made of
pub record Tree (f : Expr → Plan) (s : Stmt) (t : List ℕ) : Type 0 where
  pub e : Expr
  pub w : List ℕ
  pub v : List ℕ
  pub is : t ≡ w ++ v
  pub good : Exp 5 e w
  pub rest : Reads (f e) s v

pub tree_of : {f : Expr → Plan} {s : Stmt} {t : List ℕ} → Reads (expression f) s t → Tree f s t
tree_of (plans.tree {e = e} {w = w} {v = v} x g) = record { e = e; w = w; v = v; is = refl; good = x; rest = g }

pub record Value (most : ℕ) (f : ℕ → Plan) (s : Stmt) (t : List ℕ) : Type 0 where
  pub n : ℕ
  pub w : List ℕ
  pub v : List ℕ
  pub is : t ≡ w ++ v
  pub good : reading.Decimal most n w
  pub rest : Reads (f n) s v

pub value_of : {most : ℕ} {f : ℕ → Plan} {s : Stmt} {t : List ℕ} → Reads (decimal most f) s t → Value most f s t
value_of (plans.value {n = n} {w = w} {v = v} d g) = record { n = n; w = w; v = v; is = refl; good = d; rest = g }

pub record Named (f : ℕ → Plan) (s : Stmt) (t : List ℕ) : Type 0 where
  pub n : ℕ
  pub w : List ℕ
  pub v : List ℕ
  pub is : t ≡ w ++ v
  pub size : length w ≡ 5
  pub good : reading.Decimal 32767 n w
  pub rest : Reads (f n) s v

pub name_of : {f : ℕ → Plan} {s : Stmt} {t : List ℕ} → Reads (five f) s t → Named f s t
name_of (plans.digits {n = n} {w = w} {v = v} l d g) = record { n = n; w = w; v = v; is = refl; size = l; good = d; rest = g }

-- a byte, where the line cannot end
pub record Byte (ok : ℕ → Bool) (f : ℕ → Plan) (s : Stmt) (t : List ℕ) : Type 0 where
  pub c : ℕ
  pub v : List ℕ
  pub is : t ≡ c ∷ v
  pub passes : ok c ≡ true
  pub rest : Reads (f c) s v

pub byte_of : (ok : ℕ → Bool) (f : ℕ → Plan) (s : Stmt) (t : List ℕ) → Reads (fork none ok f) s t → Byte ok f s t
byte_of ok f s t g = on (fork_step g)
  where
    on : Step s t none ok f → Byte ok f s t
    on (inl (q, z)) = clash (cc)
    on (inr (c, (v, (z, (p, h))))) = record { c = c; v = v; is = z; passes = p; rest = h }

-- a comma may stand behind an expression
pub comma : (c : ℕ) → eqb c 44 ≡ true → (is_decimal c ≡ false) × ((eqb c 32 ≡ false) × (infix_of c ≡ none))
unfolding infix_of
comma c p = subst (λ x. (is_decimal x ≡ false) × ((eqb x 32 ≡ false) × (infix_of x ≡ none))) (sym (eqb-true c 44 p)) (refl, (refl, refl))
