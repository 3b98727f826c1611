-- Labels and variables. Assumes nothing.
use mathlib.Core.Path.{◌≡◌, refl, subst}
use mathlib.Core.List.{List, ◌∷◌, ◌++◌}
use mathlib.Core.Option.{none}
use mathlib.Core.Bool.{◌||◌}
use Prim.Native.Nat.{ℕ, ◌+◌, ◌≤◌}
use native.Mathlib.Omega.{arith}
use lib.Dec.{eqb}
use lib.ListN.{length, drop}
use borrow.Author.Tests.{ne_eqb}
use Rattle.std.specs.Prelude.{Result, Err, Ok}
use Rattle.rules.specs.Expressions.{Expr, pair, bytes_of}
use Rattle.rules.specs.Programs.{label, variable}
use Rattle.rules.specs.Output.{frame_of}
use Rattle.grammar.specs.Reading.{look}
use Rattle.plans.specs.Plans as plans
use Rattle.plans.specs.Plans.{Plan, done, fork, expression, Walks}
use Rattle.plans.specs.Lines.{after_global}
use Rattle.laying.specs.Laying.{long, Stands, Termed}
use Rattle.laying.specs.Speaking.{Held, Spoken, ends_at}
use Rattle.laying.proofs.Speaking.{through, done_spoken, fork_byte, fork_wrong}

pub label_held : (a : List ℕ) (to n : ℕ) → Stands a to (2 ∷ pair n) 0 → Held a to (label n)
unfolding frame_of
label_held a to n w = w

variable_held : (a : List ℕ) (to n : ℕ) (e : Expr) → Stands a to ((3 ∷ pair n) ++ bytes_of e) (0 + long e) → Held a to (variable n e)
unfolding frame_of
variable_held a to n e w = let z : 0 + long e ≡ long e = omega arith in subst (λ l. Stands a to (3 ∷ (pair n ++ bytes_of e)) l) z w

pub value_ends : (s : List ℕ) (k : ℕ) (b a : List ℕ) (at : ℕ) (r : Result (ℕ × ℕ) ℕ) (n to m : ℕ) → r ≡ Ok (n, to) → Termed s k b a at r
    → Stands b at (3 ∷ pair m) 0
    → Spoken (expression (λ e. done (variable m e))) s k a (ends_at (length s) n to)
value_ends s k b a at r n to m q w z =
    let y = subst (λ x. Termed s k b a at x) q w in
    let e : Expr = y.0 in
    through (expression (λ e. done (variable m e))) (done (variable m e)) s k n a (ends_at (length s) n to)
    (λ o v. plans.Walks.tree y.1.0 v)
    (done_spoken (variable m e) s n a to y.1.1.0 (variable_held a to m e (y.1.1.1.adds (3 ∷ pair m) 0 z)))

pub value_wrong : (s : List ℕ) (k : ℕ) (b a : List ℕ) (at : ℕ) (r : Result (ℕ × ℕ) ℕ) (n m : ℕ) → r ≡ Err n → Termed s k b a at r
    → Spoken (expression (λ e. done (variable m e))) s k a (Err n)
value_wrong s k b a at r n m q w =
    let y = subst (λ x. Termed s k b a at x) q w in (plans.Walks.treeless y.0, y.1)

-- ---- what follows a name

abbrev Global : ℕ → Plan
Global n = fork none (λ c. eqb c 58 || eqb c 61) (after_global n)

pub global_label : (s : List ℕ) (k n : ℕ) (a : List ℕ) (r : Result ℕ ℕ) → look (drop k s) ≡ 58 → Spoken (done (label n)) s (k + 1) a r
    → Spoken (Global n) s k a r
global_label s k n a r e g = through (Global n) (done (label n)) s k (k + 1) a r
    (λ o w. fork_byte none (λ c. eqb c 58 || eqb c 61) (after_global n) s k 57 o e refl w) g

pub global_variable : (s : List ℕ) (k n : ℕ) (a : List ℕ) (r : Result ℕ ℕ) → look (drop k s) ≡ 61
    → Spoken (expression (λ e. done (variable n e))) s (k + 1) a r → Spoken (Global n) s k a r
global_variable s k n a r e g =
    through (Global n) (expression (λ e. done (variable n e))) s k (k + 1) a r
    (λ o w. fork_byte none (λ c. eqb c 58 || eqb c 61) (after_global n) s k 60 o e refl w) g

pub global_wrong : (s : List ℕ) (k n : ℕ) (a : List ℕ) → k ≤ length s → (look (drop k s) ≡ 58 → ⊥) → (look (drop k s) ≡ 61 → ⊥)
    → Spoken (Global n) s k a (Err k)
global_wrong s k n a h p q = (
  fork_wrong (λ c. eqb c 58 || eqb c 61) (after_global n) (drop k s) (rw (ne_eqb (look (drop k s)) 58 p, ne_eqb (look (drop k s)) 61 q)),
  h,
)

abbrev Local : ℕ → Plan
Local n = fork none (λ c. eqb c 58) (λ c. done (label n))

pub local_label : (s : List ℕ) (k n : ℕ) (a : List ℕ) (r : Result ℕ ℕ) → look (drop k s) ≡ 58 → Spoken (done (label n)) s (k + 1) a r
    → Spoken (Local n) s k a r
local_label s k n a r e g = through (Local n) (done (label n)) s k (k + 1) a r
    (λ o w. fork_byte none (λ c. eqb c 58) (λ c. done (label n)) s k 57 o e refl w) g

pub local_wrong : (s : List ℕ) (k n : ℕ) (a : List ℕ) → k ≤ length s → (look (drop k s) ≡ 58 → ⊥) → Spoken (Local n) s k a (Err k)
local_wrong s k n a h p = (fork_wrong (λ c. eqb c 58) (λ c. done (label n)) (drop k s) (ne_eqb (look (drop k s)) 58 p), h)
