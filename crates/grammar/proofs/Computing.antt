-- Reading an expression, computed: with enough fuel it comes to the one answer that `Goes` allows. For the runs. Assumes nothing.
use mathlib.Core.Path.{◌≡◌, refl, ap, ◌∙◌, subst}
use mathlib.Core.List.{List}
use mathlib.Core.Option.{Option, none, some}
use Prim.Native.Nat.{ℕ, zero, suc}
use lib.ListN.{drop}
use Rattle.laws.proofs.Tests.{clash}
use Rattle.rules.specs.declared.Op2.{Op2}
use Rattle.rules.specs.Expressions.{Expr, two, one}
use Rattle.grammar.specs.Reading.{look}
use Rattle.grammar.specs.Going.{Read, got, stuck, on_got, Start, leaf, paren, sign, nothing, start, skip, op_at, gap, close, Mode, alone, whole, rest, Goes, leafs, opens, signs, nones, ends, fails, firsts, sinks, stops, agains, breaks}

Answer : Type 0
Answer = Option (Read Expr)

-- by what was read: go on, or be stuck
abbrev then : Option (Read Expr) → (Expr → List ℕ → Option (Read Expr)) → Option (Read Expr)
then none f = none
then (some (got e r)) f = f e r
then (some (stuck r)) f = some (stuck r)

abbrev made : (Read Expr → Read Expr) → Option (Read Expr) → Option (Read Expr)
made f none = none
made f (some x) = some (f x)

abbrev by_start : (Mode → List ℕ → Option (Read Expr)) → Start → List ℕ → Option (Read Expr)
by_start g (leaf o) t = some o
by_start g paren t = made close (g (whole 5) (drop 1 t))
by_start g (sign s r) t = made (on_got (one s)) (g alone (skip r))
by_start g (nothing r) t = some (stuck r)

abbrev by_op : (Mode → List ℕ → Option (Read Expr)) → Option Op2 → ℕ → Expr → List ℕ → Option (Read Expr)
by_op g none l e r = some (got e r)
by_op g (some p) l e r = then (g (whole l) (skip (drop 1 r))) (λ d q. g (rest l (two p e d)) q)

abbrev by_mode : (Mode → List ℕ → Option (Read Expr)) → Mode → List ℕ → Option (Read Expr)
by_mode g alone t = by_start g (start t) t
by_mode g (whole zero) t = then (g alone t) (λ e r. some (gap e r))
by_mode g (whole (suc l)) t = then (g (whole l) t) (λ e r. g (rest l e) r)
by_mode g (rest l e) t = by_op g (op_at (suc l) (look t)) l e t

unfoldable pub goes : (fuel : ℕ) → Mode → List ℕ → Option (Read Expr)
goes zero m t = none
goes (suc f) m t = by_mode (goes f) m t

some_is : (x y : Read Expr) → some x ≡ some y → x ≡ y
some_is x y e = cc

module _ (g : Mode → List ℕ → Option (Read Expr)) (sound : (m : Mode) (t : List ℕ) (o : Read Expr) → g m t ≡ some o → Goes m t o) where
  by_start_lem : (x : Start) (t : List ℕ) (o : Read Expr) → start t ≡ x → by_start g x t ≡ some o → Goes alone t o
  by_start_lem (leaf y) t o q e = leafs (q ∙ ap leaf (some_is y o e))
  by_start_lem paren t o q e = on (g (whole 5) (drop 1 t)) refl e
    where
      on : (a : Option (Read Expr)) → g (whole 5) (drop 1 t) ≡ a → made close a ≡ some o → Goes alone t o
      on none z e = clash (cc)
      on (some y) z e = subst (λ x. Goes alone t x) (some_is (close y) o e) (opens q (sound (whole 5) (drop 1 t) y z))
  by_start_lem (sign s r) t o q e = on (g alone (skip r)) refl e
    where
      on : (a : Option (Read Expr)) → g alone (skip r) ≡ a → made (on_got (one s)) a ≡ some o → Goes alone t o
      on none z e = clash (cc)
      on (some y) z e = subst (λ x. Goes alone t x) (some_is (on_got (one s) y) o e) (signs s q (sound alone (skip r) y z))
  by_start_lem (nothing r) t o q e = subst (λ x. Goes alone t x) (some_is (stuck r) o e) (nones q)

  by_op_lem : (x : Option Op2) (l : ℕ) (e : Expr) (r : List ℕ) (o : Read Expr) → op_at (suc l) (look r) ≡ x → by_op g x l e r ≡ some o
      → Goes (rest l e) r o
  by_op_lem none l e r o q h = subst (λ x. Goes (rest l e) r x) (some_is (got e r) o h) (stops q)
  by_op_lem (some p) l e r o q h = on (g (whole l) (skip (drop 1 r))) refl h
    where
      on : (a : Option (Read Expr)) → g (whole l) (skip (drop 1 r)) ≡ a → then a (λ d q. g (rest l (two p e d)) q) ≡ some o
          → Goes (rest l e) r o
      on none z h = clash (cc)
      on (some (got d y)) z h = agains p q (sound (whole l) (skip (drop 1 r)) (got d y) z) (sound (rest l (two p e d)) y o h)
      on (some (stuck y)) z h = subst (λ x. Goes (rest l e) r x) (some_is (stuck y) o h)
          (breaks p q (sound (whole l) (skip (drop 1 r)) (stuck y) z))

  by_mode_lem : (m : Mode) (t : List ℕ) (o : Read Expr) → by_mode g m t ≡ some o → Goes m t o
  by_mode_lem alone t o e = by_start_lem (start t) t o refl e
  by_mode_lem (whole zero) t o e = on (g alone t) refl e
    where
      on : (a : Option (Read Expr)) → g alone t ≡ a → then a (λ e r. some (gap e r)) ≡ some o → Goes (whole zero) t o
      on none z e = clash (cc)
      on (some (got d y)) z e = subst (λ x. Goes (whole zero) t x) (some_is (gap d y) o e) (ends (sound alone t (got d y) z))
      on (some (stuck y)) z e = subst (λ x. Goes (whole zero) t x) (some_is (stuck y) o e) (fails (sound alone t (stuck y) z))
  by_mode_lem (whole (suc l)) t o e = on (g (whole l) t) refl e
    where
      on : (a : Option (Read Expr)) → g (whole l) t ≡ a → then a (λ e r. g (rest l e) r) ≡ some o → Goes (whole (suc l)) t o
      on none z e = clash (cc)
      on (some (got d y)) z e = firsts (sound (whole l) t (got d y) z) (sound (rest l d) y o e)
      on (some (stuck y)) z e = subst (λ x. Goes (whole (suc l)) t x) (some_is (stuck y) o e) (sinks (sound (whole l) t (stuck y) z))
  by_mode_lem (rest l d) t o e = by_op_lem (op_at (suc l) (look t)) l d t o refl e

pub computed : (f : ℕ) (m : Mode) (t : List ℕ) (o : Read Expr) → goes f m t ≡ some o → Goes m t o
unfolding goes
computed zero m t o e = clash (cc)
computed (suc f) m t o e = by_mode_lem (goes f) (λ m t o h. computed f m t o h) m t o e
