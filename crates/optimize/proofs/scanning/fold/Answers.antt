-- `optimize::scanning::fold` meets its contract: over the list is by number.
use mathlib.Core.Path.{◌≡◌, sym, ◌∙◌, ap}
use mathlib.Core.Bool.{Bool}
use mathlib.Core.Option.{Option}
use Prim.Native.Nat.{ℕ}
use native.Mathlib.Omega.{arith}
use Rattle.laws.specs.Options.{first_from, first_of}
use Rattle.laws.proofs.Options.{first_of_places}
use Rattle.rules.specs.Programs.{Program}
use Rattle.rules.specs.Rewriting.{Pattern, trampoline, patterns, pattern_at, anywhere}
use Rattle.slots.specs.Slots.{Slots, program_of}
use Rattle.slots.specs.State.{table_of}
use Rattle.patterns.specs.Order.{pattern_at as nth}
use Rattle.attempts.specs.Standing.{Tried}
use Rattle.optimize.proofs.Tries.{tried_as, found, missed, ended}
use Rattle.optimize.proofs.scanning.fold.Goals as goal

-- what is tried
abbrev tries : Slots → (k : ℕ) → Option Program
tries t k = anywhere (pattern_at (program_of t) (nth k)) (program_of t)

abbrev here : (c : goal.Then-fold_with) → Slots
here c =
    table_of c.args.frames.now c.args.state.now c.args.count

abbrev here_2 : (c : goal.After-loop-k) → Slots
here_2 c =
    table_of c.args.frames.now c.args.state.now c.args.count

-- the first pattern
abbrev first : Slots → Option Program
first t = first_of (λ x. anywhere (pattern_at (program_of t) x) (program_of t)) patterns

first_is : (t : Slots) → first_from (tries t) 23 0 ≡ first t
first_is t = sym (first_of_places (λ (x : Pattern). anywhere (pattern_at (program_of t) x) (program_of t)) patterns (trampoline 0))

-- the pattern in hand is the one of that number
in_order : {t u : Slots} {r : Bool} (k : ℕ) (p : Pattern) → p ≡ nth k → Tried (anywhere (pattern_at (program_of t) p) (program_of t)) t u r
    → Tried (tries t k) t u r
in_order {t} k p e = tried_as _ (tries t k) (ap (λ (x : Pattern). anywhere (pattern_at (program_of t) x) (program_of t)) e)

pub returns-then-fold_with : goal.returns-then-fold_with
returns-then-fold_with c =
    let e = in_order c.loop-k.k _ c.pattern.ensures.0 c.fold_with.ensures in
    tried_as _ (first (here c)) (first_is (here c))
    (found tries 23 c.loop-k.k c.loop-k.invariant.0 c.loop-k.invariant.1 (omega (arith, c.loop-k-test.true)) e c.if-fold_with.true)

pub loop-k-preserved : goal.loop-k-preserved
loop-k-preserved c =
    let e = in_order c.loop-k.k _ c.pattern.ensures.0 c.fold_with.ensures in (
      e.kept c.if-fold_with.false ∙ c.loop-k.invariant.0,
      missed tries 23 c.loop-k.k c.loop-k.invariant.0 c.loop-k.invariant.1 (omega (arith, c.loop-k-test.true)) e c.if-fold_with.false,
    )

pub returns : goal.returns
returns c =
    tried_as _ (first (here_2 c)) (first_is (here_2 c))
    (ended tries 23 c.loop-k.k c.loop-k.invariant.0 c.loop-k.invariant.1 (omega (arith, c.loop-k-test.false)) c.requires.0)
