-- `optimize::scanning::fold_with` meets its contract. The loop's invariant: the tables are what they were, the pattern's branch stands at
-- i, and nothing was found so far.
use mathlib.Core.Path.{◌≡◌}
use mathlib.Core.Option.{Option}
use Prim.Native.Nat.{◌-◌, ◌≤◌, ◌<◌}
use lib.ListN.{get_or}
use Rattle.laws.specs.Options.{first_from}
use Rattle.rules.specs.Programs.{Placeℕ, Program}
use Rattle.rules.specs.Rewriting.{pattern_at}
use Rattle.slots.specs.Slots.{Slots, program_of}
use Rattle.slots.specs.State.{forms_in, table_of}
use Rattle.patterns.specs.declared.Pattern.{Pattern}
use Rattle.patterns.specs.Order.{pattern_of}
use Rattle.optimize.specs.Branches.{branch_of}
use Rattle.optimize.proofs.scanning.fold_with.Given as goal

-- what is tried
abbrev tries : (p : Pattern) → Slots → (i : Placeℕ) → Option Program
tries p t i = pattern_at (program_of t) (pattern_of p) i

abbrev pub invariant-loop-i : goal.invariant-loop-i
invariant-loop-i l =
    (l.i ≤ l.count)
    × (table_of l.frames l.state l.count ≡ table_of l.frames l.initial.state l.count)
    × (l.i < l.count → get_or (forms_in l.initial.state) l.i 0 ≡ branch_of (pattern_of l.p))
    × (first_from (tries l.p (table_of l.frames l.initial.state l.count)) l.count 0 ≡ first_from
    (tries l.p (table_of l.frames l.initial.state l.count)) (l.count - l.i) l.i)

abbrev pub decreases-loop-i : goal.decreases-loop-i
decreases-loop-i l = l.count - l.i
