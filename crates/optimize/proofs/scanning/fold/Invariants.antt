-- `optimize::scanning::fold` meets its contract: over the list is by number.
use mathlib.Core.Path.{◌≡◌}
use mathlib.Core.Option.{Option}
use Prim.Native.Nat.{ℕ, ◌-◌}
use Rattle.laws.specs.Options.{first_from}
use Rattle.rules.specs.Programs.{Program}
use Rattle.rules.specs.Rewriting.{pattern_at, anywhere}
use Rattle.slots.specs.Slots.{Slots, program_of}
use Rattle.slots.specs.State.{table_of}
use Rattle.patterns.specs.Order.{pattern_at as nth}
use Rattle.optimize.proofs.scanning.fold.Given as goal

-- what is tried
abbrev tries : Slots → (k : ℕ) → Option Program
tries t k = anywhere (pattern_at (program_of t) (nth k)) (program_of t)

abbrev pub invariant-loop-k : goal.invariant-loop-k
invariant-loop-k l =
    (table_of l.frames l.state l.count ≡ table_of l.frames l.initial.state l.count)
    × (first_from (tries (table_of l.frames l.initial.state l.count)) 23 0 ≡ first_from (tries (table_of l.frames l.initial.state l.count))
    (23 - l.k) l.k)
