-- `optimize::shrinking::shrink_first` meets its contract. The loop's invariant: the tables are what they were, and nothing was found so
-- far.
use mathlib.Core.Path.{◌≡◌}
use mathlib.Core.Option.{Option}
use Prim.Native.Nat.{◌-◌}
use Rattle.laws.specs.Options.{first_from}
use Rattle.rules.specs.Programs.{Placeℕ, Program}
use Rattle.rules.specs.declared.Settings.{Settings}
use Rattle.rules.specs.Judging.{names_of}
use Rattle.rules.specs.Rewriting.{shrink_at}
use Rattle.slots.specs.Slots.{Slots, program_of}
use Rattle.slots.specs.State.{table_of}
use Rattle.optimize.proofs.shrinking.shrink_first.Given as goal

-- what is tried
abbrev tries : Settings → Slots → (i : Placeℕ) → Option Program
tries asked t i = shrink_at asked (names_of (program_of t)) (program_of t) i

abbrev pub invariant-loop-i : goal.invariant-loop-i
invariant-loop-i l =
    (table_of l.frames l.state l.count ≡ table_of l.frames l.initial.state l.count)
    × (first_from (tries l.asked (table_of l.frames l.initial.state l.count)) l.count 0 ≡ first_from
    (tries l.asked (table_of l.frames l.initial.state l.count)) (l.count - l.i) l.i)
