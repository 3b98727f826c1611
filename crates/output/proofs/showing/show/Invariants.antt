-- `output::showing::show` meets its contract: a row filled from the front, each form from its own.
use mathlib.Core.Path.{◌≡◌}
use mathlib.Core.List.{◌++◌}
use Prim.Native.Nat.{ℕ}
use lib.ListN.{get_or, drop}
use Rattle.laws.specs.Counts.{tab}
use Rattle.rules.specs.declared.Settings.{Settings}
use Rattle.rules.specs.Programs.{kind_of}
use Rattle.slots.specs.Slots.{Slots, slot_at}
use Rattle.slots.specs.State.{forms_in, carry_in, table_of, Kept}
use Rattle.output.specs.Showing.{shown_form}
use Rattle.output.proofs.showing.show.Given as goal

-- the form of each place
abbrev given : Settings → Slots → (i : ℕ) → ℕ
given asked t i = shown_form asked (kind_of (slot_at t i)) (get_or t.forms i 0)

abbrev pub invariant-loop-i : goal.invariant-loop-i
invariant-loop-i l =
    (forms_in l.state ≡ tab (given l.asked (table_of l.frames l.initial.state l.count)) l.i ++ drop l.i (forms_in l.initial.state))
    × (carry_in l.state ≡ carry_in l.initial.state)
    × Kept l.initial.state l.state
