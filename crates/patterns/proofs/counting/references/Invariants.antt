-- `patterns::counting::references` meets its contract: one statement more at each turn.
use mathlib.Core.Path.{◌≡◌}
use mathlib.Core.Bool.{Bool}
use mathlib.Core.List.{List}
use Prim.Native.Nat.{ℕ, ◌*◌, ◌≤◌}
use Rattle.laws.specs.Counts.{sum_to}
use Rattle.rules.specs.Expressions.{mentions}
use Rattle.rules.specs.Programs.{over_exprs}
use Rattle.slots.specs.Slots.{Slots, slots, slot_at}
use Rattle.patterns.specs.Mentions.{RefersAll}
use Rattle.slots.specs.State.{starts_in, forms_in, carry_in, owners_in}
use Rattle.patterns.proofs.counting.references.Given as goal

-- what the statement at place j adds
abbrev adds : (F : ℕ → ℕ → Bool) (t : Slots) (j : ℕ) → ℕ
adds F t j = over_exprs (mentions (F j)) (slot_at t j)

abbrev pub invariant-loop-j : goal.invariant-loop-j
invariant-loop-j l =
    (l.found ≤ 2048 * l.j)
    × ((F : ℕ → ℕ → Bool) (offsets : List ℕ) → RefersAll F (slots l.frames (starts_in l.state) l.count (forms_in l.state)
    (carry_in l.state) (owners_in l.state) offsets) l.links l.place.0
    → l.found ≡ sum_to (adds F (slots l.frames (starts_in l.state) l.count (forms_in l.state) (carry_in l.state) (owners_in l.state)
    offsets)) l.j)
