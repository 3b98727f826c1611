-- `anchors::changing::nearest` meets its contract: the loop goes down as the definition does, whatever the tables on which no kind depends.
use mathlib.Core.Path.{◌≡◌}
use mathlib.Core.List.{List}
use Prim.Native.Nat.{ℕ, ◌≤◌}
use Rattle.rules.specs.Rewriting.{nearest as nearest_place}
use Rattle.slots.specs.Slots.{Slots, slots, program_of}
use Rattle.slots.specs.State.{starts_in, forms_in}
use Rattle.anchors.proofs.changing.nearest.Given as goal

abbrev pub invariant-loop-j : goal.invariant-loop-j
invariant-loop-j l =
    (l.j ≤ l.count) × ((carry owners offsets : List ℕ) → let t : Slots = slots l.frames (starts_in l.state) l.count (forms_in l.state)
    carry owners offsets in nearest_place (program_of t) l.initial.j ≡ nearest_place (program_of t) l.j)
