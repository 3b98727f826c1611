-- How deep the inner labels reach into each slot: one more than the largest offset that is wanted there.
use Rattle.rules.specs.declared.Place.{Place}
use Rattle.std.specs.Prelude.{◌≡◌, List, cond, ℕ, zero, suc, ◌+◌, ◌<◌, min, max, eqb, get_or, Option, None, Some}
use Rattle.rules.specs.Programs.{Placeℕ}
use Rattle.slots.specs.Slots.{Slots}
use Rattle.patterns.specs.Labels.{label_at}

-- one more than an offset. An offset has 16 bits, so the limit cuts none
abbrev pub depth_of : (o : ℕ) → ℕ
depth_of o = min (o + 1) 65536

-- what a label wants of slot i: nothing, where another slot is its owner
abbrev pub wanted_of : (i : Placeℕ) → Option (Place × ℕ) → ℕ
wanted_of i (Some (owner, o)) = cond (eqb owner.0 i) (depth_of o) 0
wanted_of i None = 0

-- the most that the labels of the first n slots want of slot i; 0 where none wants it
unfoldable pub deepest_to : Slots → (i : Placeℕ) (n : ℕ) → ℕ
deepest_to t i zero = 0
deepest_to t i (suc n) = max (deepest_to t i n) (wanted_of i (label_at t n))

pub record Deepest (t : Slots) (deepest : List ℕ) : Type 0 where
  pub is : (i : Placeℕ) → i < t.count → get_or deepest i 0 ≡ deepest_to t i t.count
