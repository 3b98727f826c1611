-- The inner label that the target in a slot is, and tests of it.
use Rattle.rules.specs.declared.Place.{Place}
use Rattle.std.specs.Prelude.{Bool, true, ℕ, ◌<◌, Option, None, Some}
use Rattle.rules.specs.Programs.{Placeℕ, Operand, register, value, inner, args_of, last_of}
use Rattle.slots.specs.Slots.{Slots, slot_at}

abbrev pub label_of : Operand → Option (Place × ℕ)
label_of (register r) = None
label_of (value e) = None
label_of (inner i o) = Some ((record { 0 = i }), o)

-- only a target can be an inner label, and a target is the last operand
unfoldable pub label_at : Slots → (i : Placeℕ) → Option (Place × ℕ)
label_at t i = label_of (last_of (args_of (slot_at t i)))

-- a test of an inner label by its owner's place and its offset; where there is none it is passed
abbrev pub of_label : (Placeℕ → ℕ → Bool) → Option (Place × ℕ) → Bool
of_label f (Some (i, o)) = f i.0 o
of_label f None = true

-- the owner is a statement of the program
abbrev pub OwnerIn : (count : ℕ) → Option (Place × ℕ) → Type 0
OwnerIn count (Some (i, o)) = i.0 < count
OwnerIn count None = Unit
