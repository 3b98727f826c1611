-- The statement that a byte belongs to, as the code holds it.
use Rattle.rules.specs.declared.Place.{Place}
use Rattle.std.specs.Prelude.{◌≡◌, ◌<◌, None, ℕ, Option as AnOption, Some}
use Rattle.std.proofs.Math.Option.{Option, none, some}
use Rattle.rules.specs.Answers.{at_place}
use Rattle.rules.specs.Programs.{Addressℕ, byte_count}
use Rattle.rules.specs.Layout.{position, Origin as Source, origin_from}
use Rattle.slots.specs.Slots.{Slots, slot_at, program_of}

abbrev pub origin_as : Option Source → AnOption (Place × ℕ)
origin_as none = None
origin_as (some o) = Some ((at_place o.place), o.offset)

-- an origin is one of the bytes of a slot; no statement has more than a pad's 255 up to the multiple and 255 more
abbrev pub OriginIn : Slots → AnOption (Place × ℕ) → Type 0
OriginIn t (Some (i, o)) = (i.0 < t.count) × (o < byte_count (position (program_of t) i.0) (slot_at t i.0)) × (o < 511)
OriginIn t None = Unit

-- the origin of the byte at address a
pub record FoundAs (t : Slots) (a : Addressℕ) (r : AnOption (Place × ℕ)) : Type 0 where
  pub answer : r ≡ origin_as (origin_from 0 0 (program_of t) a)
  pub inside : OriginIn t r
