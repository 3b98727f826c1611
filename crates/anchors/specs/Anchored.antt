-- What the targets of a program are anchored to, as the tables of a listing as read hold it.
use Rattle.rules.specs.declared.Place.{Place}
use Rattle.rules.specs.declared.Unvalued.TheVariants.{Unknown}
use Rattle.rules.specs.declared.Unvalued.{Unvalued}
use Rattle.std.specs.Prelude.{◌≡◌, cond, List, ℕ, ◌<◌, get_or, ℤ, Result, Err, None, Option as AnOption, Some}
use Rattle.std.proofs.Math.Option.{Option, none}
use Rattle.rules.specs.Programs.{Placeℕ, Operand, register, value, inner, args_of, last_of, Program, at}
use Rattle.rules.specs.Layout.{Origin as Source, origin}
use Rattle.rules.specs.Names.{Key, Entry, context_at}
use Rattle.rules.specs.Judging.{worth}
use Rattle.rules.specs.Rewriting.{holds_label, is_anchored, anchor}
use Rattle.slots.specs.Slots.{Slots, no_owner, program_of, Sound}
use Rattle.asm.specs.Belonging.{origin_as, OriginIn}

-- "a target that holds no label, directly or through variables": its value in context k; there is none to ask of a target that holds one
abbrev pub constant_value : (names : List Entry) (moving : List Key) (k : ℕ) → Operand → Result ℤ Unvalued
constant_value names moving k (register r) = Err Unknown
constant_value names moving k (value e) = cond (holds_label moving k e) (Err Unknown) (worth names k e)
constant_value names moving k (inner i o) = Err Unknown

-- the origin that the target at place i becomes an inner label of
unfoldable pub origin_at : (names : List Entry) (moving : List Key) → Program → (i : Placeℕ) → Option Source
origin_at names moving p i =
    cond (is_anchored names p i (at p i)) (origin p (constant_value names moving (context_at p i) (last_of (args_of (at p i))))) none

-- what the code answers where the origin is o, or there is none: the same, and one of the bytes of a slot
pub record Found (t : Slots) (o : Option Source) (r : AnOption (Place × ℕ)) : Type 0 where
  pub answer : r ≡ origin_as o
  pub inside : OriginIn t r

-- the inner label of an origin, as the tables have it
abbrev pub owner_in : AnOption (Place × ℕ) → ℕ
owner_in (Some (i, o)) = i.0
owner_in None = no_owner

abbrev pub offset_in : AnOption (Place × ℕ) → ℕ
offset_in (Some (i, o)) = o
offset_in None = 0

-- the tables have room for it
abbrev pub Small : AnOption (Place × ℕ) → Type 0
Small (Some (i, o)) = (i.0 < 1024) × (o < 65536)
Small None = Unit

abbrev pub owner_of : Option Source → ℕ
owner_of o = owner_in (origin_as o)

abbrev pub offset_of : Option Source → ℕ
offset_of o = offset_in (origin_as o)

-- the tables of a listing as read: each place carries its own target, and no target is an inner label
pub record AsRead (t : Slots) : Type 0 where
  pub own : (i : Placeℕ) → i < t.count → get_or t.carry i 0 ≡ i
  pub free : (i : Placeℕ) → i < t.count → get_or t.owners i 0 ≡ no_owner

-- u holds the program of t, anchored
pub record Anchored (t u : Slots) : Type 0 where
  pub program : program_of u ≡ anchor (program_of t)
  pub sound : Sound u
