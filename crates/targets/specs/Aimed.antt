-- What a target comes to, as the code holds it: eight bytes by place.
use Rattle.rules.specs.declared.Place.{Place}
use Rattle.std.specs.Prelude.{◌≡◌, List, [], Bool, true, ◌&&◌, not, ℕ, ◌<◌, eqb, get_or, None, Option as AnOption, Some}
use Rattle.std.proofs.Math.Option.{Option, none, some}
use Rattle.rules.specs.Forms.{is_transfer}
use Rattle.rules.specs.Programs.{Placeℕ, Program, at}
use Rattle.rules.specs.Layout.{Origin as Source}
use Rattle.patterns.specs.Targets.{form_in}
use Rattle.targets.specs.Targets.{aim_at, aim_bytes}

-- the place of an origin, FFFF for none
abbrev pub place_in : AnOption (Place × ℕ) → ℕ
place_in (Some (i, o)) = i.0
place_in None = 0xFFFF

-- two bytes hold both numbers, and no place is FFFF
abbrev pub LowByte : Option Source → Type 0
LowByte none = Unit
LowByte (some o) = (o.place < 1024) × (o.offset < 65536)

-- the eight bytes of what the target at place i comes to
pub record AimIs (p : Program) (i : Placeℕ) (l : List ℕ) : Type 0 where
  pub bytes : l ≡ aim_bytes (aim_at p i)
  pub low : LowByte (aim_at p i).byte

-- of each transfer below n
pub record AimsIn (p : Program) (n : ℕ) (aims : List (List ℕ)) : Type 0 where
  pub aim : (i : Placeℕ) → i < n → is_transfer (form_in (at p i)) ≡ true → AimIs p i (get_or aims i [])

-- both have a place, and the last four bytes are the same
abbrev pub same_bytes : (b a : List ℕ) → Bool
same_bytes b a =
    not (eqb (get_or b 4 0) 255)
    && (eqb (get_or b 4 0) (get_or a 4 0) && (eqb (get_or b 5 0) (get_or a 5 0) && (eqb (get_or b 6 0) (get_or a 6 0) && eqb (get_or b 7 0) (get_or a 7 0))))
