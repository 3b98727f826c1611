-- What the code answers of the statement that a change jump is judged by.
use Rattle.rules.specs.declared.Place.{Place}
use Rattle.std.specs.Prelude.{Option as AnOption, None, Some}
use Rattle.std.proofs.Math.Option.{Option, none, some}
use Rattle.rules.specs.Programs.{Placeℕ}

abbrev pub nearest_as : Option Placeℕ → AnOption Place
nearest_as none = None
nearest_as (some j) = Some (record { 0 = j })
