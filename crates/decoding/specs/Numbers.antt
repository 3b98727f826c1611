-- The code's answer for an argument's number.
use Rattle.std.specs.Prelude.{cond, ℤ, None, ℕ, Option, Some}
use Rattle.rules.specs.Values.{below, nat}

abbrev pub number_as : ℤ → Option ℕ
number_as z = cond (below 65536 z) (Some (nat z)) None
