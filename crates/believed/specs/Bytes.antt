-- Document 01, "Values, names, places": "Lower byte is v mod 256, upper byte is floor(v/256) mod 256, both 0 to 255."
use Rattle.rules.specs.declared.Unvalued.{Unvalued}
use Rattle.std.specs.Prelude.{◌≡◌, ℕ, ◌<◌, ℤ, pos, Result, Ok}
use Rattle.rules.specs.declared.Op1.TheVariants.{Upper, Lower}
use Rattle.rules.specs.Values.{apply1}

abbrev pub IsOfByte : Result ℤ Unvalued → Type 0
IsOfByte o = (b : ℕ) × (b < 256) × (o ≡ Ok (pos b))

pub record BothBytes (v : ℤ) : Type 0 where
  pub lower : IsOfByte (apply1 Lower v)
  pub upper : IsOfByte (apply1 Upper v)
