-- What the code says of the walk over the lines of a text.
use Rattle.std.specs.Prelude.{Bool, true, false, List, [], ◌∷◌, ℕ, zero, suc, drop}
use Rattle.rules.specs.Expressions.{pair}
use Rattle.rules.specs.Programs.{Placeℕ}
use Rattle.rules.specs.Listing.{lines_of, ListingForm}
use Rattle.rules.specs.Output.{line_of}
use Rattle.salvage.specs.Salvage.{Salvaged, salvage_from}

-- what comes out of the lines from byte q of a text on, of which the first has place i
abbrev pub from_on : ListingForm → (text : List ℕ) (q : ℕ) (i : Placeℕ) (sum : ℕ) → Salvaged
from_on w text q i sum = salvage_from w i sum (lines_of (drop q text))

-- where the statements begin: behind the mark
abbrev pub mark_length : (marked : Bool) → ℕ
mark_length true = 5
mark_length false = 0

-- how many characters are told of a line with this number
abbrev pub told_length : (number : ℕ) → ℕ
told_length zero = 0
told_length (suc n) = 9

-- and which
abbrev pub told_of : (number : ℕ) (i : Placeℕ) → List ℕ
told_of zero i = []
told_of (suc n) i = line_of (0x7B ∷ suc n ∷ pair i)
