-- The table of pairs: pair k has its place of the first listing at k, and that of the second 1,024 behind it.
use Rattle.std.specs.Prelude.{List, ℕ, ◌+◌, get_or}
use Rattle.laws.specs.Counts.{tab}
use Rattle.pairing.specs.Pairings.{Pair}

abbrev pub pair_at : (pairs : List ℕ) (k : ℕ) → Pair
pair_at pairs k = record { first = get_or pairs k 0; second = get_or pairs (1024 + k) 0 }

unfoldable pub pairs_in : (pairs : List ℕ) (count : ℕ) → List Pair
pairs_in pairs count = tab (pair_at pairs) count
