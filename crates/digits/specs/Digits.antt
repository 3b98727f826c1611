-- Bytes as digit pairs, and a piece stored in a room.
use Rattle.std.specs.Prelude.{List, ◌++◌, ℕ, ◌+◌, length, take, drop}
use Rattle.laws.specs.Lists.{each}
use Rattle.rules.specs.Output.{hex_byte}

abbrev pub hex_of : List ℕ → List ℕ
hex_of s = each (λ b. hex_byte b) s

-- the room d with x stored from place a on
unfoldable pub laid : (d : List ℕ) (a : ℕ) (x : List ℕ) → List ℕ
laid d a x = take a d ++ (x ++ drop (a + length x) d)
