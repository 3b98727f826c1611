-- Bytes stored in a room as digits, one piece behind the other.
use Rattle.std.specs.Prelude.{◌≡◌, List, ℕ, ◌+◌, ◌*◌, length}
use Rattle.digits.specs.Digits.{hex_of, laid}

-- `after` is `room` with the digits of these bytes stored from `at` on; they end at `end`
pub record Put (room : List ℕ) (at : ℕ) (bytes after : List ℕ) (end : ℕ) : Type 0 where
  pub is : after ≡ laid room at (hex_of bytes)
  pub ends : end ≡ at + 2 * length bytes
