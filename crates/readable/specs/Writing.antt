-- What the writer says of one line, of a statement in the tables.
use Rattle.std.specs.Prelude.{◌≡◌, List, ℕ, ◌≤◌, length, take}
use Rattle.rules.specs.Programs.{Stmt}
use Rattle.text.specs.Text.{line_text}

-- its line stands at the front of a room, up to `to`
pub record Stands (x : Stmt) (room : List ℕ) (to : ℕ) : Type 0 where
  pub ends : to ≡ length (line_text x)
  pub short : to ≤ 355
  pub is : take to room ≡ line_text x
