-- C-19 of one line: "text that isn't a line of this form .. is 15 .., with the column from 0 of the first byte that no good line could
-- have there, or of the line's end; then a good line whose expression passes 32 bytes or whose frame passes 120 is 2".
use Rattle.std.specs.Prelude.{◌≡◌, List, ℕ, ◌≤◌, ◌<◌, length, take, Ok, Err, Result}
use Rattle.rules.specs.Programs.{Stmt}
use Rattle.rules.specs.Output.{frame_of}
use Rattle.grammar.specs.Reading.{Line, WrongAt, Fitting}

-- s is a line of the statement x: its frame stands in the room a up to `to`, or `to` is 121, and it passes a limit
pub record Reads (s a : List ℕ) (to : ℕ) : Type 0 where
  pub x : Stmt
  pub line : Line x s
  pub size : length a ≡ 120
  pub within : to ≤ 121
  pub fits : to ≤ 120 → Fitting x
  pub ends : to ≤ 120 → to ≡ length (frame_of x)
  pub frame : to ≤ 120 → take to a ≡ frame_of x
  pub passes : 120 < to → Fitting x → ⊥

abbrev pub Answers : (s a : List ℕ) → Result ℕ ℕ → Type 0
Answers s a (Ok to) = Reads s a to
Answers s a (Err c) = WrongAt s c
