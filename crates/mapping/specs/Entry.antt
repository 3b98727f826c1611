-- What the entry `mapping` answers to a listing and a room, and what it leaves in it.
use Rattle.rules.specs.declared.Refusal.{Refusal}
use Rattle.mapping.specs.declared.Counts.{Counts}
use Rattle.std.specs.Prelude.{◌≡◌, List, ℕ, ◌≤◌, leb, length, get_or, Err, Result, Ok}
use Rattle.laws.specs.Lists.{each}
use Rattle.rules.specs.declared.Settings.{Settings}
use Rattle.rules.specs.declared.Refusal.TheVariants.{Room}
use Rattle.rules.specs.Answers.{Judged, ok, no, ◌>>=◌, require}
use Rattle.rules.specs.Programs.{Placeℕ, Program}
use Rattle.rules.specs.Layout.{position}
use Rattle.rules.specs.Run.{front}
use Rattle.starting.specs.Begun.{accepted}
use Rattle.mapping.specs.Rows.{Row, rows_to, rows, row_line}

unfoldable pub row_lines : List Row → List ℕ
row_lines rs = each row_line rs

-- the lines fit the room, or 12 with the statement count
unfoldable pub fitted : (count room : ℕ) → List Row → Judged (List Row)
fitted count room rs = require (leb (length (row_lines rs)) room) (Room count) (ok rs)

-- the rows, or the listing's refusal
unfoldable pub mapped : Settings → (text : List ℕ) (room : ℕ) → Judged (List Row)
mapped asked text room = do
  p ← accepted text
  fitted (length p) room (rows asked p)

abbrev pub answer_as : Judged (List Row) → Result Counts Refusal
answer_as (ok rs) = Ok (record { bytes = length (row_lines rs); rows = length rs })
answer_as (no r) = Err r

-- "No lent byte changes" on refusal; "On acceptance, room beyond the result is unchanged."
abbrev pub room_as : Judged (List Row) → (room : List ℕ) → List ℕ
room_as (ok rs) room = front (row_lines rs) room
room_as (no r) room = room

pub record Leaves (x : Judged (List Row)) (r : Result Counts Refusal) (before after : List ℕ) : Type 0 where
  pub answer : r ≡ answer_as x
  pub room : after ≡ room_as x before

-- ---- words of the code's contracts

-- the addresses of the first n statements, and the one behind them
pub record Addressed (p : Program) (n : ℕ) (positions : List ℕ) : Type 0 where
  pub address : (i : Placeℕ) → i ≤ n → get_or positions i 0 ≡ position p i

-- if only the room can be refused
abbrev pub Fits : (input end : Program) → Result Counts Refusal → (before after : List ℕ) → Type 0
Fits p e r before after = Leaves (fitted (length p) (length before) (rows_to p e (length p))) r before after
