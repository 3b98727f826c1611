-- What `steps` answers to a listing and a room, and what it leaves in it.
use Rattle.rules.specs.declared.Sizes.{Sizes}
use Rattle.rules.specs.declared.Refusal.{Refusal}
use Rattle.std.specs.Prelude.{◌≡◌, List, [], ℕ, leb, length, Err, Result, Ok}
use Rattle.rules.specs.declared.Settings.{Settings}
use Rattle.rules.specs.declared.Refusal.TheVariants.{Room}
use Rattle.rules.specs.Answers.{Judged, ok, no, ◌>>=◌, require}
use Rattle.rules.specs.Programs.{Program}
use Rattle.rules.specs.Run.{front}
use Rattle.starting.specs.Begun.{accepted}
use Rattle.steps.specs.Steps.{Rewrite, steps, step_lines}

-- the rewrites, or the listing's refusal; 12 where the room is too short for their lines, with the statement count
unfoldable pub told : Settings → (text : List ℕ) (room : ℕ) → Judged (List Rewrite)
told asked text room = do
  p ← accepted text
  require (leb (length (step_lines (steps asked p))) room) (Room (length p)) (ok (steps asked p))

abbrev pub answer_as : Judged (List Rewrite) → Result Sizes Refusal
answer_as (ok rs) = Ok (record { listing = length (step_lines rs); rewrites = length rs; image = 0 })
answer_as (no r) = Err r

-- "No lent byte changes" on refusal; "On acceptance, room beyond the result is unchanged."
abbrev pub room_as : Judged (List Rewrite) → (room : List ℕ) → List ℕ
room_as (ok rs) room = front (step_lines rs) room
room_as (no r) room = room

pub record Leaves (x : Judged (List Rewrite)) (r : Result Sizes Refusal) (before after : List ℕ) : Type 0 where
  pub answer : r ≡ answer_as x
  pub room : after ≡ room_as x before

-- ---- words of the code's contracts

-- how many statements and rewrites there are
abbrev pub counted_as : Settings → Judged Program → Result (ℕ × ℕ) Refusal
counted_as asked (ok p) = Ok (length p, length (steps asked p))
counted_as asked (no r) = Err r

-- the lines of an accepted listing
abbrev pub lines_for : Settings → Judged Program → List ℕ
lines_for asked (ok p) = step_lines (steps asked p)
lines_for asked (no r) = []
