-- What an entry answers that writes one text into a lent room, and what it leaves there.
use Rattle.rules.specs.declared.Refusal.{Refusal}
use Rattle.rules.specs.declared.Sizes.{Sizes}
use Rattle.std.specs.Prelude.{◌≡◌, List, ℕ, length, Err, Result, Ok}
use Rattle.rules.specs.Answers.{Judged, ok, no}
use Rattle.rules.specs.Run.{front}

-- a text is written, and no image
abbrev pub answer_as : Judged (List ℕ) → Result Sizes Refusal
answer_as (ok text) = Ok (record { listing = length text; rewrites = 0; image = 0 })
answer_as (no r) = Err r

-- "No lent byte changes" on refusal; "On acceptance, room beyond the result is unchanged."
abbrev pub room_as : Judged (List ℕ) → (room : List ℕ) → List ℕ
room_as (ok text) room = front text room
room_as (no r) room = room

pub record Leaves (x : Judged (List ℕ)) (r : Result Sizes Refusal) (before after : List ℕ) : Type 0 where
  pub answer : r ≡ answer_as x
  pub room : after ≡ room_as x before
