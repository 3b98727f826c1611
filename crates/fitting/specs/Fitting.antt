-- An image and the room that it is to fit, as an answer and as the room's bytes at the end.
use Rattle.rules.specs.declared.Refusal.{Refusal}
use Rattle.rules.specs.declared.Sizes.{Sizes}
use Rattle.std.specs.Prelude.{◌≡◌, List, ℕ, leb, length, Err, Result, Ok}
use Rattle.rules.specs.declared.Refusal.TheVariants.{Room}
use Rattle.rules.specs.Answers.{Judged, ok, no, ◌>>=◌, require}
use Rattle.rules.specs.Run.{front}

-- "12: .. image room too short", with the statement count
unfoldable pub fitted : (count room : ℕ) → Judged (List ℕ) → Judged (List ℕ)
fitted count room x = do
  image ← x
  require (leb (length image) room) (Room count) (ok image)

-- no listing is written, and nothing rewritten
abbrev pub answer_as : Judged (List ℕ) → Result Sizes Refusal
answer_as (ok b) = Ok (record { listing = 0; rewrites = 0; image = length b })
answer_as (no r) = Err r

-- "No lent byte changes" on refusal; "On acceptance, room beyond the result is unchanged."
abbrev pub room_as : Judged (List ℕ) → (room : List ℕ) → List ℕ
room_as (ok b) room = front b room
room_as (no r) room = room

pub record Leaves (x : Judged (List ℕ)) (r : Result Sizes Refusal) (before after : List ℕ) : Type 0 where
  pub answer : r ≡ answer_as x
  pub room : after ≡ room_as x before
