-- What the entry `targets` answers to a listing and a room, and what it leaves in it.
use Rattle.rules.specs.declared.Refusal.{Refusal}
use Rattle.targets.specs.declared.Counts.{Counts}
use Rattle.std.specs.Prelude.{◌≡◌, List, ℕ, leb, length, Err, Result, Ok}
use Rattle.laws.specs.Lists.{total, each}
use Rattle.laws.specs.Counts.{tab}
use Rattle.rules.specs.declared.Settings.{Settings}
use Rattle.rules.specs.declared.Refusal.TheVariants.{Room}
use Rattle.rules.specs.Answers.{Judged, ok, no, ◌>>=◌, require}
use Rattle.rules.specs.Programs.{Program}
use Rattle.rules.specs.Run.{front}
use Rattle.starting.specs.Begun.{accepted}
use Rattle.targets.specs.Targets.{Target, is_same, targets_in, targets, mark_byte, target_line}

unfoldable pub target_lines : List Target → List ℕ
target_lines ts = each target_line ts

-- how many need eyes
abbrev pub mark_of : Target → ℕ
mark_of t = mark_byte (is_same t)

unfoldable pub marks : List Target → ℕ
marks ts = total mark_of ts

-- the lines fit the room, or 12 with the statement count
unfoldable pub fitted : (count room : ℕ) → List Target → Judged (List Target)
fitted count room ts = require (leb (length (target_lines ts)) room) (Room count) (ok ts)

-- the targets, or the listing's refusal
unfoldable pub told : Settings → (text : List ℕ) (room : ℕ) → Judged (List Target)
told asked text room = do
  p ← accepted text
  fitted (length p) room (targets asked p)

abbrev pub answer_as : Judged (List Target) → Result Counts Refusal
answer_as (ok ts) = Ok (record { bytes = length (target_lines ts); transfers = length ts; marked = marks ts })
answer_as (no r) = Err r

-- "No lent byte changes" on refusal; "On acceptance, room beyond the result is unchanged."
abbrev pub room_as : Judged (List Target) → (room : List ℕ) → List ℕ
room_as (ok ts) room = front (target_lines ts) room
room_as (no r) room = room

pub record Leaves (x : Judged (List Target)) (r : Result Counts Refusal) (before after : List ℕ) : Type 0 where
  pub answer : r ≡ answer_as x
  pub room : after ≡ room_as x before

-- ---- words of the code's contracts

-- those of the first n places
unfoldable pub targets_to : (input end : Program) (n : ℕ) → List Target
targets_to p e n = each (targets_in p e) (tab (λ i. i) n)

-- if only the room can be refused
abbrev pub Fits : (input end : Program) → Result Counts Refusal → (before after : List ℕ) → Type 0
Fits p e r before after = Leaves (fitted (length p) (length before) (targets_to p e (length e))) r before after
