-- What `targets` answers for C: a struct of numbers, the first 0 where nothing is refused, and what it leaves in the room.
use Rattle.rules.specs.declared.Refusal.{Refusal}
use Rattle.targets.specs.declared.Counts.{Counts}
use Rattle.std.specs.Prelude.{◌≡◌, List, ℕ, length, Err, Result, Ok}
use Rattle.rules.specs.declared.Settings.{Settings}
use Rattle.rules.specs.Refusals.{Fault, fault_of}
use Rattle.targets.specs.Entry.{told, answer_as, room_as}
use Rattle.border_core.specs.declared.aims.TargetsReply.{TargetsReply}
use Rattle.border_core.specs.Replies.{nothing}

abbrev pub targets_fault : Result Counts Refusal → Fault
targets_fault (Ok c) = nothing
targets_fault (Err r) = fault_of r

abbrev pub bytes_of : Result Counts Refusal → ℕ
bytes_of (Ok c) = c.bytes
bytes_of (Err r) = 0

abbrev pub transfers_of : Result Counts Refusal → ℕ
transfers_of (Ok c) = c.transfers
transfers_of (Err r) = 0

abbrev pub marked_of : Result Counts Refusal → ℕ
marked_of (Ok c) = c.marked
marked_of (Err r) = 0

pub record SaysTargets (r : TargetsReply) (a : Result Counts Refusal) : Type 0 where
  pub number : r.number ≡ (targets_fault a).number
  pub place : r.place ≡ (targets_fault a).place
  pub argument : r.argument ≡ (targets_fault a).argument
  pub amount : r.amount ≡ (targets_fault a).amount
  pub lines : r.lines ≡ bytes_of a
  pub transfers : r.transfers ≡ transfers_of a
  pub marked : r.marked ≡ marked_of a

-- as the entry
pub record Aims (asked : Settings) (text : List ℕ) (r : TargetsReply) (room room' : List ℕ) : Type 0 where
  pub says : SaysTargets r (answer_as (told asked text (length room)))
  pub room_is : room' ≡ room_as (told asked text (length room)) room
