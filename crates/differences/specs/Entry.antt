-- What `differences` answers, and what it leaves in the lent room.
use Rattle.rules.specs.declared.Refusal.{Refusal}
use Rattle.differences.specs.declared.entry.Whose.{Whose}
use Rattle.differences.specs.declared.entry.Whose.TheVariants.{OfSecond, OfFirst, OfBoth}
use Rattle.std.specs.Prelude.{◌≡◌, List, ℕ, ◌≤◌, ◌<◌, leb, length, Err, Result, Ok, Some, None, Option as AnOption}
use Rattle.std.specs.Borrow.{Bor}
use Rattle.std.proofs.Math.Option.{Option, none, some}
use Rattle.rules.specs.declared.Refusal.TheVariants.{Room, Pairing}
use Rattle.rules.specs.Answers.{ok, require}
use Rattle.pairing.specs.Pairings.{Frames, good_entries, entries_in, pairs_of}
use Rattle.pairing.specs.Tables.{pairs_in}
use Rattle.rules.specs.Run.{front}
use Rattle.differences.specs.Differences.{Differing, text, of_first, of_second, of_both, after}

-- a pairing that is lent, if one is: an empty list is a pairing
abbrev pub given_as : AnOption (Bor (List ℕ)) → Option (List ℕ)
given_as (Some pairing) = some pairing.now
given_as None = none

abbrev pub differs_as : Differing → Result ℕ Whose
differs_as (text t) = Ok (length t)
differs_as (of_first r) = Err (OfFirst r)
differs_as (of_second r) = Err (OfSecond r)
differs_as (of_both r) = Err (OfBoth r)

-- the pairs that the table holds, which are in order, or 13
abbrev pub PairedAs : (a b : Frames) (pairing : Option (List ℕ)) (pairs : List ℕ) → Result ℕ Refusal → Type 0
PairedAs a b pairing pairs (Ok k) =
    (good_entries (length a) (length b) (entries_in pairing) ≡ length (entries_in pairing)) × (pairs_in pairs k ≡ pairs_of a b pairing) ×
    (k ≤ 1024)
PairedAs a b pairing pairs (Err r) =
    (good_entries (length a) (length b) (entries_in pairing) < length (entries_in pairing))
    × (r ≡ Pairing (good_entries (length a) (length b) (entries_in pairing)))

-- 12, or the text
unfoldable pub roomed : (t : List ℕ) (n room : ℕ) → Differing
roomed t n room = after of_both (require (leb (length t) room) (Room n) (ok t)) text

-- "No lent byte changes" on refusal; "On acceptance, room beyond the result is unchanged."
abbrev pub room_as : Differing → (room : List ℕ) → List ℕ
room_as (text t) room = front t room
room_as (of_first r) room = room
room_as (of_second r) room = room
room_as (of_both r) room = room

pub record Leaves (x : Differing) (r : Result ℕ Whose) (before after : List ℕ) : Type 0 where
  pub answer : r ≡ differs_as x
  pub room : after ≡ room_as x before
