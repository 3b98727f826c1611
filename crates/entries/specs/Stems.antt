-- Document 02, C-13: a run that hands out, beside the listing and the image, "the optimizer's list .. of the place each output statement
-- stems from".
use Rattle.std.specs.Prelude.{◌≡◌, List, ◌⊎◌, ℕ, ◌*◌, ◌<◌, length, take, drop, Ok, Result, Err}
use Rattle.rules.specs.declared.Refusal.{Refusal}
use Rattle.rules.specs.declared.Sizes.{Sizes}
use Rattle.rules.specs.declared.Refusal.TheVariants.{Room}
use Rattle.rules.specs.declared.Settings.{Settings}
use Rattle.rules.specs.Answers.{Judged, ok, no, ◌>>=◌, ◌>>◌, require}
use Rattle.rules.specs.Programs.{Program}
use Rattle.rules.specs.Listing.{read_listing, beside_of}
use Rattle.rules.specs.Judging.{judge}
use Rattle.rules.specs.Run.{Output, output_of, run, front, listing_after, image_after, rewritten}
use Rattle.promises.specs.Demand2.{Answered}
use Rattle.output.specs.Stems.{list_of}
use Rattle.finishing.specs.Ending.{fits_all}

-- rules' `run` with one more room; 12 gives the input's statement count, whichever room is short
unfoldable pub run_stems : Settings → (text : List ℕ) (listing_room image_room list_room : ℕ) → Judged Output
run_stems asked text listing_room image_room list_room = do
  p ← read_listing text
  judge p
  let o = output_of asked (beside_of text) p
  require (fits_all listing_room image_room list_room o) (Room (length p)) (ok o)

-- ---- what the code answers, and what the lent rooms hold at the end

abbrev pub sizes_of : Output → Sizes
sizes_of o = record { listing = length o.listing; rewrites = o.count; image = length o.image }

abbrev pub stemmed_as : Judged Output → Result (Sizes × ℕ) Refusal
stemmed_as (ok o) = Ok (sizes_of o, length o.stems)
stemmed_as (no r) = Err r

-- "No lent byte changes" on refusal; "On acceptance, room beyond the result is unchanged."
abbrev pub list_after : Judged Output → (room : List ℕ) → List ℕ
list_after (ok o) room = front (list_of o.stems) room
list_after (no r) room = room

pub record Stems (x : Judged Output) (r : Result (Sizes × ℕ) Refusal) (out image list out' image' list' : List ℕ) : Type 0 where
  pub answers : r ≡ stemmed_as x
  pub listing_is : out' ≡ listing_after x out
  pub image_is : image' ≡ image_after x image
  pub list_is : list' ≡ list_after x list

-- ---- what the answers say

-- `Ok (sizes, n)`: the listing and the image are what `optimize_jumps` leaves, with all that is promised of it, and in front of the
-- list's room stands the place that each of the n statements of the output stems from
pub record HandedOut (asked : Settings) (text out image list : List ℕ) (sizes : Sizes) (n : ℕ) (out' image' list' : List ℕ) : Type 0 where
  pub as_jumps : Answered asked text out image (Ok sizes) out' image'
  pub program : Program
  pub keeps_rules : read_listing text ≡ ok program
  pub entries : n ≡ length (rewritten asked program).stems
  pub stems : take (2 * n) list' ≡ list_of (rewritten asked program).stems
  pub beyond : drop (2 * n) list' ≡ drop (2 * n) list

-- 12 for the list's room alone
pub record ListShort (asked : Settings) (text : List ℕ) (listing_room image_room list_room : ℕ) (r : Refusal) : Type 0 where
  pub output : Output
  pub accepted : run asked text listing_room image_room ≡ ok output
  pub program : Program
  pub keeps_rules : read_listing text ≡ ok program
  pub short : list_room < 2 * length output.stems
  pub room : r ≡ Room (length program)

-- `Err r`: no lent byte changed, and `optimize_jumps` answers the same in these rooms, or the list's room alone is too short
pub record NotHandedOut (asked : Settings) (text out image list : List ℕ) (r : Refusal) (out' image' list' : List ℕ) : Type 0 where
  pub listing_kept : out' ≡ out
  pub image_kept : image' ≡ image
  pub list_kept : list' ≡ list
  pub why : (run asked text (length out) (length image) ≡ no r) ⊎ ListShort asked text (length out) (length image) (length list) r
