-- What `salvage` answers to a text and two rooms, and what it leaves in them.
use Rattle.rules.specs.declared.Refusal.{Refusal}
use Rattle.std.specs.Prelude.{◌≡◌, List, ℕ, length, take, drop, Err, Result, Ok}
use Rattle.rules.specs.Answers.{Judged, ok, no}
use Rattle.rules.specs.Programs.{Program}
use Rattle.rules.specs.Listing.{read_listing}
use Rattle.rules.specs.Run.{front}
use Rattle.salvage.specs.declared.walks.Extent.{Extent}
use Rattle.salvage.specs.Salvage.{Salvaged, salvaged}

abbrev pub extent_of : Salvaged → Extent
extent_of x = record { statements = x.count; listing = length x.listing; report = length x.report }

abbrev pub answer_as : Judged Salvaged → Result Extent Refusal
answer_as (ok x) = Ok (extent_of x)
answer_as (no r) = Err r

-- "No lent byte changes" on refusal; "On acceptance, room beyond the result is unchanged."
abbrev pub listing_as : Judged Salvaged → (room : List ℕ) → List ℕ
listing_as (ok x) room = front x.listing room
listing_as (no r) room = room

abbrev pub report_as : Judged Salvaged → (room : List ℕ) → List ℕ
report_as (ok x) room = front x.report room
report_as (no r) room = room

pub record Leaves (x : Judged Salvaged) (r : Result Extent Refusal) (listing report listing' report' : List ℕ) : Type 0 where
  pub answer : r ≡ answer_as x
  pub listing_is : listing' ≡ listing_as x listing
  pub report_is : report' ≡ report_as x report

-- what the answer `Ok e` says of the rooms: the front of the first reads as a listing, the front of the second is the report, and what lies beyond
-- either is unchanged
pub record Accepted (text : List ℕ) (e : Extent) (listing report listing' report' : List ℕ) : Type 0 where
  pub program : Program
  pub reads : read_listing (take e.listing listing') ≡ ok program
  pub count : length program ≡ e.statements
  pub listing_is : take e.listing listing' ≡ (salvaged text).listing
  pub report_is : take e.report report' ≡ (salvaged text).report
  pub beyond : (drop e.listing listing' ≡ drop e.listing listing) × (drop e.report report' ≡ drop e.report report)
