-- What `assemble` answers to a listing and an image room: rules' `assembled`, as an answer and as the room's bytes at the end.
use Rattle.std.specs.Prelude.{◌≡◌, List, ℕ, ◌≤◌, length, take, drop}
use Rattle.rules.specs.declared.Sizes.{Sizes}
use Rattle.rules.specs.Answers.{Judged, ok}
use Rattle.rules.specs.Programs.{Program}
use Rattle.rules.specs.Listing.{read_listing}
use Rattle.rules.specs.Judging.{judge}
use Rattle.fitting.specs.Fitting.{fitted}
pub use Rattle.fitting.specs.Fitting.{answer_as, room_as, Leaves}

-- the image of a program, in a room
abbrev pub image_in : (room : ℕ) → Program → Judged (List ℕ)
image_in room p = fitted (length p) room (judge p)

-- what the answer `Ok sizes` says: the text keeps the listing rules, and the room's front is what it assembles to as given. "On acceptance, room
-- beyond the result is unchanged."
pub record AsAssembled (text room : List ℕ) (sizes : Sizes) (room' : List ℕ) : Type 0 where
  pub program : Program
  pub keeps_rules : read_listing text ≡ ok program
  pub assembles : judge program ≡ ok (take sizes.image room')
  pub holds : sizes.image ≤ length room
  pub beyond : drop sizes.image room' ≡ drop sizes.image room
  pub listing_none : sizes.listing ≡ 0
  pub rewrites_none : sizes.rewrites ≡ 0
