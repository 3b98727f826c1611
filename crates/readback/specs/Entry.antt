-- What the answer of `read_back` to an image, a start and a room says of the room.
use Rattle.std.specs.Prelude.{◌≡◌, List, ℕ, take, drop}
use Rattle.rules.specs.declared.Sizes.{Sizes}
use Rattle.rules.specs.Programs.{Addressℕ}
use Rattle.readback.specs.Promise.{SameBytes}
pub use Rattle.digits.specs.Leaves.{answer_as, room_as, Leaves}

-- what the answer `Ok sizes` says: the room's front assembles to the image's bytes from the start on, and what lies beyond is unchanged
pub record Accepted (image : List ℕ) (start : Addressℕ) (room : List ℕ) (sizes : Sizes) (after : List ℕ) : Type 0 where
  pub same : SameBytes image start (take sizes.listing after)
  pub beyond : drop sizes.listing after ≡ drop sizes.listing room
