-- What `read_back` comes to, by each test in its order.
use mathlib.Core.Path.{◌≡◌, ◌∙◌}
use mathlib.Core.List.{List}
use Prim.Native.Nat.{ℕ, ◌<◌, ◌≤◌}
use native.Mathlib.Omega.{arith}
use lib.Dec.{leb}
use lib.ListN.{length}
use borrow.Author.Tests.{lt-leb, le-leb}
use Rattle.rules.specs.declared.Refusal.TheVariants.{Limit, Room, Start}
use Rattle.rules.specs.Answers.{at_place, ok, no, require, ◌>>◌}
use Rattle.rules.specs.Programs.{Addressℕ, Program}
pub use Rattle.digits.proofs.Left.{refused, written}
use Rattle.readback.specs.ReadBack.{statements_of, listing_of, read_back}
use Rattle.readback.proofs.Short.{limits_kept, limits_passed}
use Rattle.readback.proofs.SameBytes.{all_short}

module _ (image : List ℕ) (start : Addressℕ) (room : ℕ) where
  abbrev p : Program
  p = statements_of image start

  pub beyond_end : length image < start → read_back image start room ≡ no Start
  unfolding read_back require
  beyond_end h = rw (lt-leb start (length image) h)

  pub too_long : start ≤ length image → 65536 < length image → read_back image start room ≡ no (Limit (at_place 0))
  unfolding read_back require
  too_long a h = rw (le-leb start (length image) a, lt-leb (length image) 65536 h)

  module _ (a : start ≤ length image) (b : length image ≤ 65536) where
    pub too_many : 1024 < length p → read_back image start room ≡ no (Limit (at_place 1024))
    unfolding read_back require ◌>>◌
    too_many h =
        rw (
          le-leb start (length image) a,
          require,
          le-leb (length image) 65536 b,
          require,
          limits_passed 0 0 p (all_short image start) (omega arith) (omega arith) (omega arith),
        )

    module _ (c : length p ≤ 1024) where
      -- past the limits, the room alone decides
      by_room : read_back image start room ≡ require (leb (length (listing_of p)) room) (Room (length p)) (ok (listing_of p))
      unfolding read_back require ◌>>◌
      by_room =
          rw (
            le-leb start (length image) a,
            require,
            le-leb (length image) 65536 b,
            require,
            limits_kept 0 0 p (all_short image start) (omega arith) (omega arith),
            ◌>>◌,
          )

      pub no_room : room < length (listing_of p) → read_back image start room ≡ no (Room (length p))
      unfolding require
      no_room h = by_room ∙ rw (lt-leb (length (listing_of p)) room h)

      pub all_fits : length (listing_of p) ≤ room → read_back image start room ≡ ok (listing_of p)
      unfolding require
      all_fits h = by_room ∙ rw (le-leb (length (listing_of p)) room h)
