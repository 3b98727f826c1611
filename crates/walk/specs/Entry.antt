-- C-23 down to the entry: what an answer `Ok` of `optimize_jumps` says of the walk of what it wrote.
use Rattle.std.specs.Prelude.{◌≡◌, List, true, ℕ}
use Rattle.rules.specs.declared.Settings.{Settings}
use Rattle.rules.specs.Answers.{ok}
use Rattle.rules.specs.Programs.{Program}
use Rattle.rules.specs.Listing.{read_listing}
use Rattle.walk.specs.SameWalk.{only_walked, SameWalk, stem_of}

-- `written` is the listing that was handed out for an accepted text: both are read, and they walk alike
pub record WalkedAlike (asked : Settings) (text written : List ℕ) : Type 0 where
  pub program : Program
  pub reads : read_listing text ≡ ok program
  pub again : Program
  pub reads_again : only_walked program ≡ true → read_listing written ≡ ok again
  pub walks : only_walked program ≡ true → SameWalk program again (stem_of asked program)
  -- and what was handed out is such a program too, so that a second run of it walks alike once more
  pub walked_again : only_walked program ≡ true → only_walked again ≡ true
