-- Document 02, C-24: what is shown of a run under an edition. `asked` is what the store answers: `get_in store f e`, or `newest_in store f`.
use Rattle.std.specs.Prelude.{◌≡◌, List, ◌≢◌, ℕ, take}
use Rattle.rules.specs.declared.Refusal.{Refusal}
use Rattle.rules.specs.declared.Settings.{Settings}
use Rattle.rules.specs.declared.Sizes.{Sizes}
use Rattle.rules.specs.Answers.{Judged, ok, no}
use Rattle.rules.specs.Run.{run}
use Rattle.promises.specs.Entry.{OnAcceptance, OnRefusal}
use Rattle.walk.specs.Entry.{WalkedAlike}
use Rattle.store.specs.declared.Edition.{Edition}
use Rattle.store.specs.Rooms.{after_add, after_drop}
use Rattle.editions.specs.Under.{run_edition, run_newest}

-- the answer `Ok sizes`: the store has the edition, and all that is promised of a run under its settings holds
pub record AcceptedUnder (asked : Judged Edition) (text listing image : List ℕ) (sizes : Sizes) (listing' image' : List ℕ) : Type 0 where
  pub edition : Edition
  pub found : asked ≡ ok edition
  pub on_acceptance : OnAcceptance edition.settings text listing image sizes listing' image'
  pub walked_alike : WalkedAlike edition.settings text (take sizes.listing listing')

-- the answer `Err r`: "Refusals, before any of document 01"
pub data RefusedUnder (asked : Judged Edition) (text listing image : List ℕ) (r : Refusal) (listing' image' : List ℕ) : Type 0 where
  -- the store refuses, and no lent byte changes
  by_store : asked ≡ no r → listing' ≡ listing → image' ≡ image → RefusedUnder asked text listing image r listing' image'
  -- the store has the edition, and the run under it refuses
  by_run : (e : Edition) → asked ≡ ok e → OnRefusal e.settings text listing image r listing' image'
      → RefusedUnder asked text listing image r listing' image'

-- after edition e of family f was added with these settings
pub record RunsAfterAdding (store : List ℕ) (f : ℕ) (asked : Settings) (e : ℕ) (text : List ℕ) (listing_room image_room : ℕ) : Type 0 where
  -- a run under it, and under the newest, is the run under these settings
  pub new_one : run_edition (after_add store f asked) f e text listing_room image_room ≡ run asked text listing_room image_room
  pub newest : run_newest (after_add store f asked) f text listing_room image_room ≡ run asked text listing_room image_room
  -- "never alters an old one": a run under any other edition is what it was
  pub old_ones : (g n : ℕ) → (g ≡ f → n ≡ e → ⊥)
      → run_edition (after_add store f asked) g n text listing_room image_room ≡ run_edition store g n text listing_room image_room
  pub others : (g : ℕ) → g ≢ f
      → run_newest (after_add store f asked) g text listing_room image_room ≡ run_newest store g text listing_room image_room

-- after the old editions of family f were dropped
pub record RunsAfterDropping (store : List ℕ) (f : ℕ) (text : List ℕ) (listing_room image_room : ℕ) : Type 0 where
  pub newest_stays : run_newest (after_drop store f) f text listing_room image_room ≡ run_newest store f text listing_room image_room
  pub others : (g n : ℕ) → g ≢ f
      → run_edition (after_drop store f) g n text listing_room image_room ≡ run_edition store g n text listing_room image_room
