-- Down to the entries: what an answer `Ok` of `optimize_jumps` says of the two images and of the map that `mapping` hands out.
use Rattle.std.specs.Prelude.{◌≡◌, List, ℕ}
use Rattle.rules.specs.declared.Settings.{Settings}
use Rattle.rules.specs.Answers.{ok}
use Rattle.rules.specs.Programs.{Program}
use Rattle.rules.specs.Listing.{read_listing}
use Rattle.rules.specs.Judging.{judge}
use Rattle.mapping.specs.Rows.{rows}
use Rattle.mapwalk.specs.Stands.{Stand, SameImages}
use Rattle.mapwalk.specs.Rows.{RowsAre}

-- `bytes` is the image that was handed out for an accepted text, and `image` that of the text itself
pub record ImagesAlike (asked : Settings) (text bytes : List ℕ) : Type 0 where
  pub program : Program
  pub reads : read_listing text ≡ ok program
  pub image : List ℕ
  pub assembles : judge program ≡ ok image
  pub longs : List Stand
  pub shorts : List Stand
  pub map_is : RowsAre (rows asked program) longs shorts
  pub walks : SameImages longs shorts image bytes
