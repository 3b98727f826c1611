-- The same down to the entry: what an answer of `optimize_jumps` says beyond crates/promises' Entry. Its contract is `Answered`, and
-- proofs/Entry starts from that alone.
use Rattle.std.specs.Prelude.{◌≡◌, List, ℕ}
use Rattle.rules.specs.declared.Settings.{Settings}
use Rattle.rules.specs.Answers.{ok}
use Rattle.rules.specs.Programs.{Placeℕ, Program}
use Rattle.rules.specs.Listing.{read_listing}
use Rattle.rules.specs.Judging.{judge}
use Rattle.promises.specs.Demand2.{output_program}
use Rattle.promises.specs.Demand3.{Aims, TargetKept}
use Rattle.believed.specs.ByAddress.{ByAddress}
use Rattle.believed.specs.Named.{NamesAlike}

-- "Who has read the shrunk code back?": `bytes` is the image that was handed out for the text. Both images are read byte by byte, by
-- origins, and each kept target names in `bytes` the byte of the statement that it named in the input's
pub record ReadBack (asked : Settings) (text bytes : List ℕ) : Type 0 where
  pub program : Program
  pub keeps_rules : read_listing text ≡ ok program
  pub image : List ℕ
  pub assembles : judge program ≡ ok image
  pub input : ByAddress program image
  pub output : ByAddress (output_program asked program) bytes
  pub named : (i s : Placeℕ) (o : ℕ) (a : Aims program i s o) (k : TargetKept asked program i s o)
      → NamesAlike asked program image i s o a k
