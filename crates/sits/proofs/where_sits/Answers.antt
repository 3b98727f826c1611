-- `where_sits` meets its contract, on every input: the part before n is read as a listing of its own. Assumes nothing.
use mathlib.Core.Path.{sym, ap, ◌∙◌}
use mathlib.Core.List.{List}
use Prim.Native.Nat.{ℕ}
use lib.ListN.{take}
use Rattle.std.specs.Prelude.{Err}
use Rattle.std.proofs.lemmas.Result.{err_from_is_err_and}
use Rattle.rules.specs.Listing.{read_listing}
use Rattle.listing.specs.Tables.{ListedAs}
use Rattle.sits.specs.Sits.{sits_as}
use Rattle.sits.specs.Before.{length_before}
use Rattle.sits.proofs.Reading.{sits_read, sits_unread}
use Rattle.sits.proofs.where_sits.Goals as goal
use Rattle.sits.proofs.where_sits.Goals.{After-read_listing}

-- what was read is the part before n
module _ (s : After-read_listing) where
  abbrev frames : List ℕ
  frames = s.read_listing.new.frames

  abbrev starts : List ℕ
  starts = s.read_listing.new.starts

  abbrev text : List ℕ
  text = s.args.listing.now

  listed : ListedAs frames starts s.read_listing.result (read_listing (take (length_before s.args.n text) text))
  listed = rw (← s.bytes_before-end.ensures.0) s.read_listing.ensures.listed

pub returns-in_err-count : goal.returns-in_err-count
returns-in_err-count c =
    let s = (goal.at.returns-in_err-count c).After-read_listing in
    let p = err_from_is_err_and c.from_residual.result c.from_residual.ensures.1 in
    rw p.1
    (sym (ap sits_as (sits_unread (text s) c.args.n (frames s) (starts s) p.0 c.read_listing.result (c.in_err-count.was ∙ ap Err (sym p.2))
    (listed s))))

pub returns : goal.returns
returns c =
    let s = (goal.at.returns c).After-read_listing in
    c.sits_behind.ensures
    ∙ sym (ap sits_as (sits_read (text s) c.args.n (frames s) (starts s) _ c.read_listing.result c.in_ok-count.was (listed s)).1)
