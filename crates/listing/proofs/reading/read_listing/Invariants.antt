-- `read_listing` meets its contract: after i turns the tables hold the first i statements and their source lines, and what is left of the
-- text
use mathlib.Core.Path.{◌≡◌}
use lib.ListN.{length}
use Rattle.listing.specs.Form.{form_of}
use Rattle.listing.proofs.LineByLine.{At, LinesAt}
use Rattle.listing.proofs.reading.read_listing.Given as goal

abbrev pub invariant-loop-rest : goal.invariant-loop-rest
invariant-loop-rest l =
    At (form_of l.marked) l.text l.rest l.frames l.starts l.i × LinesAt (form_of l.marked) l.text l.rest l.lines l.i
    × (length l.frames ≡ 28672) × (length l.starts ≡ 4100) × (length l.lines ≡ 1024)

abbrev pub decreases-loop-rest : goal.decreases-loop-rest
decreases-loop-rest l = length l.rest
