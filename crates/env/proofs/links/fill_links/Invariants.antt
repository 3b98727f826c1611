-- `links::fill_links` meets its contract. The invariant: the frames of the places below i are linked.
use mathlib.Core.Path.{◌≡◌}
use lib.ListN.{length}
use Rattle.listing.specs.Tables.{Held}
use Rattle.env.proofs.Linking.{AllTo}
use Rattle.slots.specs.State.{starts_in}
use Rattle.env.proofs.links.fill_links.Given as goal

abbrev pub invariant-loop-i : goal.invariant-loop-i
invariant-loop-i l =
    (length l.links ≡ 28672)
    × ((h : Held l.frames (starts_in l.state) l.count) → AllTo l.frames (starts_in l.state) l.count h l.names l.contexts l.i l.links)
