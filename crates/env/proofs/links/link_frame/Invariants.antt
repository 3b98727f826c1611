-- `links::link_frame` meets its contract. The invariant: the bytes before a are linked.
use mathlib.Core.Path.{◌≡◌}
use lib.ListN.{length}
use Rattle.env.specs.Linking.{LinkedTo}
use Rattle.env.proofs.links.link_frame.Given as goal

abbrev pub invariant-loop-a : goal.invariant-loop-a
invariant-loop-a l =
    (length l.links ≡ 28672) × LinkedTo l.frames l.names l.contexts l.count l.context l.from l.end l.a
    l.initial.links l.links
