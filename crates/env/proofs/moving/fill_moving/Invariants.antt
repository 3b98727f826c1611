-- `moving::fill_moving` meets its contract. The invariant: what is left to look at stands behind the names below i that move.
use mathlib.Core.Path.{◌≡◌}
use lib.ListN.{length}
use Rattle.env.specs.Tables.{Any}
use Rattle.env.proofs.Movings.{MovingTo}
use Rattle.slots.specs.State.{starts_in, forms_in}
use Rattle.env.proofs.moving.fill_moving.Given as goal

abbrev pub invariant-loop-i : goal.invariant-loop-i
invariant-loop-i l =
    (length l.moving ≡ 1024) × Any l.frames (starts_in l.state) l.count (forms_in l.state)
    (λ t. MovingTo t l.contexts l.moving l.i)
