-- `settling::settle_all` meets its contract. The invariant: the tables stand up to place i.
use mathlib.Core.Path.{◌≡◌}
use lib.ListN.{length}
use Rattle.env.specs.Tables.{Any}
use Rattle.env.specs.Settling.{SettledTo}
use Rattle.slots.specs.State.{starts_in, forms_in}
use Rattle.env.proofs.settling.settle_all.Given as goal

abbrev pub invariant-loop-i : goal.invariant-loop-i
invariant-loop-i l =
    (length l.positions ≡ 1025) × (length l.values ≡ 1024) × Any l.frames (starts_in l.state) l.count (forms_in l.state)
    (λ t. SettledTo t l.positions l.values l.i)
