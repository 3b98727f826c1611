-- `names::fill_names` meets its contract. The invariant: the table is filled below i.
use mathlib.Core.Path.{◌≡◌}
use lib.ListN.{length}
use Rattle.env.specs.Tables.{Any}
use Rattle.env.proofs.Naming.{NamesTo}
use Rattle.slots.specs.State.{starts_in, forms_in}
use Rattle.env.proofs.names.fill_names.Given as goal

abbrev pub invariant-loop-i : goal.invariant-loop-i
invariant-loop-i l =
    (length l.names ≡ 1024) × Any l.frames (starts_in l.state) l.count (forms_in l.state)
    (λ t. NamesTo t l.initial.names l.names l.i)
