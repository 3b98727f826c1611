-- `layout::lay_out` meets its contract. The invariant: every statement before place i settles, and the table is filled below i.
use mathlib.Core.Path.{◌≡◌}
use lib.ListN.{length}
use Prim.Native.Nat.{◌≤◌}
use Rattle.env.specs.Tables.{Any}
use Rattle.env.proofs.Positions.{LaidTo}
use Rattle.slots.specs.State.{starts_in, forms_in}
use Rattle.env.proofs.layout.lay_out.Given as goal

abbrev pub invariant-loop-i : goal.invariant-loop-i
invariant-loop-i l =
    (length l.positions ≡ 1025) × (l.here.0 ≤ 65536) × Any l.frames (starts_in l.state) l.count (forms_in l.state)
    (λ t. LaidTo t l.here.0 l.initial.positions l.positions l.i)
