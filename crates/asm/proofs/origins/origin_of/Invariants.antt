-- `asm::origins::origin_of` meets its contract. The invariant: the origin is found from place i on.
use mathlib.Core.Path.{◌≡◌}
use Rattle.rules.specs.Layout.{origin_from}
use Rattle.slots.specs.Slots.{program_of}
use Rattle.env.specs.Tables.{Any}
use Rattle.asm.proofs.Finding.{from_place}
use Rattle.slots.specs.State.{starts_in, forms_in}
use Rattle.asm.proofs.origins.origin_of.Given as goal

abbrev pub invariant-loop-i : goal.invariant-loop-i
invariant-loop-i l =
    Any l.frames (starts_in l.state) l.count (forms_in l.state) (λ t. origin_from 0 0 (program_of t) l.address.0
    ≡ from_place (program_of t) l.address.0 l.i)
