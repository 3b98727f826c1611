-- `patterns::labels::fits_owner` meets its contract: an owner is a statement of the program, and its position is the table's.
use mathlib.Core.Path.{◌≡◌, sym, ap, ◌∙◌}
use Prim.Native.Nat.{◌<◌}
use native.Mathlib.Omega.{arith}
use lib.Dec.{ltb}
use Rattle.rules.specs.Programs.{byte_count}
use Rattle.rules.specs.Layout.{position, size_in}
use Rattle.slots.specs.Slots.{Slots, slot_at, program_of}
use Rattle.slots.specs.State.{carry_in, owners_in, offsets_in, table_of}
use Rattle.patterns.specs.Labels.{of_label}
use Rattle.patterns.proofs.Programs.{at_program}
use Rattle.patterns.proofs.labels.fits_owner.Goals as goal

pub returns-in-Some : goal.returns-in-Some
returns-in-Some c =
    let t : Slots = table_of c.args.frames.now c.args.state.now c.args.count in
    let p = program_of t in
    let i = c.in-Some.owner.0 in
    let inside : i < c.args.count = c.in-Some.ensures.1 in
    let size : c.size_at.result ≡ size_in p i =
    c.size_at.ensures (carry_in c.args.state.now) (owners_in c.args.state.now) (offsets_in c.args.state.now)
    ∙ ap (λ q. byte_count q (slot_at t i)) (c.requires.1 i (omega (arith, inside)))
    ∙ ap (byte_count (position p i)) (sym (at_program t i inside)) in
    ap (ltb c.in-Some.offset) size ∙ ap (of_label (λ w o. ltb o (size_in p w))) c.in-Some.ensures.0
