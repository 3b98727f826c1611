-- `checking::encode_all` meets its contract. The invariant: the answer is that of the slots from i on.
use mathlib.Core.Path.{◌≡◌}
use Rattle.image.specs.Tables.{tables_of}
use Rattle.image.specs.Encoding.{encode_slots, checked_as}
use Rattle.image.proofs.Passes.{from_slot}
use Rattle.image.proofs.checking.encode_all.Given as goal

abbrev pub invariant-loop-i : goal.invariant-loop-i
invariant-loop-i l =
    let d = tables_of l.frames l.state l.count l.links l.values l.positions in
    checked_as (encode_slots d) ≡ checked_as (from_slot d l.i)
