-- `codes::encode_at` meets its contract. The invariant: what is left of the encoding from argument j on, with the fields before it in hand.
use mathlib.Core.Path.{◌≡◌}
use Prim.Native.Nat.{ℕ, ◌≤◌}
use lib.ListN.{length, get_or}
use Rattle.rules.specs.Programs.{args_of}
use Rattle.rules.specs.Names.{context_at}
use Rattle.slots.specs.Slots.{slot_at}
use Rattle.image.specs.Tables.{tables_of, program}
use Rattle.image.specs.Encoding.{encode_at}
use Rattle.image.proofs.Fields.{left_of}
use Rattle.slots.specs.State.{forms_in}
use Rattle.image.proofs.codes.encode_at.Given as goal

abbrev pub invariant-loop-j : goal.invariant-loop-j
invariant-loop-j l =
    let d = tables_of l.frames l.state l.count l.links l.values l.positions in
    let form = get_or (forms_in l.state) l.at.0 0 in
    (length l.fields ≡ 3) × ((m : ℕ) → l.j ≤ m → get_or l.fields m 0 ≡ 0)
    × (encode_at d l.at.0 ≡ left_of d.entries (program d) l.at.0 (context_at (program d) l.at.0) l.n.0 form
    (args_of (slot_at d.slots l.at.0)) l.j l.fields)
