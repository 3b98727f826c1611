-- `writing::write_image` meets its contract. The invariant: zeros, then the image from slot i on, then the room as it was.
use mathlib.Core.Path.{◌≡◌}
use mathlib.Core.List.{List}
use Prim.Native.Nat.{ℕ}
use lib.ListN.{length, drop}
use Rattle.rules.specs.Answers.{ok}
use Rattle.image.specs.Tables.{tables_of}
use Rattle.image.specs.Image.{image_of}
use Rattle.image.proofs.Passes.{from_slot}
use Rattle.image.proofs.Rooms.{room_of}
use Rattle.image.proofs.writing.write_image.Given as goal

abbrev pub invariant-loop-i : goal.invariant-loop-i
invariant-loop-i l =
    let d = tables_of l.frames l.state l.count l.links l.values l.positions in
    let n = length (image_of d) in
    (rest : List ℕ) × (from_slot d l.i ≡ ok rest) × (l.image ≡ room_of n rest (drop n l.initial.image))
