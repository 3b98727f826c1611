-- `writing::image_length` meets its contract. The invariant: nothing of the image is left from slot i on.
use mathlib.Core.List.{List}
use Prim.Native.Nat.{ℕ}
use lib.IntN.{ℤ}
use Rattle.image.specs.Tables.{tables, Ready}
use Rattle.image.proofs.Images.{Done}
use Rattle.slots.specs.State.{starts_in, forms_in}
use Rattle.image.proofs.writing.image_length.Given as goal

abbrev pub invariant-loop-i : goal.invariant-loop-i
invariant-loop-i l =
    (carry owners offsets links : List ℕ) (values : List ℤ) →
    let d = tables l.frames (starts_in l.state) l.count (forms_in l.state) carry owners offsets links values l.positions in
    Ready d → Done d l.i
