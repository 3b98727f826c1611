-- "Show that any two results allowed by the contract coincide": the answer, and every byte of the room.
use mathlib.Core.Path.{◌≡◌, sym, ◌∙◌}
use mathlib.Core.List.{List}
use Prim.Native.Nat.{ℕ}
use lib.ListN.{length}
use Rattle.std.proofs.Math.Option.{Option}
use Rattle.differences.specs.declared.entry.Whose.{Whose}
use Rattle.std.specs.Prelude.{Result}
use Rattle.differences.specs.Differences.{differences}
use Rattle.differences.specs.Entry.{Leaves}

pub one_difference : (first second : List ℕ) (pairing : Option (List ℕ)) (room : List ℕ) (r s : Result ℕ Whose) (x y : List ℕ)
    → Leaves (differences first second pairing (length room)) r room x
    → Leaves (differences first second pairing (length room)) s room y → (r ≡ s) × (x ≡ y)
one_difference first second pairing room r s x y a b = (a.answer ∙ sym b.answer, a.room ∙ sym b.room)
