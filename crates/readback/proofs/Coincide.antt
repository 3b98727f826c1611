-- "Show that any two results allowed by the contract coincide": the answer, and every byte of the room.
use mathlib.Core.Path.{◌≡◌}
use mathlib.Core.List.{List}
use Prim.Native.Nat.{ℕ}
use lib.ListN.{length}
use Rattle.rules.specs.declared.Refusal.{Refusal}
use Rattle.rules.specs.declared.Sizes.{Sizes}
use Rattle.std.specs.Prelude.{Result}
use Rattle.digits.proofs.Left.{one_left}
use Rattle.readback.specs.ReadBack.{read_back}
use Rattle.readback.specs.Entry.{Leaves}

pub one_read_back : (image : List ℕ) (start : ℕ) (room : List ℕ) (r s : Result Sizes Refusal) (x y : List ℕ)
    → Leaves (read_back image start (length room)) r room x
    → Leaves (read_back image start (length room)) s room y → (r ≡ s) × (x ≡ y)
one_read_back image start room r s x y a b = one_left (read_back image start (length room)) room r s x y a b
