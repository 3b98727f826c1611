-- "Show that any two results allowed by the contract coincide": the answer, and every byte of the room.
use mathlib.Core.Path.{◌≡◌}
use mathlib.Core.List.{List}
use Prim.Native.Nat.{ℕ}
use lib.ListN.{length}
use Rattle.rules.specs.declared.Refusal.{Refusal}
use Rattle.rules.specs.declared.Sizes.{Sizes}
use Rattle.std.specs.Prelude.{Result}
use Rattle.digits.specs.Leaves.{Leaves}
use Rattle.digits.proofs.Left.{one_left}
use Rattle.readable.specs.Readable.{readable}

pub one_readable : (listing room : List ℕ) (r s : Result Sizes Refusal) (x y : List ℕ)
    → Leaves (readable listing (length room)) r room x → Leaves (readable listing (length room)) s room y → (r ≡ s) × (x ≡ y)
one_readable listing room r s x y a b = one_left (readable listing (length room)) room r s x y a b
