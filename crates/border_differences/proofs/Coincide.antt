-- "Show that any two results allowed by the contract coincide": each number of the answer, and every lent byte. Assumes nothing.
use mathlib.Core.Path.{◌≡◌, sym, ◌∙◌, subst}
use mathlib.Core.List.{List}
use Prim.Native.Nat.{ℕ}
use Rattle.differences.specs.declared.entry.Whose.{Whose}
use Rattle.std.specs.Prelude.{Result}
use Rattle.border_differences.specs.declared.differing.DiffersReply.{DiffersReply}
use Rattle.border_differences.specs.Replies.{SaysDiffers, TellsDifferences}

one_differing : (a : Result ℕ Whose) (r s : DiffersReply) → SaysDiffers r a → SaysDiffers s a → r ≡ s
one_differing a r s h k =
    rw (
      h.number ∙ sym k.number,
      h.place ∙ sym k.place,
      h.argument ∙ sym k.argument,
      h.amount ∙ sym k.amount,
      h.whose ∙ sym k.whose,
      h.text ∙ sym k.text,
    )

-- `mortarbee_differences`
pub one_difference : (first second : List ℕ) (given : ℕ) (pairing room : List ℕ) (r s : DiffersReply) (x y : List ℕ)
    → TellsDifferences first second given pairing r room x → TellsDifferences first second given pairing s room y → (r ≡ s) × (x ≡ y)
one_difference first second given pairing room r s x y a b =
    let e : a.answer ≡ b.answer = a.leaves.answer ∙ sym b.leaves.answer in
    (one_differing b.answer r s (subst (λ (z : Result ℕ Whose). SaysDiffers r z) e a.says) b.says, a.leaves.room ∙ sym b.leaves.room)
