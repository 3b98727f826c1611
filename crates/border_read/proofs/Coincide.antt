-- "Show that any two results allowed by the contract coincide": each number of the answer, and every byte of the room. Assumes nothing.
use mathlib.Core.Path.{◌≡◌, sym, ◌∙◌, subst}
use mathlib.Core.List.{List}
use Prim.Native.Nat.{ℕ}
use Rattle.rules.specs.declared.Refusal.{Refusal}
use Rattle.rules.specs.declared.Sizes.{Sizes}
use Rattle.std.specs.Prelude.{Result}
use Rattle.intake.proofs.Coincide.{one_read}
use Rattle.border_read.specs.declared.ReadReply.{ReadReply}
use Rattle.border_read.specs.Replies.{Says, Replies}

one_said : (a : Result Sizes Refusal) (r s : ReadReply) → Says r a → Says s a → r ≡ s
one_said a r s h k =
    rw (
      h.number ∙ sym k.number,
      h.place ∙ sym k.place,
      h.argument ∙ sym k.argument,
      h.amount ∙ sym k.amount,
      h.listing ∙ sym k.listing,
    )

pub one_reply : (text room : List ℕ) (r s : ReadReply) (x y : List ℕ) → Replies text r room x → Replies text s room y → (r ≡ s) × (x ≡ y)
one_reply text room r s x y a b =
    let e = one_read text room b.answer a.answer y x b.leaves a.leaves in
    (one_said a.answer r s a.says (subst (λ z. Says s z) e.0 b.says), sym e.1)
