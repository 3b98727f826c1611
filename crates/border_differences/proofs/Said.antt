-- Answers in numbers: whose refusal it is.
use mathlib.Core.Path.{◌≡◌, refl, sym, ◌∙◌, subst}
use Rattle.differences.specs.declared.entry.Whose.{Whose}
use Rattle.std.specs.Prelude.{Err, ℕ, Result}
use Rattle.differences.specs.declared.entry.Whose.TheVariants.{OfSecond, OfFirst, OfBoth}
use Rattle.rules.specs.declared.Refusal.{Refusal}
use Rattle.rules.specs.Refusals.{fault_of}
use Rattle.border_differences.specs.declared.differing.DiffersReply.{DiffersReply}
use Rattle.border_differences.specs.Replies.{differs_fault, whose_of, written_of, TellsWhose, SaysDiffers}

-- a refusal of this listing
said : (a : DiffersReply) (d : Result ℕ Whose) → TellsWhose a (whose_of d) (differs_fault d) → written_of d ≡ 0 → SaysDiffers a d
said a d h e =
    record { number = h.number; place = h.place; argument = h.argument; amount = h.amount; whose = h.told; text = h.none ∙ sym e }

module _ (a : DiffersReply) (d : Result ℕ Whose) (r : Refusal) where
  pub for_first : d ≡ Err (OfFirst r) → TellsWhose a 1 (fault_of r) → SaysDiffers a d
  for_first e h = subst (λ (x : Result ℕ Whose). SaysDiffers a x) (sym e) (said a (Err (OfFirst r)) h refl)

  pub for_second : d ≡ Err (OfSecond r) → TellsWhose a 2 (fault_of r) → SaysDiffers a d
  for_second e h = subst (λ (x : Result ℕ Whose). SaysDiffers a x) (sym e) (said a (Err (OfSecond r)) h refl)

  pub for_both : d ≡ Err (OfBoth r) → TellsWhose a 0 (fault_of r) → SaysDiffers a d
  for_both e h = subst (λ (x : Result ℕ Whose). SaysDiffers a x) (sym e) (said a (Err (OfBoth r)) h refl)
