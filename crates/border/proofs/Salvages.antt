-- C-22, for C: equal answers are said by the same numbers, and two results coincide.
use mathlib.Core.Path.{◌≡◌, sym, subst, ◌∙◌}
use mathlib.Core.List.{List}
use Prim.Native.Nat.{ℕ}
use lib.ListN.{length}
use Rattle.rules.specs.declared.Refusal.{Refusal}
use Rattle.salvage.specs.declared.walks.Extent.{Extent}
use Rattle.std.specs.Prelude.{Result}
use Rattle.rules.specs.Answers.{Judged}
use Rattle.salvage.specs.Salvage.{Salvaged, salvage}
use Rattle.salvage.specs.Entry.{answer_as, listing_as, report_as}
use Rattle.border.specs.declared.salvaging.SavedReply.{SavedReply}
use Rattle.border.specs.Salvaging.{SaysSaved}

pub saved_same : (r : SavedReply) (a b : Result Extent Refusal) → a ≡ b → SaysSaved r a → SaysSaved r b
saved_same r a b e h = subst (λ (x : Result Extent Refusal). SaysSaved r x) e h

one_saved : (a : Result Extent Refusal) (r s : SavedReply) → SaysSaved r a → SaysSaved s a → r ≡ s
one_saved a r s h k =
    rw (
      h.number ∙ sym k.number,
      h.place ∙ sym k.place,
      h.argument ∙ sym k.argument,
      h.amount ∙ sym k.amount,
      h.statements ∙ sym k.statements,
      h.listing ∙ sym k.listing,
      h.report ∙ sym k.report,
    )

-- what the contract says of the answer and of both rooms
abbrev Ended : (x : Judged Salvaged) (listing report : List ℕ) (r : SavedReply) (listing' report' : List ℕ) → Type 0
Ended x listing report r listing' report' = SaysSaved r (answer_as x) × (listing' ≡ listing_as x listing) × (report' ≡ report_as x report)

-- `mortarbee_salvage`
pub one_salvaged : (text listing report : List ℕ) (r s : SavedReply) (l m p q : List ℕ)
    → let x = salvage text (length listing) (length report) in
    Ended x listing report r l p → Ended x listing report s m q → (r ≡ s) × (l ≡ m) × (p ≡ q)
one_salvaged text listing report r s l m p q a b = (one_saved _ r s a.0 b.0, a.1 ∙ sym b.1, a.2 ∙ sym b.2)
