-- C-22: what the function for C answers, a struct of numbers, the first 0 where nothing is refused.
use Rattle.rules.specs.declared.Refusal.{Refusal}
use Rattle.std.specs.Prelude.{◌≡◌, ℕ, Err, Result, Ok}
use Rattle.rules.specs.Refusals.{Fault, fault_of}
use Rattle.salvage.specs.declared.walks.Extent.{Extent}
use Rattle.border.specs.declared.salvaging.SavedReply.{SavedReply}
use Rattle.border_core.specs.Replies.{nothing}

abbrev pub saved_fault : Result Extent Refusal → Fault
saved_fault (Ok e) = nothing
saved_fault (Err r) = fault_of r

-- a number of what was salvaged
abbrev pub of_saved : (Extent → ℕ) → Result Extent Refusal → ℕ
of_saved f (Ok e) = f e
of_saved f (Err r) = 0

pub record SaysSaved (r : SavedReply) (a : Result Extent Refusal) : Type 0 where
  pub number : r.number ≡ (saved_fault a).number
  pub place : r.place ≡ (saved_fault a).place
  pub argument : r.argument ≡ (saved_fault a).argument
  pub amount : r.amount ≡ (saved_fault a).amount
  pub statements : r.statements ≡ of_saved (λ e. e.statements) a
  pub listing : r.listing ≡ of_saved (λ e. e.listing) a
  pub report : r.report ≡ of_saved (λ e. e.report) a
