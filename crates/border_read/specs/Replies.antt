-- C-19: what the function for C answers, a struct of numbers, the first 0 where nothing is refused, and what it leaves in the room.
use Rattle.rules.specs.declared.Refusal.{Refusal}
use Rattle.rules.specs.declared.Sizes.{Sizes}
use Rattle.std.specs.Prelude.{◌≡◌, List, ℕ, Err, Result, Ok}
use Rattle.rules.specs.Refusals.{Fault, of_none, fault_of}
use Rattle.intake.specs.Intake.{Leaves}
use Rattle.border_read.specs.declared.ReadReply.{ReadReply}

-- "15 in place of 1, with the column": the number at fault
abbrev pub fault_in : Result Sizes Refusal → Fault
fault_in (Ok s) = of_none 0
fault_in (Err r) = fault_of r

abbrev pub length_in : Result Sizes Refusal → ℕ
length_in (Ok s) = s.listing
length_in (Err r) = 0

pub record Says (r : ReadReply) (a : Result Sizes Refusal) : Type 0 where
  pub number : r.number ≡ (fault_in a).number
  pub place : r.place ≡ (fault_in a).place
  pub argument : r.argument ≡ (fault_in a).argument
  pub amount : r.amount ≡ (fault_in a).amount
  pub listing : r.listing ≡ length_in a

-- as the entry
pub record Replies (text : List ℕ) (r : ReadReply) (before after : List ℕ) : Type 0 where
  pub answer : Result Sizes Refusal
  pub says : Says r answer
  pub leaves : Leaves text answer before after
