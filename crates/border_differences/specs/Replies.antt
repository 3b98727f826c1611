-- C-13: what the function for C answers, a struct of numbers, the first 0 where nothing is refused, and what it leaves in the room.
use Rattle.differences.specs.declared.entry.Whose.{Whose}
use Rattle.differences.specs.declared.entry.Whose.TheVariants.{OfSecond, OfFirst, OfBoth}
use Rattle.std.specs.Prelude.{◌≡◌, List, not, cond, ℕ, eqb, length, Err, Result, Ok}
use Rattle.std.proofs.Math.Option.{Option, none, some}
use Rattle.rules.specs.Refusals.{Fault, of_none, fault_of}
use Rattle.differences.specs.Differences.{differences}
use Rattle.differences.specs.Entry.{Leaves}
use Rattle.border_differences.specs.declared.differing.DiffersReply.{DiffersReply}

-- a pairing is given where the byte is not 0
abbrev pub pairing_by : (given : ℕ) (pairing : List ℕ) → Option (List ℕ)
pairing_by given pairing = cond (not (eqb given 0)) (some pairing) none

abbrev pub differs_fault : Result ℕ Whose → Fault
differs_fault (Ok n) = of_none 0
differs_fault (Err (OfFirst r)) = fault_of r
differs_fault (Err (OfSecond r)) = fault_of r
differs_fault (Err (OfBoth r)) = fault_of r

-- "1 and 2, first listing first": 1 for the first listing's, 2 for the second's
abbrev pub whose_of : Result ℕ Whose → ℕ
whose_of (Ok n) = 0
whose_of (Err (OfFirst r)) = 1
whose_of (Err (OfSecond r)) = 2
whose_of (Err (OfBoth r)) = 0

abbrev pub written_of : Result ℕ Whose → ℕ
written_of (Ok n) = n
written_of (Err (OfFirst r)) = 0
written_of (Err (OfSecond r)) = 0
written_of (Err (OfBoth r)) = 0

pub record TellsWhose (r : DiffersReply) (whose : ℕ) (f : Fault) : Type 0 where
  pub number : r.number ≡ f.number
  pub place : r.place ≡ f.place
  pub argument : r.argument ≡ f.argument
  pub amount : r.amount ≡ f.amount
  pub told : r.whose ≡ whose
  pub none : r.text ≡ 0

pub record SaysDiffers (r : DiffersReply) (a : Result ℕ Whose) : Type 0 where
  pub number : r.number ≡ (differs_fault a).number
  pub place : r.place ≡ (differs_fault a).place
  pub argument : r.argument ≡ (differs_fault a).argument
  pub amount : r.amount ≡ (differs_fault a).amount
  pub whose : r.whose ≡ whose_of a
  pub text : r.text ≡ written_of a

-- as the entry
pub record TellsDifferences (first second : List ℕ) (given : ℕ) (pairing : List ℕ) (r : DiffersReply) (before after : List ℕ) : Type 0 where
  pub answer : Result ℕ Whose
  pub says : SaysDiffers r answer
  pub leaves : Leaves (differences first second (pairing_by given pairing) (length before)) answer before after
