-- C-13, the list of stems: what the function for C answers, a struct of numbers, the first 0 where nothing is refused, and what it leaves in the rooms.
use Rattle.rules.specs.declared.Refusal.{Refusal}
use Rattle.std.specs.Prelude.{◌≡◌, List, ℕ, length, Result, Err, Ok}
use Rattle.rules.specs.declared.Settings.{Settings}
use Rattle.rules.specs.declared.Sizes.{Sizes}
use Rattle.rules.specs.Refusals.{Fault, fault_of}
use Rattle.entries.specs.Stems as entry
use Rattle.entries.specs.Stems.{run_stems}
use Rattle.border_core.specs.declared.stems.StemsReply.{StemsReply}
use Rattle.border_core.specs.Replies.{nothing}

abbrev pub stems_fault : Result (Sizes × ℕ) Refusal → Fault
stems_fault (Ok (s, n)) = nothing
stems_fault (Err r) = fault_of r

-- a number of what was handed out
abbrev pub of_stems : (Sizes → ℕ → ℕ) → Result (Sizes × ℕ) Refusal → ℕ
of_stems f (Ok (s, n)) = f s n
of_stems f (Err r) = 0

pub record SaysStems (r : StemsReply) (a : Result (Sizes × ℕ) Refusal) : Type 0 where
  pub number : r.number ≡ (stems_fault a).number
  pub place : r.place ≡ (stems_fault a).place
  pub argument : r.argument ≡ (stems_fault a).argument
  pub amount : r.amount ≡ (stems_fault a).amount
  pub listing : r.listing ≡ of_stems (λ s n. s.listing) a
  pub rewrites : r.rewrites ≡ of_stems (λ s n. s.rewrites) a
  pub image : r.image ≡ of_stems (λ s n. s.image) a
  pub stems : r.stems ≡ of_stems (λ s n. n) a

-- as the entry
pub record HandsOut (asked : Settings) (text : List ℕ) (r : StemsReply) (out image list out' image' list' : List ℕ) : Type 0 where
  pub answer : Result (Sizes × ℕ) Refusal
  pub says : SaysStems r answer
  pub leaves : entry.Stems (run_stems asked text (length out) (length image) (length list)) answer out image list out' image' list'
