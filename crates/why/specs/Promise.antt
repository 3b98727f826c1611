-- What is shown of the entry: "at the end form every candidate has such a reason, so the list is complete".
use Rattle.std.specs.Prelude.{◌≡◌, true, List, ℕ, ◌≤◌}
use Rattle.std.proofs.Math.Option.{none}
use Rattle.laws.specs.Lists.{every}
use Rattle.rules.specs.declared.Settings.{Settings}
use Rattle.rules.specs.declared.Refusal.{Refusal}
use Rattle.rules.specs.declared.Refusal.TheVariants.{Room}
use Rattle.rules.specs.Answers.{ok, no}
use Rattle.rules.specs.Programs.{Program}
use Rattle.rules.specs.Rewriting.{step, optimized}
use Rattle.rules.specs.Run.{Output, run}
use Rattle.starting.specs.Begun.{accepted}
use Rattle.staying.specs.Reasons.{whys}
use Rattle.staying.specs.Promise.{is_reason, Complete, Listed}
use Rattle.staying.specs.Exactly.{Exactly}
use Rattle.why.specs.Entry.{Told, told}

-- of a listing whose reasons are told: they are those of its end form, where no rewrite remains; none says that an attempt counts, nothing is left out, and
-- each Jmpf and Callf that is left and each branch that begins a pattern has its lines, and nothing else has; each reason is the true one
pub record AllTold (asked : Settings) (text : List ℕ) (x : Told) : Type 0 where
  pub program : Program
  pub accepted_as : accepted text ≡ ok program
  pub at_end : x.whys ≡ whys asked (optimized asked program).program
  pub ended : step asked (optimized asked program).program ≡ none
  pub reasoned : every (λ w. is_reason w.reason) x.whys ≡ true
  pub complete : Complete asked (optimized asked program).program
  pub listed : Listed asked (optimized asked program).program
  pub exactly : Exactly asked (optimized asked program).program

-- a refusal but 12 is the run's, whatever rooms that is lent; and 12 is never given of a room that holds two lines for each of 1,024 statements
pub record AsRun (asked : Settings) (text : List ℕ) (room : ℕ) : Type 0 where
  pub refused : (r : Refusal) → accepted text ≡ no r → told asked text room ≡ no r
  pub as_run : (r : Refusal) → accepted text ≡ no r → (listing_room image_room : ℕ) → run asked text listing_room image_room ≡ no r
  pub enough : (n : ℕ) → 55296 ≤ room → told asked text room ≡ no (Room n) → ⊥
  -- the rewrites are those that the run counts
  pub counted : (x : Told) (o : Output) (listing_room image_room : ℕ) → told asked text room ≡ ok x → run asked text listing_room image_room ≡ ok o → x.rewrites ≡ o.count
