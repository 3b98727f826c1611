-- The verdict on a program, and what the tables hold where it is good.
use Rattle.rules.specs.declared.Refusal.{Refusal}
use Rattle.std.specs.Prelude.{◌≡◌, Result, Err, Ok}
use Rattle.rules.specs.Answers.{Judged, ok, no}
use Rattle.rules.specs.Judging.{judge}
use Rattle.image.specs.Tables.{Tables, program, Ready}
use Rattle.image.specs.Encoding.{encode_slots}

abbrev pub verdict_as : {A : Type 0} → Judged A → Result (Unit {0}) Refusal
verdict_as (ok a) = Ok tt
verdict_as (no r) = Err r

pub record JudgedAs (d : Tables) (r : Result (Unit {0}) Refusal) : Type 0 where
  pub answer : r ≡ verdict_as (judge (program d))
  pub ready : r ≡ Ok tt → Ready d
  pub encodes : r ≡ Ok tt → judge (program d) ≡ encode_slots d
