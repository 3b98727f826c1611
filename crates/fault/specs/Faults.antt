-- What `fault_of` says of a refusal: the four parts that the definition gives.
use Rattle.std.specs.Prelude.{◌≡◌}
use Rattle.rules.specs.Refusals.{Fault as Given}
use Rattle.fault.specs.declared.Fault.{Fault}

pub record IsFault (f : Fault) (g : Given) : Type 0 where
  pub number : f.number ≡ g.number
  pub place : f.place ≡ g.place
  pub argument : f.argument ≡ g.argument
  pub amount : f.amount ≡ g.amount
