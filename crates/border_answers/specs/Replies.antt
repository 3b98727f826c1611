-- What the functions for C answer: structs of numbers, the first 0 where nothing is refused.
use Rattle.audit.specs.declared.Finding.{Finding}
use Rattle.rules.specs.declared.Place.{Place}
use Rattle.rules.specs.declared.Refusal.{Refusal}
use Rattle.rules.specs.declared.Sizes.{Sizes}
use Rattle.audit.specs.declared.Finding.TheVariants.{Differs, Short, Same, Long}
use Rattle.std.specs.Prelude.{◌≡◌, ℕ, Err, None, Ok, Result, Option, Some}
use Rattle.rules.specs.Refusals.{Fault, of_none, fault_of}
use Rattle.border_answers.specs.declared.rewrites.StepsReply.{StepsReply}
use Rattle.border_answers.specs.declared.audits.AuditReply.{AuditReply}
use Rattle.border_answers.specs.declared.audits.Behind.{Behind}

-- ---- the rewrites
abbrev pub steps_fault : Result Sizes Refusal → Fault
steps_fault (Ok s) = of_none 0
steps_fault (Err r) = fault_of r

abbrev pub lines_of : Result Sizes Refusal → ℕ
lines_of (Ok s) = s.listing
lines_of (Err r) = 0

abbrev pub rewrites_of : Result Sizes Refusal → ℕ
rewrites_of (Ok s) = s.rewrites
rewrites_of (Err r) = 0

pub record SaysSteps (r : StepsReply) (a : Result Sizes Refusal) : Type 0 where
  pub number : r.number ≡ (steps_fault a).number
  pub place : r.place ≡ (steps_fault a).place
  pub argument : r.argument ≡ (steps_fault a).argument
  pub amount : r.amount ≡ (steps_fault a).amount
  pub lines : r.lines ≡ lines_of a
  pub rewrites : r.rewrites ≡ rewrites_of a

-- ---- an audit
abbrev pub owned_by : Option (Place × ℕ) → ℕ
owned_by (Some (i, o)) = 1
owned_by None = 0

abbrev pub statement_of : Option (Place × ℕ) → ℕ
statement_of (Some (i, o)) = i.0
statement_of None = 0

abbrev pub offset_of : Option (Place × ℕ) → ℕ
offset_of (Some (i, o)) = o
offset_of None = 0

pub record IsBehind (b : Behind) (o : Option (Place × ℕ)) : Type 0 where
  pub owned : b.owned ≡ owned_by o
  pub statement : b.statement ≡ statement_of o
  pub offset : b.offset ≡ offset_of o

-- a finding as its number, and what is told of it
pub record SaysAt (r : AuditReply) (finding address wanted shipped : ℕ) (o : Option (Place × ℕ)) : Type 0 where
  pub number : r.number ≡ 0
  pub place : r.place ≡ 0
  pub argument : r.argument ≡ 0
  pub amount : r.amount ≡ (of_none 0).amount
  pub finding_is : r.finding ≡ finding
  pub address_is : r.address ≡ address
  pub wanted_is : r.wanted ≡ wanted
  pub shipped_is : r.shipped ≡ shipped
  pub owned : r.owned ≡ owned_by o
  pub statement : r.statement ≡ statement_of o
  pub offset : r.offset ≡ offset_of o

-- a refusal: its four numbers, and zeros
pub record SaysFault (r : AuditReply) (f : Fault) : Type 0 where
  pub number : r.number ≡ f.number
  pub place : r.place ≡ f.place
  pub argument : r.argument ≡ f.argument
  pub amount : r.amount ≡ f.amount
  pub zeros : (r.finding ≡ 0) × (r.address ≡ 0) × (r.wanted ≡ 0) × (r.shipped ≡ 0) × (r.owned ≡ 0) × (r.statement ≡ 0) × (r.offset ≡ 0)

abbrev pub SaysAudit : AuditReply → Result Finding Refusal → Type 0
SaysAudit r (Ok Same) = SaysAt r 0 0 0 0 None
SaysAudit r (Ok (Differs a w s o)) = SaysAt r 1 a.0 w s o
SaysAudit r (Ok (Short a o)) = SaysAt r 2 a.0 0 0 o
SaysAudit r (Ok (Long a)) = SaysAt r 3 a.0 0 0 None
SaysAudit r (Err q) = SaysFault r (fault_of q)
