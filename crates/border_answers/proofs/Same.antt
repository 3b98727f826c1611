-- Equal answers are said by the same numbers, and any two results of each function for C coincide: each number, and every lent byte.
use mathlib.Core.Path.{◌≡◌, sym, ◌∙◌, subst}
use mathlib.Core.List.{List}
use Prim.Native.Nat.{ℕ}
use lib.ListN.{length}
use Rattle.audit.specs.declared.Finding.{Finding}
use Rattle.rules.specs.declared.Place.{Place}
use Rattle.rules.specs.declared.Refusal.{Refusal}
use Rattle.rules.specs.declared.Sizes.{Sizes}
use Rattle.audit.specs.declared.Finding.TheVariants.{Differs, Short, Same, Long}
use Rattle.std.specs.Prelude.{None, Ok, Err, Result, Option}
use Rattle.rules.specs.declared.Settings.{Settings}
use Rattle.rules.specs.Refusals.{Fault, fault_of}
use Rattle.steps.specs.Entry.{told, answer_as, room_as, Leaves}
use Rattle.why.specs.Entry.{told as why_told, answer_as as why_answer, room_as as why_room}
use Rattle.border_answers.specs.declared.rewrites.StepsReply.{StepsReply}
use Rattle.border_answers.specs.declared.audits.AuditReply.{AuditReply}
use Rattle.border_answers.specs.Replies.{SaysSteps, SaysAt, SaysFault, SaysAudit}

pub steps_same : (r : StepsReply) (a b : Result Sizes Refusal) → a ≡ b → SaysSteps r a → SaysSteps r b
steps_same r a b e h = subst (λ (x : Result Sizes Refusal). SaysSteps r x) e h

pub audit_same : (r : AuditReply) (a b : Result Finding Refusal) → a ≡ b → SaysAudit r a → SaysAudit r b
audit_same r a b e h = subst (λ (x : Result Finding Refusal). SaysAudit r x) e h

-- the same is answered to equal settings
pub as_asked : (asked given : Settings) (text out : List ℕ) (a : Result Sizes Refusal) (out' : List ℕ) → asked ≡ given → Leaves (told asked text (length out)) a out out'
    → Leaves (told given text (length out)) a out out'
as_asked asked given text out a out' e h = subst (λ (x : Settings). Leaves (told x text (length out)) a out out') e h

one_said : (a : Result Sizes Refusal) (r s : StepsReply) → SaysSteps r a → SaysSteps s a → r ≡ s
one_said a r s h k =
    rw (
      h.number ∙ sym k.number,
      h.place ∙ sym k.place,
      h.argument ∙ sym k.argument,
      h.amount ∙ sym k.amount,
      h.lines ∙ sym k.lines,
      h.rewrites ∙ sym k.rewrites,
    )

module _ (asked : Settings) (text room : List ℕ) (r s : StepsReply) (x y : List ℕ) where
  -- `mortarbee_steps`
  pub one_steps : let t = told asked text (length room) in
      SaysSteps r (answer_as t) × (x ≡ room_as t room) → SaysSteps s (answer_as t) × (y ≡ room_as t room) → (r ≡ s) × (x ≡ y)
  one_steps a b = (one_said _ r s a.0 b.0, a.1 ∙ sym b.1)

  -- `mortarbee_why`
  pub one_why : let t = why_told asked text (length room) in
      SaysSteps r (why_answer t) × (x ≡ why_room t room) → SaysSteps s (why_answer t) × (y ≡ why_room t room) → (r ≡ s) × (x ≡ y)
  one_why a b = (one_said _ r s a.0 b.0, a.1 ∙ sym b.1)

-- `mortarbee_audit`, which is lent no room: each number
pub record Alike (r s : AuditReply) : Type 0 where
  pub number : r.number ≡ s.number
  pub place : r.place ≡ s.place
  pub argument : r.argument ≡ s.argument
  pub amount : r.amount ≡ s.amount
  pub finding : r.finding ≡ s.finding
  pub address : r.address ≡ s.address
  pub wanted : r.wanted ≡ s.wanted
  pub shipped : r.shipped ≡ s.shipped
  pub owned : r.owned ≡ s.owned
  pub statement : r.statement ≡ s.statement
  pub offset : r.offset ≡ s.offset

alike_at : (r s : AuditReply) (f a w x : ℕ) (o : Option (Place × ℕ)) → SaysAt r f a w x o → SaysAt s f a w x o → Alike r s
alike_at r s f a w x o h k =
    record {
      number = h.number ∙ sym k.number;
      place = h.place ∙ sym k.place;
      argument = h.argument ∙ sym k.argument;
      amount = h.amount ∙ sym k.amount;
      finding = h.finding_is ∙ sym k.finding_is;
      address = h.address_is ∙ sym k.address_is;
      wanted = h.wanted_is ∙ sym k.wanted_is;
      shipped = h.shipped_is ∙ sym k.shipped_is;
      owned = h.owned ∙ sym k.owned;
      statement = h.statement ∙ sym k.statement;
      offset = h.offset ∙ sym k.offset;
    }

alike_refused : (r s : AuditReply) (f : Fault) → SaysFault r f → SaysFault s f → Alike r s
alike_refused r s f h k =
    record {
      number = h.number ∙ sym k.number;
      place = h.place ∙ sym k.place;
      argument = h.argument ∙ sym k.argument;
      amount = h.amount ∙ sym k.amount;
      finding = h.zeros.0 ∙ sym k.zeros.0;
      address = h.zeros.1 ∙ sym k.zeros.1;
      wanted = h.zeros.2 ∙ sym k.zeros.2;
      shipped = h.zeros.3 ∙ sym k.zeros.3;
      owned = h.zeros.4 ∙ sym k.zeros.4;
      statement = h.zeros.5 ∙ sym k.zeros.5;
      offset = h.zeros.6 ∙ sym k.zeros.6;
    }

pub one_audit : (r s : AuditReply) (a : Result Finding Refusal) → SaysAudit r a → SaysAudit s a → Alike r s
one_audit r s (Ok Same) h k = alike_at r s 0 0 0 0 None h k
one_audit r s (Ok (Differs a w x o)) h k = alike_at r s 1 a.0 w x o h k
one_audit r s (Ok (Short a o)) h k = alike_at r s 2 a.0 0 0 o h k
one_audit r s (Ok (Long a)) h k = alike_at r s 3 a.0 0 0 None h k
one_audit r s (Err q) h k = alike_refused r s (fault_of q) h k
