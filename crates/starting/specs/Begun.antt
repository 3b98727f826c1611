-- What an answer about the rewriting starts from: a listing that is accepted, and the tables that hold its anchored program.
use Rattle.rules.specs.declared.Refusal.{Refusal}
use Rattle.std.specs.Prelude.{◌≡◌, List, true, ℕ, Result, Err, Ok}
use Rattle.rules.specs.Answers.{Judged, ok, no, ◌>>=◌, ◌>>◌}
use Rattle.rules.specs.Programs.{Program}
use Rattle.rules.specs.Listing.{read_listing}
use Rattle.rules.specs.Judging.{judge, assembles}
use Rattle.rules.specs.Rewriting.{anchor}
use Rattle.promises.specs.Demand2.{Input}
use Rattle.slots.specs.Slots.{Slots, program_of}
use Rattle.slots.specs.Links.{Beside}
use Rattle.listing.specs.Tables.{input_of}
use Rattle.asm.specs.Verdicts.{verdict_as}
use Rattle.attempts.specs.Standing.{Standing}

-- the statements of a listing that keeps the listing rules and assembles as given; the refusals are those of a run, but for 12
unfoldable pub accepted : (text : List ℕ) → Judged Program
accepted text = do
  p ← read_listing text
  judge p
  ok p

-- the tables hold the program that the rewriting of p starts from: p anchored
pub record Starts (p : Program) (t : Slots) (links : List ℕ) : Type 0 where
  pub anchored : program_of t ≡ anchor p
  pub stands : Standing t
  pub good : assembles (program_of t) ≡ true
  pub beside : Beside t.frames t.starts t.count links

-- the verdict on p, and what the tables hold where it is good
pub record AnchoredAs (p : Program) (r : Result (Unit {0}) Refusal) (t : Slots) (links : List ℕ) : Type 0 where
  pub answer : r ≡ verdict_as (judge p)
  pub starts : r ≡ Ok tt → Starts p t links

-- and the statements as they were read
pub record Holds (p : Program) (t : Slots) (links : List ℕ) : Type 0 where
  pub input : Input p
  pub read : input_of t.frames t.starts t.count ≡ p
  pub starts : Starts p t links

-- the answer, of tables that hold so many statements
abbrev pub BegunAs : Judged Program → Result ℕ Refusal → (over : ℕ → Slots) (links : List ℕ) → Type 0
BegunAs (ok p) (Ok n) over links = Holds p (over n) links
BegunAs (ok p) (Err q) over links = ⊥
BegunAs (no r) (Ok n) over links = ⊥
BegunAs (no r) (Err q) over links = q ≡ r
