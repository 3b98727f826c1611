-- What is shown of the rewrites: "their number is the count of the 7F line, and doing them one by one on the input gives the output".
use Rattle.std.specs.Prelude.{◌≡◌, List, ℕ, ◌≤◌, ◌<◌, length}
use Rattle.std.proofs.Math.Option.{some}
use Rattle.rules.specs.declared.Settings.{Settings}
use Rattle.rules.specs.declared.Refusal.{Refusal}
use Rattle.rules.specs.declared.Refusal.TheVariants.{Room}
use Rattle.rules.specs.Answers.{ok, no}
use Rattle.rules.specs.Programs.{Program, at}
use Rattle.rules.specs.Rewriting.{anchor, optimized}
use Rattle.rules.specs.Run.{Output, rewritten, run}
use Rattle.starting.specs.Begun.{accepted}
use Rattle.steps.specs.Steps.{Rewrite, seat_of, steps, doing_all, step_lines}
use Rattle.steps.specs.Entry.{told}

-- of an accepted program. The input is anchored before, and the output is the end form written back: `Run.rewritten` says how
pub record AsDone (asked : Settings) (p : Program) : Type 0 where
  pub counted : length (steps asked p) ≡ (rewritten asked p).count
  pub done : doing_all (anchor p) (steps asked p) ≡ some (optimized asked p).program

-- where a rewrite can be done, what it says stood there stood there, and what it says stands there now does: the form and the place whose target it carries
pub record Seated (p q : Program) (r : Rewrite) : Type 0 where
  pub old : seat_of (at p r.place) ≡ r.old
  pub new : seat_of (at q r.place) ≡ r.new

-- of the rewrites that are told, whatever room was lent: they are those of the program that the text reads as, and as many as any run of it counts
pub record ToldDone (asked : Settings) (text : List ℕ) (rs : List Rewrite) : Type 0 where
  pub program : Program
  pub reads : accepted text ≡ ok program
  pub done : doing_all (anchor program) rs ≡ some (optimized asked program).program
  pub counted : (o : Output) (listing_room image_room : ℕ) → run asked text listing_room image_room ≡ ok o → length rs ≡ o.count

-- a refusal but 12 is the run's, whatever rooms that is lent, both ways. 12 has the statement count, of a room that does not hold the lines; a room of
-- 3,072 lines always does
pub record AsRun (asked : Settings) (text : List ℕ) (room : ℕ) : Type 0 where
  pub refused : (r : Refusal) → ((n : ℕ) → r ≡ Room n → ⊥) → told asked text room ≡ no r → (listing_room image_room : ℕ) → run asked text listing_room image_room ≡ no r
  pub back : (r : Refusal) → ((n : ℕ) → r ≡ Room n → ⊥) → (listing_room image_room : ℕ) → run asked text listing_room image_room ≡ no r → told asked text room ≡ no r
  pub short : (n : ℕ) → told asked text room ≡ no (Room n) → (p : Program) × (accepted text ≡ ok p) × (n ≡ length p) × (room < length (step_lines (steps asked p)))
  pub enough : (n : ℕ) → 64512 ≤ room → told asked text room ≡ no (Room n) → ⊥
