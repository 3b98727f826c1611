-- The names of a program that assembles stand, and the contexts of one under rewriting, whatever targets its slots carry.
use mathlib.Core.Path.{◌≡◌}
use mathlib.Core.List.{List}
use mathlib.Core.Bool.{true, false}
use Prim.Native.Nat.{ℕ}
use lib.IntN.{ℤ}
use Rattle.std.specs.Prelude.{Result, Err}
use Rattle.laws.proofs.Tests.{clash, false_true}
use Rattle.rules.specs.declared.Refusal.{Refusal}
use Rattle.rules.specs.Answers.{Judged, ok, no, is_ok}
use Rattle.rules.specs.Judging.{judge, assembles}
use Rattle.slots.specs.Slots.{Slots, slots, program_of}
use Rattle.slots.specs.Links.{contexts_read}
use Rattle.env.specs.Tables.{Any}
use Rattle.asm.specs.Assembling.{InPlace, Prepared}
use Rattle.asm.specs.Verdicts.{verdict_as}
use Rattle.asm.proofs.Ending.{judged_refused}
use Rattle.asm.proofs.Carrying.{placed_any}
use Rattle.attempts.specs.Standing.{Standing}

pub standing_placed : (frames starts : List ℕ) (n : ℕ) (forms c w o : List ℕ) → Standing (slots frames starts n forms c w o)
    → Any frames starts n forms (λ t. InPlace t)
standing_placed frames starts n forms c w o s = placed_any frames starts n forms c w o (contexts_read frames starts n) s.context

bad_no : (x : Judged (List ℕ)) (q : Refusal) → Err q ≡ verdict_as x → is_ok x ≡ true → false ≡ true
unfolding is_ok
bad_no (ok b) q e h = clash (cc)
bad_no (no r) q e h = h

-- they are not refused where it assembles
pub never_refused {ℓ} : {X : Type ℓ} (t : Slots) (links : List ℕ) (values : List ℤ) (positions : List ℕ) (r : Result (Unit {0}) Refusal) (q : Refusal)
    → assembles (program_of t) ≡ true → Prepared t links values positions r → r ≡ Err q → X
unfolding assembles
never_refused t links values positions r q h p e = false_true (bad_no (judge (program_of t)) q (judged_refused t links values positions r q p e).answer h)
