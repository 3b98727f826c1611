-- Positions and values in one pass: what stands in the tables up to a place, and whether a program comes through.
use Rattle.std.specs.Prelude.{◌≡◌, Bool, true, ◌&&◌, List, [], ℕ, ◌≤◌, ◌<◌, ℤ, pos, get_or}
use Rattle.rules.specs.Answers.{ok, is_ok}
use Rattle.rules.specs.Programs.{Placeℕ, at}
use Rattle.rules.specs.Layout.{position}
use Rattle.rules.specs.Names.{placed}
use Rattle.rules.specs.Judging.{settles, positions_fit, define_all}
use Rattle.expression.specs.Environment.{entries_of}
use Rattle.slots.specs.Slots.{Slots, program_of}
use Rattle.slots.specs.Links.{contexts_read, names_now}
use Rattle.env.specs.Tables.{meant_at, ShownTo}

-- every statement before place i settles and has its value, and the tables hold them, with the position of place i
pub record SettledTo (t : Slots) (positions : List ℕ) (values : List ℤ) (i : Placeℕ) : Type 0 where
  pub held : (j : Placeℕ) → j ≤ i → get_or positions j 0 ≡ position (program_of t) j
  pub small : (j : Placeℕ) → j ≤ i → position (program_of t) j ≤ 65536
  pub settled : (j : Placeℕ) → j < i → settles j (position (program_of t) j) (at (program_of t) j) ≡ ok tt
  pub worth : (j : Placeℕ) → j < i → meant_at (names_now t) (contexts_read t.frames t.starts t.count) values (program_of t) j ≡ ok (get_or values j (pos 0))
  pub shown : ShownTo t values i

-- yes or no: which refusal comes first is not asked of a candidate
pub record Settled (t : Slots) (r : Bool) (positions : List ℕ) (values : List ℤ) : Type 0 where
  pub answer : r ≡ is_ok (positions_fit (placed (program_of t))) && is_ok (define_all [] (placed (program_of t)))
  pub tables : r ≡ true → SettledTo t positions values t.count
  pub fits : r ≡ true → positions_fit (placed (program_of t)) ≡ ok tt
  pub entries : r ≡ true
      → define_all [] (placed (program_of t)) ≡ ok (entries_of (names_now t) (contexts_read t.frames t.starts t.count) values t.count)
