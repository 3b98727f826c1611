-- The passes of document 01 over a program, up to the variables, and what they leave in the tables.
use Rattle.rules.specs.declared.Refusal.{Refusal}
use Rattle.std.specs.Prelude.{◌≡◌, List, [], ℕ, suc, ◌≤◌, ◌<◌, get_or, ℤ, Result, Ok}
use Rattle.rules.specs.Answers.{Judged, ok, ◌>>◌}
use Rattle.rules.specs.Programs.{Placeℕ, Program}
use Rattle.rules.specs.Layout.{position}
use Rattle.rules.specs.Names.{Entry, context_at, placed}
use Rattle.rules.specs.Judging.{no_name_twice, positions_fit, define_all, names_of}
use Rattle.slots.specs.Slots.{Slots, gone_form, program_of}
use Rattle.slots.specs.Links.{contexts_read, Says}
use Rattle.env.specs.Answers.{checked_as}

-- "then 3, then 5 and 6, then variables (4, 7)": the names of a program, or the first refusal
unfoldable pub names_judged : Program → Judged (List Entry)
names_judged p = do
  no_name_twice [] (placed p)
  positions_fit (placed p)
  define_all [] (placed p)

-- the contexts of the slots are at hand
pub record Placed (t : Slots) (contexts : List ℕ) : Type 0 where
  pub context : (i : Placeℕ) → i < t.count → get_or contexts i 0 ≡ context_at (program_of t) i

-- "Each name is defined once (a local once per context)."
abbrev pub Once : Slots → Type 0
Once t = no_name_twice [] (placed (program_of t)) ≡ ok tt

-- no slot is gone: the listing as it was read
abbrev pub Whole : Slots → Type 0
Whole t = (i : Placeℕ) → i < t.count → get_or t.forms i 0 < gone_form

-- the contexts of the slots are those of the listing as it was read
abbrev pub InPlace : Slots → Type 0
InPlace t = Placed t (contexts_read t.frames t.starts t.count)

-- what the tables hold of a program whose names stand
pub record Filled (t : Slots) (links : List ℕ) (values : List ℤ) (positions : List ℕ) : Type 0 where
  pub entries : names_judged (program_of t) ≡ ok (names_of (program_of t))
  pub says : Says t (names_of (program_of t)) links values
  pub place : (i : Placeℕ) → i ≤ t.count → get_or positions i 0 ≡ position (program_of t) i
  pub low : (i : Placeℕ) → i ≤ t.count → position (program_of t) i ≤ 65536
  pub rises : (i : Placeℕ) → i < t.count → position (program_of t) i ≤ position (program_of t) (suc i)

pub record Prepared (t : Slots) (links : List ℕ) (values : List ℤ) (positions : List ℕ) (r : Result (Unit {0}) Refusal) : Type 0 where
  pub answer : r ≡ checked_as (names_judged (program_of t))
  pub filled : r ≡ Ok tt → Filled t links values positions
