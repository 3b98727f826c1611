-- C-17, of every statement at once: the positions of a whole listing, and the end position.
use Rattle.std.specs.Prelude.{◌≡◌, List, ℕ, ◌+◌, ◌≤◌, length, get_or, Err, Result, Ok}
use Rattle.laws.specs.Counts.{tab}
use Rattle.rules.specs.declared.Refusal.{Refusal}
use Rattle.rules.specs.Answers.{Judged, ok, no, ◌>>=◌, ◌>>◌}
use Rattle.rules.specs.Programs.{Placeℕ, Program}
use Rattle.rules.specs.Listing.{lines_of, statement_lines, read_listing}
use Rattle.rules.specs.Layout.{position}
use Rattle.rules.specs.Names.{placed}
use Rattle.rules.specs.Judging.{positions_fit}
use Rattle.rules.specs.Run.{front}
use Rattle.sits.specs.Sits.{sits}

-- "1, 2, 5 and 6 .. in document 01's order": here of all frames
unfoldable pub fitting : Program → Judged Program
fitting p = do
  positions_fit (placed p)
  ok p

unfoldable pub laid_out : (text : List ℕ) → Judged Program
laid_out text = do
  p ← read_listing text
  fitting p

-- where each statement sits, and behind them the end
abbrev pub all_positions : Program → List ℕ
all_positions p = tab (position p) (length p + 1)

-- ---- what the code answers, and what it leaves in the table

abbrev pub laid_as : Judged Program → Result ℕ Refusal
laid_as (ok p) = Ok (length p)
laid_as (no r) = Err r

abbrev pub table_after : Judged Program → (table : List ℕ) → List ℕ
table_after (ok p) table = front (all_positions p) table
table_after (no r) table = table

pub record Places (x : Judged Program) (r : Result ℕ Refusal) (before after : List ℕ) : Type 0 where
  pub answer : r ≡ laid_as x
  pub table : after ≡ table_after x before

-- ---- what is shown: the entries are what `where_sits` answers, one by one, and a refusal is what it answers for the end
pub record AsEach (text : List ℕ) : Type 0 where
  pub each : (p : Program) → laid_out text ≡ ok p → (n : Placeℕ) → n ≤ length p → sits text n ≡ ok (get_or (all_positions p) n 0)
  pub refusal : (r : Refusal) → laid_out text ≡ no r → sits text (length (statement_lines (lines_of text))) ≡ no r
