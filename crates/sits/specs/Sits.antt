-- Document 02, C-17: "Where does statement n sit? .. Answer from the frames before n alone."
use Rattle.rules.specs.declared.Refusal.{Refusal}
use Rattle.rules.specs.declared.Address.{Address}
use Rattle.std.specs.Prelude.{List, [], ◌∷◌, cond, ℕ, zero, suc, leb, length, take, Err, Result, Ok}
use Rattle.rules.specs.declared.Refusal.TheVariants.{Absent}
use Rattle.rules.specs.Answers.{Judged, ok, no, ◌>>=◌, ◌>>◌, require}
use Rattle.rules.specs.Programs.{Placeℕ, Addressℕ, Program}
use Rattle.rules.specs.Listing.{Line, lines_of, is_mark, form_in, statement_lines, read_lines}
use Rattle.rules.specs.Layout.{position}
use Rattle.rules.specs.Names.{placed}
use Rattle.rules.specs.Judging.{positions_fit}

-- "the frames before n": their lines, and in front of them the line that marks their form (C-20). Before statement 0 there is none
unfoldable pub lines_before : (n : Placeℕ) → List Line → List Line
lines_before zero ls = []
lines_before (suc n) [] = []
lines_before (suc n) (l ∷ ls) = cond (is_mark l) (l ∷ take (suc n) ls) (l ∷ take n ls)

-- "1, 2 .. for the frames before n only": the totals too are theirs
unfoldable pub read_before : (n : Placeℕ) → List Line → Judged Program
read_before n ls = read_lines (form_in (lines_before n ls)) 0 0 (statement_lines (lines_before n ls))

-- p are the statements before n. "5 and 6 for the frames before n only, in document 01's order; then 14 if n is above the statement count."
-- "The address is the position before n's own org or pad", "and n equal to the statement count gives the end position"
unfoldable pub sits_among : (n : Placeℕ) → Program → Judged Addressℕ
sits_among n p = do
  positions_fit (placed p)
  require (leb n (length p)) Absent (ok (position p n))

-- the order: 1 and 2 line by line, then 5 and 6, then 14. 3 is not among them
unfoldable pub sits : (text : List ℕ) (n : Placeℕ) → Judged Addressℕ
sits text n = do
  p ← read_before n (lines_of text)
  sits_among n p

-- ---- what the code answers

abbrev pub sits_as : Judged Addressℕ → Result Address Refusal
sits_as (ok a) = Ok (record { 0 = a })
sits_as (no r) = Err r
