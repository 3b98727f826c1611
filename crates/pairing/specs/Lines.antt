-- The lines of a listing where they stand in its text, as the code finds them.
use Rattle.rules.specs.declared.Refusal.{Refusal}
use Rattle.std.specs.Prelude.{◌≡◌, true, List, [], map, ℕ, suc, ◌+◌, ◌≤◌, ◌<◌, ◌%◌, length, get_or, take, drop, Result, Err, Ok}
use Rattle.laws.specs.Lists.{every}
use Rattle.rules.specs.Answers.{Judged, ok, no}
use Rattle.rules.specs.Programs.{Placeℕ, Program}
use Rattle.rules.specs.Listing.{lines_of, statement_lines, is_digit}
use Rattle.listing.specs.Form.{after_mark}

-- the characters of the lines that are statements
unfoldable pub chars_of : (text : List ℕ) → List (List ℕ)
chars_of text = map (λ l. l.chars) (statement_lines (lines_of text))

abbrev pub line_in : (text : List ℕ) (i : Placeℕ) → List ℕ
line_in text i = get_or (chars_of text) i []

-- digit pairs, no more than a frame may have
pub record Written (line : List ℕ) : Type 0 where
  pub digits : every (λ c. is_digit c) line ≡ true
  pub even : length line % 2 ≡ 0
  pub short : length line ≤ 248

-- line l begins at starts[i], and its line feed ends where starts[i + 1] is
pub record LineAt (text starts : List ℕ) (i : Placeℕ) (l : List ℕ) : Type 0 where
  pub next : get_or starts (suc i) 0 ≡ get_or starts i 0 + length l + 1
  pub within : get_or starts (suc i) 0 ≤ length text
  pub part : take (length l) (drop (get_or starts i 0) text) ≡ l

-- where the first line begins that is a statement: behind the line that marks the form
abbrev pub FirstAt : (text : List ℕ) (at : ℕ) → Type 0
FirstAt text at = (drop at text ≡ after_mark text) × (at ≤ length text) × (at ≤ 5)

-- how many statements were read
abbrev pub CountedAs : Result ℕ Refusal → Judged Program → Type 0
CountedAs (Ok n) (ok p) = n ≡ length p
CountedAs (Ok n) (no r) = ⊥
CountedAs (Err q) (ok p) = ⊥
CountedAs (Err q) (no r) = q ≡ r

-- an accepted listing of n statements, and where each of its lines begins
pub record Lined (text starts : List ℕ) (n : ℕ) : Type 0 where
  pub count : n ≡ length (chars_of text)
  pub few : n ≤ 1024
  pub begins : get_or starts 0 0 ≤ 5
  pub lines : (i : Placeℕ) → i < n → LineAt text starts i (line_in text i)
  pub written : (i : Placeℕ) → i < n → Written (line_in text i)
