-- Document 02, C-22, of one line: "keep every line that is a good frame by itself, replace every other by a comment frame holding its first 119
-- bytes, and report each such line with its place from 0 and 1 or 2."
use Rattle.std.specs.Prelude.{List, [], ◌∷◌, ℕ, take}
use Rattle.laws.specs.Lists.{each}
use Rattle.rules.specs.Refusals.{fault_of}
use Rattle.rules.specs.Answers.{Judged, ok, no}
use Rattle.rules.specs.Expressions.{pair}
use Rattle.rules.specs.Programs.{Placeℕ, comment, Program}
use Rattle.rules.specs.Listing.{Line, ListingForm, read_lines}
use Rattle.rules.specs.Output.{hex_byte, line_of, frame_in}

-- "a good frame by itself": a listing of this line alone is read, by document 01's order in a line; no place and no total counts. "Text after the
-- last line feed is a bad line", since it lacks its own. "After a first line `7D02`, lines are judged by C-20's form"
unfoldable pub by_itself : ListingForm → Line → Judged Program
by_itself w l = read_lines w 0 0 (l ∷ [])

-- "Good lines come out byte for byte"; for any other "a comment frame holding its first 119 bytes", and "replacing comments get line 0"
abbrev pub stands : ListingForm → Judged Program → Line → List ℕ
stands w (ok p) l = l.chars
stands w (no r) l = each (λ b. hex_byte b) (frame_in w 0 (comment (take 119 l.chars)))

-- what comes out for a line, its line feed apart
abbrev pub standing : ListingForm → Line → List ℕ
standing w l = stands w (by_itself w l) l

-- "report each such line with its place from 0 and 1 or 2": 7B, the number, the place in two bytes
abbrev pub told : (i : Placeℕ) → Judged Program → List ℕ
told i (ok p) = []
told i (no r) = line_of (0x7B ∷ (fault_of r).number ∷ pair i)

-- "all are left off, and the report says from which": 7C, the place in two bytes
abbrev pub left_from : (i : Placeℕ) → List ℕ
left_from i = line_of (0x7C ∷ pair i)
