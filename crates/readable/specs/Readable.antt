-- Document 02, C-16: "A listing for people. Write each statement as a text line".
use Rattle.std.specs.Prelude.{List, [], ◌∷◌, ◌++◌, ℕ, leb, length}
use Rattle.laws.specs.Lists.{each}
use Rattle.rules.specs.declared.Refusal.TheVariants.{Room}
use Rattle.rules.specs.Answers.{Judged, ok, ◌>>=◌, require}
use Rattle.rules.specs.Programs.{Stmt, Program}
use Rattle.rules.specs.Listing.{read_listing}
use Rattle.text.specs.Text.{line_text}

-- a statement's line with its line feed
abbrev pub line_of : Stmt → List ℕ
line_of s = line_text s ++ (10 ∷ [])

unfoldable pub text_of : Program → List ℕ
text_of p = each (λ s. line_of s) p

-- 12, which gives the statement count
unfoldable pub within : Program → (room : ℕ) → Judged (List ℕ)
within p room = require (leb (length (text_of p)) room) (Room (length p)) (ok (text_of p))

-- "Refusals: 1 and 2 for the frame, then 12". The line `7D02` is no statement and writes none
unfoldable pub readable : (listing : List ℕ) (room : ℕ) → Judged (List ℕ)
readable listing room = do
  p ← read_listing listing
  within p room
