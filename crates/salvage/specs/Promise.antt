-- Document 02, C-22: what is shown.
use Rattle.std.specs.Prelude.{◌≡◌, List, [], ◌∷◌, ◌++◌, cond, ◌⊎◌, ℕ, suc, ◌≤◌, ◌<◌, ltb, length, take}
use Rattle.laws.specs.Lists.{each, total}
use Rattle.rules.specs.Answers.{ok}
use Rattle.rules.specs.Programs.{Placeℕ, Program}
use Rattle.rules.specs.Listing.{Line, lines_of, ListingForm, form_in, statement_lines, most_characters, read_listing}
use Rattle.rules.specs.Expressions.{pair}
use Rattle.rules.specs.Output.{line_of, mark_of}
use Rattle.lines.specs.Alone.{by_itself, standing, told, left_from}
use Rattle.salvage.specs.Salvage.{salvaged, salvage}

-- "The output is never refused 1 or 2", whatever the bytes of the text are; it has the text's form
pub record Reads (text : List ℕ) : Type 0 where
  pub program : Program
  pub reads : read_listing (salvaged text).listing ≡ ok program
  pub count : length program ≡ (salvaged text).count
  pub form : form_in (lines_of (salvaged text).listing) ≡ form_in (lines_of text)

-- "A good listing comes out unchanged, with an empty report."
abbrev pub Unchanged : List ℕ → Type 0
Unchanged text = (p : Program) → read_listing text ≡ ok p → salvaged text ≡ record { listing = text; count = length p; report = [] }

-- 57,344 characters, 1,024 line feeds and the first line of five; nine characters for each statement and seven: such rooms are never too
-- short
abbrev pub NeverShort : List ℕ → Type 0
NeverShort text =
    (listing_room report_room : ℕ) → 58373 ≤ listing_room → 9223 ≤ report_room → salvage text listing_room report_room ≡ ok (salvaged text)

-- ---- line by line

-- "report each such line with its place from 0 and 1 or 2": of a line at place i nothing is told, or 1, or 2
abbrev pub OneOrTwo : ListingForm → (i : Placeℕ) → Line → Type 0
OneOrTwo w i l =
    let x : List ℕ = told i (by_itself w l) in
    (x ≡ []) ⊎ ((x ≡ line_of (0x7B ∷ 1 ∷ pair i)) ⊎ (x ≡ line_of (0x7B ∷ 2 ∷ pair i)))

-- what is told of lines from place i on: one line for each that is replaced
unfoldable pub told_from : ListingForm → (i : Placeℕ) → List Line → List ℕ
told_from w i [] = []
told_from w i (l ∷ ls) = told i (by_itself w l) ++ told_from w (suc i) ls

-- the first n of the lines ls of a listing of form w come out, with this listing and this report
pub record LineByLine (w : ListingForm) (ls : List Line) (n : ℕ) (listing report : List ℕ) : Type 0 where
  pub there : n ≤ length ls
  -- "Good lines come out byte for byte in their order", every other as its comment
  pub lines : listing ≡ mark_of w ++ each (λ l. standing w l ++ (10 ∷ [])) (take n ls)
  -- "report each such line"; and where lines are left off "the report says from which"
  pub tells : report ≡ told_from w 0 (take n ls) ++ cond (ltb n (length ls)) (left_from n) []
  -- they keep the limits, and "the first line that would pass the statement or total limit" is the first that is left off
  pub few : n ≤ 1024
  pub short : total (λ l. length (standing w l)) (take n ls) ≤ most_characters w
  pub passes : n < length ls → (n ≡ 1024) ⊎ (most_characters w < total (λ l. length (standing w l)) (take (suc n) ls))

abbrev pub AsSaid : List ℕ → Type 0
AsSaid text =
    LineByLine (form_in (lines_of text)) (statement_lines (lines_of text)) (salvaged text).count (salvaged text).listing (salvaged text).report
