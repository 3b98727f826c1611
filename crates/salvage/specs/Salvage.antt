-- Document 02, C-22: "Read any text, keep every line that is a good frame by itself, replace every other by a comment frame holding its first 119
-- bytes, and report each such line with its place from 0 and 1 or 2." What becomes of one line is in crates/lines/specs.
use Rattle.std.specs.Prelude.{List, [], ◌∷◌, ◌++◌, Bool, ◌&&◌, cond, ℕ, suc, ◌+◌, leb, ltb, length}
use Rattle.rules.specs.declared.Refusal.TheVariants.{Room}
use Rattle.rules.specs.Answers.{Judged, ok, require}
use Rattle.rules.specs.Programs.{Placeℕ}
use Rattle.rules.specs.Listing.{Line, lines_of, ListingForm, form_in, statement_lines, most_characters}
use Rattle.rules.specs.Output.{mark_of}
use Rattle.lines.specs.Alone.{by_itself, standing, told, left_from}

-- the listing that comes out, how many statements it has, and the report
pub record Salvaged : Type 0 where
  pub listing : List ℕ
  pub count : ℕ
  pub report : List ℕ

abbrev pub nothing : Salvaged
nothing = record { listing = []; count = 0; report = [] }

-- "all are left off, and the report says from which"
abbrev pub left_off : (i : Placeℕ) → Salvaged
left_off i = record { listing = []; count = 0; report = left_from i }

-- a line's characters and what is told of it, in front
abbrev pub in_front : (chars telling : List ℕ) → Salvaged → Salvaged
in_front chars telling x = record { listing = chars ++ (10 ∷ x.listing); count = suc x.count; report = telling ++ x.report }

-- the statement limit and the total, of what comes out
abbrev pub keeps_limits : ListingForm → (i : Placeℕ) (sum len : ℕ) → Bool
keeps_limits w i sum len = ltb i 1024 && leb (sum + len) (most_characters w)

-- the lines from place i on, `sum` characters having come out before: "From the first line that would pass the statement or total limit on, all
-- are left off"
unfoldable pub salvage_from : ListingForm → (i : Placeℕ) (sum : ℕ) → List Line → Salvaged
salvage_from w i sum [] = nothing
salvage_from w i sum (l ∷ ls) =
    let out : List ℕ = standing w l in
    cond (keeps_limits w i sum (length out)) (in_front out (told i (by_itself w l)) (salvage_from w (suc i) (sum + length out) ls)) (left_off i)

-- the first line `7D02` is no statement, and stands in front of what comes out
abbrev pub behind_mark : ListingForm → Salvaged → Salvaged
behind_mark w x = record { listing = mark_of w ++ x.listing; count = x.count; report = x.report }

unfoldable pub salvaged : (text : List ℕ) → Salvaged
salvaged text =
    let w : ListingForm = form_in (lines_of text) in
    behind_mark w (salvage_from w 0 0 (statement_lines (lines_of text)))

-- "Refusals: 12 only, for the listing or the report": with the count of statements that would come out
unfoldable pub salvage : (text : List ℕ) (listing_room report_room : ℕ) → Judged Salvaged
salvage text listing_room report_room =
    let x : Salvaged = salvaged text in
    require (leb (length x.listing) listing_room && leb (length x.report) report_room) (Room x.count) (ok x)
