-- C-20, "Source lines alter no image, count or rewrite": of any two texts of the new form that differ in their source lines alone,
-- character by character.
use Rattle.std.specs.Prelude.{◌≡◌, List, [], ◌∷◌, Bool, true, false, ◌&&◌, ℕ, leb, ltb, length, get_or}
use Rattle.rules.specs.declared.Settings.{Settings}
use Rattle.rules.specs.Answers.{Judged, ok, no}
use Rattle.rules.specs.Listing.{Line, lines_of, is_digit, new_form, form_in, statement_lines, read_listing}
use Rattle.rules.specs.Run.{Output, run, assembled, answer_of, image_after}

-- "Frames of all kinds gain these four bytes after the kind byte": the eight characters of a line behind its first two
abbrev pub source_end : ℕ
source_end = 10

abbrev pub in_source : (k : ℕ) → Bool
in_source k = leb 2 k && ltb k source_end

-- two lines that differ in those characters alone; what is a digit there in the one is a digit in the other
pub record LineAlone (l l' : Line) : Type 0 where
  pub ended_alike : l.ended ≡ l'.ended
  pub as_long : length l.chars ≡ length l'.chars
  pub elsewhere : (k : ℕ) → in_source k ≡ false → get_or l.chars k 0 ≡ get_or l'.chars k 0
  pub digits : (k : ℕ) → in_source k ≡ true → is_digit (get_or l.chars k 0) ≡ is_digit (get_or l'.chars k 0)

-- as many lines, one by one
abbrev pub EachAlone : List Line → List Line → Type 0
EachAlone [] [] = Unit
EachAlone [] (l' ∷ ls') = ⊥
EachAlone (l ∷ ls) [] = ⊥
EachAlone (l ∷ ls) (l' ∷ ls') = LineAlone l l' × EachAlone ls ls'

-- two texts of the new form that differ in their source lines alone
pub record LinesAlone (text text' : List ℕ) : Type 0 where
  pub form : form_in (lines_of text) ≡ new_form
  pub form' : form_in (lines_of text') ≡ new_form
  pub lines : EachAlone (statement_lines (lines_of text)) (statement_lines (lines_of text'))

-- what is handed out for the one and for the other
pub record OutputsAlone (o o' : Output) : Type 0 where
  pub image : o.image ≡ o'.image
  pub count : o.count ≡ o'.count
  pub stems : o.stems ≡ o'.stems
  pub as_long : length o.listing ≡ length o'.listing
  pub listing : LinesAlone o.listing o'.listing

-- both runs are refused alike, or both are accepted
abbrev pub RunsAlone : Judged Output → Judged Output → Type 0
RunsAlone (no r) (no r') = r ≡ r'
RunsAlone (no r) (ok o') = ⊥
RunsAlone (ok o) (no r') = ⊥
RunsAlone (ok o) (ok o') = OutputsAlone o o'

-- both texts are read and assembled alike, refusals and their places included; and under all settings, with all rooms, their runs answer
-- alike, leave the same image room, and listings that differ in their source lines alone
pub record LinesUnseen (text text' : List ℕ) : Type 0 where
  pub reads : read_listing text ≡ read_listing text'
  pub assembles : (image_room : ℕ) → assembled text image_room ≡ assembled text' image_room
  pub runs : (asked : Settings) (listing_room image_room : ℕ)
      → RunsAlone (run asked text listing_room image_room) (run asked text' listing_room image_room)
  pub answers : (asked : Settings) (listing_room image_room : ℕ)
      → answer_of (run asked text listing_room image_room) ≡ answer_of (run asked text' listing_room image_room)
  pub image_rooms : (asked : Settings) (listing_room image_room : ℕ) (room : List ℕ)
      → image_after (run asked text listing_room image_room) room ≡ image_after (run asked text' listing_room image_room) room
