-- What is handed out of an end form, and what it leaves in the lent rooms.
use Rattle.rules.specs.declared.Refusal.{Refusal}
use Rattle.rules.specs.declared.Sizes.{Sizes}
use Rattle.std.specs.Prelude.{◌≡◌, List, [], Bool, true, ◌&&◌, ℕ, leb, length, Result}
use Rattle.rules.specs.declared.Refusal.TheVariants.{Room}
use Rattle.rules.specs.Answers.{Judged, ok, require, judged_or}
use Rattle.rules.specs.Programs.{Program}
use Rattle.rules.specs.Listing.{Beside}
use Rattle.rules.specs.Judging.{judge, assembles}
use Rattle.rules.specs.Output.{write_back, compact, stems, text_of}
use Rattle.rules.specs.Run.{Output, fits, answer_of, listing_after, image_after}
use Rattle.output.specs.Stems.{list_of}
use Rattle.image.specs.Tables.{Tables, program, Ready}
use Rattle.image.specs.Encoding.{encode_slots}

-- what is handed out of an end form that n rewrites led to: its text, the places that the statements stem from, and its own image
unfoldable pub result_of : Beside → (end : Program) (n : ℕ) → Output
result_of b end n = record { listing = text_of b (stems (write_back end)) (compact (write_back end)); stems = stems (write_back end); count = n; image = judged_or (judge end) [] }

-- "(12 if its room is short)": the list has to fit too. C-18: it "has one entry for each statement that comes out"
unfoldable pub fits_all : (listing_room image_room list_room : ℕ) → Output → Bool
fits_all listing_room image_room list_room o = fits listing_room image_room o && leb (length (list_of o.stems)) list_room

-- "12: lent listing room .. or image room too short", C-13: or the list's, with the statement count
unfoldable pub roomed : (count listing_room image_room list_room : ℕ) → Output → Judged Output
roomed count listing_room image_room list_room o = require (fits_all listing_room image_room list_room o) (Room count) (ok o)

-- tables of a program that was judged good: what they encode to is its image
pub record Assembled (d : Tables) : Type 0 where
  pub ready : Ready d
  pub encodes : judge (program d) ≡ encode_slots d
  pub good : assembles (program d) ≡ true

-- the answer and both rooms at the end
pub record Delivers (x : Judged Output) (r : Result Sizes Refusal) (out image out' image' : List ℕ) : Type 0 where
  pub answers : r ≡ answer_of x
  pub listing_is : out' ≡ listing_after x out
  pub image_is : image' ≡ image_after x image

-- if only the rooms can be refused
abbrev pub Fitted : (count list_room : ℕ) → Output → Result Sizes Refusal → (out image out' image' : List ℕ) → Type 0
Fitted count list_room o r out image out' image' = Delivers (roomed count (length out) (length image) list_room o) r out image out' image'
