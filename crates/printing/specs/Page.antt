-- What the program prints: the listing and the last line, as the bytes of one page, or the 7E line of a refusal.
use Rattle.std.specs.Prelude.{◌≡◌, List, [], ◌++◌, cond, ℕ, ◌+◌, ◌%◌, ◌≤◌, ◌<◌, leb, length, take, drop, Err, Result, Ok}
use Rattle.rules.specs.declared.Sizes.{Sizes}
use Rattle.rules.specs.declared.Refusal.{Refusal}
use Rattle.rules.specs.declared.Settings.{Settings}
use Rattle.rules.specs.Refusals.{Fault, fault_of}
use Rattle.rules.specs.Answers.{Judged, ok, no}
use Rattle.rules.specs.Output.{done_line, refused_line}
use Rattle.rules.specs.Run.{Output, run, answer_of, front, listing_after, image_after, printed, listing_room_of_program, image_room_of_program, program}

-- a run that is lent the page's first 62,469 bytes for its listing
pub record Lent (asked : Settings) (text page image : List ℕ) (r : Result Sizes Refusal) (page' image' : List ℕ) : Type 0 where
  pub answers : r ≡ answer_of (run asked text listing_room_of_program (length image))
  pub page_is : page' ≡ listing_after (run asked text listing_room_of_program (length image)) page
  pub image_is : image' ≡ image_after (run asked text listing_room_of_program (length image)) image

-- "a last line: 7F, rewrites in two bytes, image length in three": 13 characters, behind the listing
pub record LineFits (s : Sizes) (room : ℕ) : Type 0 where
  pub rewrites : s.rewrites < 65536
  pub image : s.image ≤ 65536
  pub listing : s.listing + 13 ≤ room

-- the numbers of an answer fit in its last line, and the line on the page; a refusal puts nothing there
abbrev pub Printable : Result Sizes Refusal → (room : ℕ) → Type 0
Printable (Ok s) room = LineFits s room
Printable (Err r) room = Unit

-- the page after an answer's last line
abbrev pub last_after : Result Sizes Refusal → (page : List ℕ) → List ℕ
last_after (Ok s) page = take s.listing page ++ front (done_line s.rewrites s.image) (drop s.listing page)
last_after (Err r) page = page

-- how much of the page an answer fills; no run fills more than the listing's room and the last line
abbrev pub page_length : Result Sizes Refusal → ℕ
page_length (Ok s) = cond (leb s.listing listing_room_of_program) (s.listing + 13) (listing_room_of_program + 13)
page_length (Err r) = 0

-- what is put on the page: "a refusal changes no byte we lent"
abbrev pub on_page : Judged Output → List ℕ
on_page (ok o) = printed (ok o)
on_page (no r) = []

-- "The program reads a listing .. and writes the new one and a last line": the page's front is what is printed, and the rest is unchanged
pub record PrintedRun (asked : Settings) (text page image : List ℕ) (r : Result Sizes Refusal) (page' image' : List ℕ) : Type 0 where
  pub answers : r ≡ answer_of (run asked text listing_room_of_program image_room_of_program)
  pub page_is : page' ≡ front (on_page (run asked text listing_room_of_program image_room_of_program)) page
  pub image_is : image' ≡ image_after (run asked text listing_room_of_program image_room_of_program) image
  pub page_length_is : page_length r ≡ length (on_page (run asked text listing_room_of_program image_room_of_program))

-- "On refusal it writes only 7E, number, place in two bytes", and C-12: "The 7E line grows by one byte and a four-byte signed number": 19
-- characters. A place and an argument that have no room there are cut to the low bytes; no run gives such a refusal
abbrev pub low_bytes : Fault → Fault
low_bytes f = record { number = f.number; place = f.place % 65536; argument = f.argument % 256; amount = f.amount }

abbrev pub refusal_line : Refusal → List ℕ
refusal_line r = refused_line (low_bytes (fault_of r))

-- what an answer gives to print: the page's front, or `refusal_line`
abbrev pub printed_of : Result Sizes Refusal → (page : List ℕ) → List ℕ
printed_of (Ok s) page = take (page_length (Ok s)) page
printed_of (Err r) page = refusal_line r

-- that is what the program prints; the rest of the page is unchanged, all of it on refusal, and the program never gives 12
pub record Prints (asked : Settings) (text page : List ℕ) (r : Result Sizes Refusal) (page' : List ℕ) : Type 0 where
  pub printed_is : printed_of r page' ≡ program asked text
  pub beyond : drop (page_length r) page' ≡ drop (page_length r) page
  pub never_12 : (s : Refusal) → r ≡ Err s → (fault_of s).number ≡ 12 → ⊥
