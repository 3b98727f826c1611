-- Document 02, C-19, "What C-16 writes reads back as the same statement", of whole listings: `readable_text` writes a listing for people,
-- and `read_people` reads what was written. Both by the words of their contracts.
use Rattle.rules.specs.declared.Refusal.{Refusal}
use Rattle.rules.specs.declared.Sizes.{Sizes}
use Rattle.std.specs.Prelude.{◌≡◌, List, [], ℕ, length, take, Err, Result, Ok}
use Rattle.rules.specs.declared.Refusal.TheVariants.{Limit}
use Rattle.rules.specs.Answers.{at_place, ok}
use Rattle.rules.specs.Programs.{Placeℕ, Program}
use Rattle.rules.specs.Listing.{old_form, form_in, lines_of, read_listing}
use Rattle.rules.specs.Run.{front}
use Rattle.digits.specs.Leaves.{Leaves as Left}
use Rattle.readable.specs.Readable.{readable}
use Rattle.intake.specs.Intake.{listing_of, Leaves}

-- what an entry wrote into a room, by its answer
abbrev pub written : Result Sizes Refusal → (room : List ℕ) → List ℕ
written (Ok sizes) room = take sizes.listing room
written (Err r) room = []

-- the two entries, one after the other: a listing is written into the room `text`, which is left as text', and what was written there is
-- read into the room `out`, which is left as out'
pub record Ran (listing text text' out out' : List ℕ) (a b : Result Sizes Refusal) : Type 0 where
  pub writes : Left (readable listing (length text)) a text text'
  pub reads : Leaves (written a text') b out out'

-- the listing of the statements p comes back "in the old form", and the rest of the room is what it was: it reads as p again, and a listing
-- that was in the old form is there byte for byte
pub record ReadAgain (listing : List ℕ) (p : Program) (out out' : List ℕ) (b : Result Sizes Refusal) : Type 0 where
  pub answer : b ≡ Ok (record { listing = length (listing_of p); rewrites = 0; image = 0 })
  pub room : out' ≡ front (listing_of p) out
  pub is : written b out' ≡ listing_of p
  pub form : form_in (lines_of (written b out')) ≡ old_form
  pub same : read_listing (written b out') ≡ ok p
  pub as_given : form_in (lines_of listing) ≡ old_form → written b out' ≡ listing

-- the total is passed at a line: 2, and no lent byte changes
pub record Passed (out out' : List ℕ) (b : Result Sizes Refusal) : Type 0 where
  pub place : Placeℕ
  pub answer : b ≡ Err (Limit (at_place place))
  pub room : out' ≡ out
