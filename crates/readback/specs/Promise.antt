-- Document 02, C-21: what is shown.
use Rattle.std.specs.Prelude.{◌≡◌, List, Bool, true, false, ℕ, ◌≤◌, length, drop}
use Rattle.laws.specs.Lists.{every}
use Rattle.rules.specs.Answers.{ok}
use Rattle.rules.specs.Programs.{Addressℕ, Stmt, Program, on_instr}
use Rattle.rules.specs.Listing.{read_listing, old_form, beside_of}
use Rattle.rules.specs.Layout.{gap}
use Rattle.rules.specs.Judging.{judge}
use Rattle.decoding.specs.Promise.{is_plain_operand}
use Rattle.readback.specs.ReadBack.{statements_of, listing_of, read_back}

-- "Assembling any accepted result gives the same bytes from that start on": the listing keeps document 01's rules, reads as the program, and
-- assembles to zero bytes before the start and the image's own from there on; a start at the end leaves no byte at all
pub record SameBytes (image : List ℕ) (start : Addressℕ) (listing : List ℕ) : Type 0 where
  pub program : Program
  pub reads : read_listing listing ≡ ok program
  pub form : (beside_of listing).form ≡ old_form
  pub assembles : judge program ≡ ok (gap start (drop start image))
  -- so no more than 3,072 bytes are ever read back: 1,024 statements of three bytes
  pub few : length (drop start image) ≤ 3072

-- ---- and the other way: an image that was assembled from instructions with plain numbers gives these instructions again

-- an instruction whose arguments are registers and plain numbers
abbrev pub is_plain_instr : Stmt → Bool
is_plain_instr s = on_instr false (λ x. every is_plain_operand x.args) s

abbrev pub PlainInstrs : Program → Type 0
PlainInstrs p = every is_plain_instr p ≡ true

-- from the start on, in enough room, the listing's own statements come out, and their text in the old form
pub record SameListing (image : List ℕ) (start : Addressℕ) (p : Program) : Type 0 where
  pub statements : statements_of image start ≡ p
  pub answers : (room : ℕ) → length (listing_of p) ≤ room → read_back image start room ≡ ok (listing_of p)
