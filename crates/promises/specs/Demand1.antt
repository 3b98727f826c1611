-- Demand 1 of the letter: "It ends with an answer or with one of twelve numbered refusals naming a statement".
use Rattle.std.specs.Prelude.{◌≡◌, List, [], ◌∷◌, Bool, true, false, ℕ, ◌<◌, length}
use Rattle.laws.specs.Lists.{is_one_of}
use Rattle.rules.specs.declared.Settings.{Settings}
use Rattle.rules.specs.declared.Refusal.{Refusal}
use Rattle.rules.specs.declared.Refusal.TheVariants.{Room}
use Rattle.rules.specs.Refusals.{fault_of}
use Rattle.rules.specs.Answers.{ok, no}
use Rattle.rules.specs.Programs.{Program}
use Rattle.rules.specs.Listing.{read_listing, beside_of}
use Rattle.rules.specs.Names.{Entry, placed}
use Rattle.rules.specs.Judging.{no_name_twice, positions_fit, define_all, encode_all, judge}
use Rattle.rules.specs.Run.{output_of, fits}

-- a refusal with one of these numbers
abbrev pub has_number : List ℕ → Refusal → Bool
has_number xs r = is_one_of xs (fault_of r).number

-- a refusal with one of these numbers, about one of n statements: "Each returns its number and the statement's place from 0"
pub record Blames (xs : List ℕ) (n : ℕ) (r : Refusal) : Type 0 where
  pub number : has_number xs r ≡ true
  pub place : (fault_of r).place < n

-- "Order: 1 and 2 line by line, then 3, then 5 and 6, then variables (4, 7), then encoding by statement and argument, then 12." The causes in this
-- order: what stands before a cause has passed, and "No number is given without its cause". "After the first assembly only 12 can be given."
pub data Cause (asked : Settings) (text : List ℕ) (listing_room image_room : ℕ) (r : Refusal) : Type 0 where
  reading : read_listing text ≡ no r → has_number (1 ∷ 2 ∷ []) r ≡ true → Cause asked text listing_room image_room r
  naming : (p : Program) → read_listing text ≡ ok p → no_name_twice [] (placed p) ≡ no r → Blames (3 ∷ []) (length p) r → Cause asked text listing_room image_room r
  laying : (p : Program) → read_listing text ≡ ok p → no_name_twice [] (placed p) ≡ ok tt → positions_fit (placed p) ≡ no r
      → Blames (5 ∷ 6 ∷ []) (length p) r → Cause asked text listing_room image_room r
  defining : (p : Program) → read_listing text ≡ ok p → no_name_twice [] (placed p) ≡ ok tt → positions_fit (placed p) ≡ ok tt
      → define_all [] (placed p) ≡ no r → Blames (4 ∷ 7 ∷ []) (length p) r → Cause asked text listing_room image_room r
  encoding : (p : Program) (names : List Entry) → read_listing text ≡ ok p → no_name_twice [] (placed p) ≡ ok tt → positions_fit (placed p) ≡ ok tt
      → define_all [] (placed p) ≡ ok names → encode_all names p (placed p) ≡ no r → Blames (4 ∷ 7 ∷ 8 ∷ 9 ∷ 10 ∷ 11 ∷ []) (length p) r
      → Cause asked text listing_room image_room r
  room : (p : Program) (image : List ℕ) → read_listing text ≡ ok p → judge p ≡ ok image → fits listing_room image_room (output_of asked (beside_of text) p) ≡ false
      → r ≡ Room (length p) → Cause asked text listing_room image_room r
