-- Document 02, C-17: what is shown.
use Rattle.std.specs.Prelude.{◌≡◌, List, ◌⊎◌, ℕ, ◌≤◌, ◌<◌, length}
use Rattle.rules.specs.declared.Refusal.{Refusal}
use Rattle.rules.specs.declared.Refusal.TheVariants.{Broken, Limit, Back, Beyond, Absent}
use Rattle.rules.specs.Answers.{at_place, ok, no}
use Rattle.rules.specs.Programs.{Placeℕ, Program}
use Rattle.rules.specs.Listing.{lines_of, read_listing}
use Rattle.rules.specs.Layout.{position}
use Rattle.rules.specs.Names.{placed}
use Rattle.rules.specs.Judging.{positions_fit}
use Rattle.sits.specs.Sits.{lines_before, read_before, sits}

-- "For every accepted program this is the full layout's position there, and n equal to the statement count gives the end position"; above it
-- is 14
pub record FullLayout (text : List ℕ) (p : Program) : Type 0 where
  pub there : (n : Placeℕ) → n ≤ length p → sits text n ≡ ok (position p n)
  pub above : (n : Placeℕ) → length p < n → sits text n ≡ no Absent

-- "from the frames before n alone": two texts that agree on the lines before n have the same answer
abbrev pub BeforeAlone : (text text' : List ℕ) (n : Placeℕ) → Type 0
BeforeAlone text text' n = lines_before n (lines_of text) ≡ lines_before n (lines_of text') → sits text n ≡ sits text' n

-- "Refusals: 1, 2, 5 and 6 for the frames before n only, in document 01's order; then 14 if n is above the statement count": why r is given.
-- What stands before a cause has passed
pub data Cause (text : List ℕ) (n : Placeℕ) (r : Refusal) : Type 0 where
  reading : (i : Placeℕ) → i < n → (r ≡ Limit (at_place i)) ⊎ (r ≡ Broken (at_place i)) → read_before n (lines_of text) ≡ no r → Cause text n r
  laying : (p : Program) (i : Placeℕ) → read_before n (lines_of text) ≡ ok p → i < n → (r ≡ Back (at_place i)) ⊎ (r ≡ Beyond (at_place i))
      → positions_fit (placed p) ≡ no r → Cause text n r
  counting : (p : Program) → read_before n (lines_of text) ≡ ok p → positions_fit (placed p) ≡ ok tt → length p < n → r ≡ Absent
      → Cause text n r

-- 1, 2, 5 and 6 are those of the whole listing, where it is judged by document 01 and its names are left aside
pub record AsWhole (text : List ℕ) (n : Placeℕ) (r : Refusal) : Type 0 where
  pub reading : read_before n (lines_of text) ≡ no r → read_listing text ≡ no r
  pub laying : (p : Program) → read_listing text ≡ ok p → sits text n ≡ no r → (r ≡ Absent → ⊥) → positions_fit (placed p) ≡ no r
