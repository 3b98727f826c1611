-- The slots of a listing as it was read.
use Rattle.std.specs.Prelude.{◌≡◌, List, ◌++◌, ℕ, ◌+◌, ◌<◌, get_or, drop, length, replicate}
use Rattle.laws.specs.Counts.{tab}
use Rattle.rules.specs.Programs.{Placeℕ}
use Rattle.listing.specs.Tables.{frame_at, form_in}
use Rattle.slots.specs.State.{starts_in, forms_in, carry_in, owners_in, offsets_in}

-- a row is the stripe that begins at `from`
abbrev pub Column : (starts : List ℕ) (from : ℕ) (row : List ℕ) → Type 0
Column starts from row = (length row ≡ 1025) × ((i : Placeℕ) → i < 1025 → get_or row i 0 ≡ get_or starts (from + i) 0)

-- the state of a listing as read: each instruction with its own form and its own target, no inner label
pub record Started (frames starts : List ℕ) (count : ℕ) (state : List (List ℕ)) : Type 0 where
  pub begins : starts_in state ≡ starts
  pub forms : (i : Placeℕ) → i < count → get_or (forms_in state) i 0 ≡ form_in (frame_at frames starts i)
  pub full : length (forms_in state) ≡ 1025
  pub carry : carry_in state ≡ tab (λ i. i) count ++ drop count (replicate 1025 0)
  pub owners : owners_in state ≡ replicate 1025 1024
  pub offsets : offsets_in state ≡ replicate 1025 0
