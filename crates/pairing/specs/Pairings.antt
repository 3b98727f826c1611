-- Document 02, C-13: the frames of a listing, and which statements of two listings are paired.
use Rattle.std.specs.Prelude.{List, [], ◌∷◌, ◌++◌, map, reverse, ◌&&◌, cond, ℕ, zero, suc, ◌+◌, ◌-◌, ◌*◌, leb, ltb, length, drop}
use Rattle.std.proofs.Math.Option.{Option, none, some}
use Rattle.laws.specs.Lists.{same}
use Rattle.rules.specs.Programs.{Placeℕ}
use Rattle.rules.specs.Listing.{lines_of, statement_lines, unhex}

-- a frame's bytes, its source line among them, and the frames of a listing
abbrev pub Frame : Type 0
Frame = List ℕ

abbrev pub Frames : Type 0
Frames = List Frame

unfoldable pub frames_of : (text : List ℕ) → Frames
frames_of text = map (λ l. unhex l.chars) (statement_lines (lines_of text))

-- places of the first and of the second listing
pub record Pair : Type 0 where
  pub first : Placeℕ
  pub second : Placeℕ

-- ---- "It takes a pairing such as the optimizer's list .. of the place each output statement stems from (entry i pairs the second's
-- statement i)"

-- two bytes an entry, high byte first. An entry that is cut short names no statement: it lies beyond every listing
unfoldable pub entries_of : (pairing : List ℕ) → List Placeℕ
entries_of [] = []
entries_of (b ∷ []) = 65536 ∷ []
entries_of (high ∷ low ∷ s) = (high * 256 + low) ∷ entries_of s

-- the pairs of a list of entries, the first of which pairs the second's statement j
unfoldable pub pairs_from : (j : Placeℕ) → List Placeℕ → List Pair
pairs_from j [] = []
pairs_from j (i ∷ is) = record { first = i; second = j } ∷ pairs_from (suc j) is

-- "13 for a pairing out of order, repeated or beyond a listing": each entry is at `low` or above, which is one above the entry before
-- it, and below the first listing's count n; and there are no more entries than statements, m, in the second. So many entries are good,
-- up to the first that is not
unfoldable pub good_from : (n m : ℕ) (low j : Placeℕ) → List Placeℕ → ℕ
good_from n m low j [] = 0
good_from n m low j (i ∷ is) = cond (leb low i && (ltb i n && ltb j m)) (suc (good_from n m (suc i) (suc j) is)) 0

unfoldable pub good_entries : (n m : ℕ) → List Placeℕ → ℕ
good_entries n m is = good_from n m 0 0 is

-- ---- "Without one, the longest common beginning is paired, then the longest common end of the rest; the middle is removed and added."

-- how many frames two listings begin with in common
unfoldable pub common : Frames → Frames → ℕ
common [] b = 0
common (x ∷ a) [] = 0
common (x ∷ a) (y ∷ b) = cond (same x y) (suc (common a b)) 0

abbrev pub beginning : Frames → Frames → ℕ
beginning a b = common a b

-- what the beginning took is no longer there
abbrev pub ending : Frames → Frames → ℕ
ending a b = common (reverse (drop (beginning a b) a)) (reverse (drop (beginning a b) b))

-- n pairs of places, from i and j on
unfoldable pub run_of : (n : ℕ) (i j : Placeℕ) → List Pair
run_of zero i j = []
run_of (suc n) i j = record { first = i; second = j } ∷ run_of n (suc i) (suc j)

unfoldable pub default_pairs : Frames → Frames → List Pair
default_pairs a b = run_of (beginning a b) 0 0 ++ run_of (ending a b) (length a - ending a b) (length b - ending a b)

-- ---- with a pairing or without: an empty one is a pairing, in which nothing is paired

abbrev pub entries_in : (pairing : Option (List ℕ)) → List Placeℕ
entries_in none = []
entries_in (some s) = entries_of s

abbrev pub pairs_of : Frames → Frames → (pairing : Option (List ℕ)) → List Pair
pairs_of a b none = default_pairs a b
pairs_of a b (some s) = pairs_from 0 (entries_of s)
