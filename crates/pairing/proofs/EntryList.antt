-- A list of entries: how many, each by its bytes, and how many are good, turn by turn.
use mathlib.Core.Path.{◌≡◌, refl, ap, ◌∙◌}
use mathlib.Core.List.{List, [], ◌∷◌, ◌++◌}
use mathlib.Core.Bool.{true, false, ◌&&◌}
use Prim.Native.Nat.{ℕ, zero, suc, ◌+◌, ◌*◌, ◌/◌, ◌%◌, ◌≤◌, ◌<◌}
use native.Mathlib.Omega.{arith}
use lib.Dec.{leb, ltb}
use lib.ListN.{length, get_or, take, drop, drop_of_length-le}
use lib.Seq.{drop-cons, take-suc}
use Rattle.pairing.specs.Pairings.{Pair, entries_of, pairs_from, good_from}

pub entries_count : (s : List ℕ) → length (entries_of s) ≡ length s / 2 + length s % 2
unfolding entries_of
entries_count [] = refl
entries_count (b ∷ []) = refl
entries_count (high ∷ low ∷ s) = omega (arith, entries_count s)

pub entry_whole : (s : List ℕ) (k : ℕ) → 2 * k + 1 < length s → get_or (entries_of s) k 0 ≡ get_or s (2 * k) 0 * 256 + get_or s (2 * k + 1)
    0
unfolding entries_of
entry_whole [] k h = absurd (omega arith)
entry_whole (b ∷ []) k h = absurd (omega arith)
entry_whole (high ∷ low ∷ s) zero h = refl
entry_whole (high ∷ low ∷ s) (suc k) h =
    let x : 2 * suc k ≡ suc (suc (2 * k)) = omega arith in
    let y : 2 * suc k + 1 ≡ suc (suc (2 * k + 1)) = omega arith in
    rw (y, x) (entry_whole s k (omega arith))

pub entry_cut : (s : List ℕ) (k : ℕ) → k < length (entries_of s) → length s ≤ 2 * k + 1 → get_or (entries_of s) k 0 ≡ 65536
unfolding entries_of
entry_cut [] k h l = absurd (omega arith)
entry_cut (b ∷ []) zero h l = refl
entry_cut (b ∷ []) (suc k) h l = absurd (omega arith)
entry_cut (high ∷ low ∷ s) zero h l = absurd (omega arith)
entry_cut (high ∷ low ∷ s) (suc k) h l = entry_cut s k (omega arith) (omega arith)

-- ---- how many are good, from entry k on
module _ (n m low : ℕ) (is : List ℕ) (k : ℕ) where
  pub good_more : k < length is → leb low (get_or is k 0) && (ltb (get_or is k 0) n && ltb k m) ≡ true
      → good_from n m low k (drop k is) ≡ suc (good_from n m (suc (get_or is k 0)) (suc k) (drop (suc k) is))
  unfolding good_from
  good_more h e = rw (drop-cons is k 0 h, e)

  pub good_stop : k < length is → leb low (get_or is k 0) && (ltb (get_or is k 0) n && ltb k m) ≡ false → good_from n m low k (drop k is)
      ≡ 0
  unfolding good_from
  good_stop h e = rw (drop-cons is k 0 h, e)

  pub good_end : length is ≤ k → good_from n m low k (drop k is) ≡ 0
  unfolding good_from
  good_end h = rw (drop_of_length-le is h)

-- ---- the pairs of the first entries
pub length_pairs : (j : ℕ) (is : List ℕ) → length (pairs_from j is) ≡ length is
unfolding pairs_from
length_pairs j [] = refl
length_pairs j (i ∷ is) = ap suc (length_pairs (suc j) is)

pair_at : (j : ℕ) (is : List ℕ) (k : ℕ) (d : Pair) → k < length is
    → get_or (pairs_from j is) k d ≡ record { first = get_or is k 0; second = j + k }
unfolding pairs_from
pair_at j [] k d h = absurd (omega arith)
pair_at j (i ∷ is) zero d h = let z : j + 0 ≡ j = omega arith in rw z
pair_at j (i ∷ is) (suc k) d h = let z : j + suc k ≡ suc j + k = omega arith in rw z (pair_at (suc j) is k d (omega arith))

pub take_pairs : (is : List ℕ) (k : ℕ) → k < length is
    → take (suc k) (pairs_from 0 is) ≡ take k (pairs_from 0 is) ++ (record { first = get_or is k 0; second = k } ∷ [])
take_pairs is k h =
    let d : Pair = record { first = 0; second = 0 } in
    let z : 0 + k ≡ k = omega arith in
    take-suc (pairs_from 0 is) k d (omega (arith, length_pairs 0 is)) ∙ rw (pair_at 0 is k d h, z)
