-- The differences say each statement of both listings once, in order, with its place and its frame.
use mathlib.Core.Path.{◌≡◌, refl, ◌∙◌}
use mathlib.Core.List.{List, [], ◌∷◌, ◌++◌, append-nil}
use mathlib.Core.Bool.{Bool, true, false, cond}
use Prim.Native.Nat.{ℕ, zero, suc, ◌+◌, ◌-◌, ◌<◌, ◌≤◌}
use native.Mathlib.Omega.{arith}
use lib.ListN.{length, get_or}
use Rattle.laws.specs.Lists.{each, same}
use Rattle.laws.proofs.Lists.{same_true, each_append}
use Rattle.pairing.specs.Pairings.{Frame, Frames, Pair}
use Rattle.differences.specs.Changes.{Change, kept, changed, paired, removed_from, added_from, between, changes_of}
use Rattle.pairing.specs.Promise.{InOrder}
use Rattle.differences.specs.Promise.{Entry, in_first, in_second, entries_from, SaysBoth}

abbrev firsts : List Change → List Entry
firsts ds = each (λ d. in_first d) ds

abbrev seconds : List Change → List Entry
seconds ds = each (λ d. in_second d) ds

-- a run, and what follows it
entries_add : (a : Frames) (n m i : ℕ) → entries_from a n i ++ entries_from a m (i + n) ≡ entries_from a (n + m) i
unfolding entries_from
entries_add a zero m i = let z : i + 0 ≡ i = omega arith in let y : 0 + m ≡ m = omega arith in rw (z, y)
entries_add a (suc n) m i =
    let z : i + suc n ≡ suc i + n = omega arith in
    let y : suc n + m ≡ suc (n + m) = omega arith in
    rw (z, y, entries_add a n m (suc i))

removed_first : (a : Frames) (n i : ℕ) → firsts (removed_from a n i) ≡ entries_from a n i
unfolding removed_from entries_from each
removed_first a zero i = refl
removed_first a (suc n) i = rw (removed_first a n (suc i))

removed_second : (a : Frames) (n i : ℕ) → seconds (removed_from a n i) ≡ []
unfolding removed_from each
removed_second a zero i = refl
removed_second a (suc n) i = removed_second a n (suc i)

added_first : (b : Frames) (n j : ℕ) → firsts (added_from b n j) ≡ []
unfolding added_from each
added_first b zero j = refl
added_first b (suc n) j = added_first b n (suc j)

added_second : (b : Frames) (n j : ℕ) → seconds (added_from b n j) ≡ entries_from b n j
unfolding added_from entries_from each
added_second b zero j = refl
added_second b (suc n) j = rw (added_second b n (suc j))

paired_first : (i j : ℕ) (x y : Frame) → in_first (paired i j x y) ≡ record { place = i; frame = x } ∷ []
paired_first i j x y = on (same x y) refl
  where
    on : (t : Bool) → same x y ≡ t → in_first (cond t (kept i j y) (changed i j x y)) ≡ record { place = i; frame = x } ∷ []
    on true e = rw (same_true x y e)
    on false e = refl

paired_second : (i j : ℕ) (x y : Frame) → in_second (paired i j x y) ≡ record { place = j; frame = y } ∷ []
paired_second i j x y = on (same x y)
  where
    on : (t : Bool) → in_second (cond t (kept i j y) (changed i j x y)) ≡ record { place = j; frame = y } ∷ []
    on true = refl
    on false = refl

-- a run up to a place, the statement there, and the rest
joined : (a : Frames) (i m : ℕ) → i ≤ m → m < length a
    → entries_from a (m - i) i ++ (record { place = m; frame = get_or a m [] } ∷ entries_from a (length a - suc m) (suc m)) ≡ entries_from a
    (length a - i) i
joined a i m h l =
    let z : i + (m - i) ≡ m = omega arith in
    let y : m - i + suc (length a - suc m) ≡ length a - i = omega arith in
    let e = entries_add a (m - i) (suc (length a - suc m)) i in
    let d : entries_from a (suc (length a - suc m)) m ≡ record { place = m; frame = get_or a m [] } ∷ entries_from a (length a - suc m)
    (suc m) = unfold entries_from in refl in
    rw (z, y, d) at e

-- two runs, a statement, and the rest
in_parts : (F : Change → List Entry) (r s : List Change) (c : Change) (rest : List Change)
    → each F (r ++ (s ++ (c ∷ rest))) ≡ each F r ++ (each F s ++ (F c ++ each F rest))
unfolding each
in_parts F r s c rest = rw (each_append F r (s ++ (c ∷ rest)), each_append F s (c ∷ rest))

module _ (a b : Frames) where
  firsts_say : (i j : ℕ) (ps : List Pair) → InOrder (length a) (length b) i j ps
      → firsts (between a b i j ps) ≡ entries_from a (length a - i) i
  unfolding between
  firsts_say i j [] h =
      each_append (λ d. in_first d) (removed_from a (length a - i) i) (added_from b (length b - j) j)
      ∙ rw (removed_first a (length a - i) i, added_first b (length b - j) j) (append-nil (entries_from a (length a - i) i))
  firsts_say i j (p ∷ ps) h =
      let m : ℕ = p.first in
      let n : ℕ = p.second in
      in_parts (λ d. in_first d) (removed_from a (m - i) i) (added_from b (n - j) j) (paired m n (get_or a m []) (get_or b n []))
      (between a b (suc m) (suc n) ps)
      ∙ rw (
        removed_first a (m - i) i,
        added_first b (n - j) j,
        paired_first m n (get_or a m []) (get_or b n []),
        firsts_say (suc m)
            (suc n) ps h.4,
      )
      (joined a i m h.0 h.1)

  seconds_say : (i j : ℕ) (ps : List Pair) → InOrder (length a) (length b) i j ps
      → seconds (between a b i j ps) ≡ entries_from b (length b - j) j
  unfolding between
  seconds_say i j [] h =
      each_append (λ d. in_second d) (removed_from a (length a - i) i) (added_from b (length b - j) j)
      ∙ rw (removed_second a (length a - i) i, added_second b (length b - j) j)
  seconds_say i j (p ∷ ps) h =
      let m : ℕ = p.first in
      let n : ℕ = p.second in
      in_parts (λ d. in_second d) (removed_from a (m - i) i) (added_from b (n - j) j) (paired m n (get_or a m []) (get_or b n []))
      (between a b (suc m) (suc n) ps)
      ∙ rw (
        removed_second a (m - i) i,
        added_second b (n - j) j,
        paired_second m n (get_or a m []) (get_or b n []),
        seconds_say (suc m)
            (suc n) ps h.4,
      )
      (joined b j n h.2 h.3)

pub says_both : (a b : Frames) (ps : List Pair) → InOrder (length a) (length b) 0 0 ps → SaysBoth a b (changes_of a b ps)
unfolding changes_of
says_both a b ps h =
    let x : length a - 0 ≡ length a = omega arith in
    let y : length b - 0 ≡ length b = omega arith in
    record { first = rw x at (firsts_say a b 0 0 ps h); second = rw y at (seconds_say a b 0 0 ps h) }
