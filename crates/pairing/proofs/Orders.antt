-- The pairings in use are in order: a list that 13 does not refuse, the optimizer's stems, and the one that is found without a list.
use mathlib.Core.Path.{◌≡◌, refl}
use mathlib.Core.List.{List, [], ◌∷◌, ◌++◌, append-nil}
use mathlib.Core.Option.{Option, none, some}
use mathlib.Core.Bool.{Bool, true, false, ◌&&◌, cond}
use Prim.Native.Nat.{ℕ, zero, suc, ◌+◌, ◌-◌, ◌<◌, ◌≤◌}
use native.Mathlib.Omega.{arith}
use lib.Dec.{leb, ltb}
use lib.ListN.{length}
use borrow.Author.Tests.{leb-true, ltb-true, le-leb, lt-ltb}
use Rattle.laws.proofs.Tests.{and_true}
use Rattle.rules.specs.Programs.{Placeℕ, Program, is_gone}
use Rattle.rules.specs.Output.{compact, stems_from, stems}
use Rattle.pairing.specs.Pairings.{Frames, Pair, entries_of, pairs_from, good_from, good_entries}
use Rattle.pairing.specs.Pairings.{run_of, beginning, ending, default_pairs, entries_in, pairs_of}
use Rattle.pairing.specs.Promise.{InOrder}
use Rattle.pairing.proofs.Longest.{longest_ending}

-- ---- entries
good_order : (n m low j : ℕ) (is : List Placeℕ) → low ≤ n → j ≤ m → good_from n m low j is ≡ length is → InOrder n m low j (pairs_from j is)
unfolding good_from pairs_from
good_order n m low j [] h k e = (h, k)
good_order n m low j (i ∷ is) h k e = on (leb low i && (ltb i n && ltb j m)) refl e (good_order n m (suc i) (suc j) is)
  where
    on : (t : Bool) → leb low i && (ltb i n && ltb j m) ≡ t → cond t (suc (good_from n m (suc i) (suc j) is)) 0 ≡ suc (length is)
        → (suc i ≤ n → suc j ≤ m → good_from n m (suc i) (suc j) is ≡ length is → InOrder n m (suc i) (suc j) (pairs_from (suc j) is))
        → InOrder n m low j (record { first = i; second = j } ∷ pairs_from (suc j) is)
    on false t e below = absurd (omega arith)
    on true t e below =
        let a = and_true (leb low i) (ltb i n && ltb j m) t in
        let b = and_true (ltb i n) (ltb j m) a.1 in
        let x : i < n = ltb-true i n b.0 in
        let y : j < m = ltb-true j m b.1 in
        (leb-true low i a.0, x, omega arith, y, below x y (omega arith))

pub entries_order : (n m : ℕ) (is : List Placeℕ) → good_entries n m is ≡ length is → InOrder n m 0 0 (pairs_from 0 is)
unfolding good_entries
entries_order n m is e = good_order n m 0 0 is (omega arith) (omega arith) e

-- ---- "such as the optimizer's list .. of the place each output statement stems from": 13 is never given for it
stems_good : (n m low i j : ℕ) (p : Program) → low ≤ i → i + length p ≤ n → j + length (compact p) ≤ m
    → good_from n m low j (stems_from i p) ≡ length (stems_from i p)
unfolding good_from stems_from compact
stems_good n m low i j [] h k l = refl
stems_good n m low i j (s ∷ p) h k l = on (is_gone s) l (stems_good n m low (suc i) j p (omega arith) (omega arith))
    (stems_good n m (suc i) (suc i) (suc j) p (omega arith) (omega arith))
  where
    on : (t : Bool) → j + length (cond t (compact p) (s ∷ compact p)) ≤ m
        → (j + length (compact p) ≤ m → good_from n m low j (stems_from (suc i) p) ≡ length (stems_from (suc i) p))
        → (suc j + length (compact p) ≤ m → good_from n m (suc i) (suc j) (stems_from (suc i) p) ≡ length (stems_from (suc i) p))
        → good_from n m low j (cond t (stems_from (suc i) p) (i ∷ stems_from (suc i) p)) ≡ length
        (cond t (stems_from (suc i) p) (i ∷ stems_from (suc i) p))
    on true l u v = u l
    on false l u v =
        unfold good_from in
        rw (le-leb low i h, lt-ltb i n (omega arith), lt-ltb j m (omega arith), v (omega arith))

pub stems_order : (p : Program) → good_entries (length p) (length (compact p)) (stems p) ≡ length (stems p)
unfolding good_entries stems
stems_order p = stems_good (length p) (length (compact p)) 0 0 0 p (omega arith) (omega arith) (omega arith)

-- ---- without a list
order_less : (n m i j i' j' : ℕ) (ps : List Pair) → i' ≤ i → j' ≤ j → InOrder n m i j ps → InOrder n m i' j' ps
order_less n m i j i' j' [] a b h = (omega (arith, h.0), omega (arith, h.1))
order_less n m i j i' j' (p ∷ ps) a b h = (omega (arith, h.0), h.1, omega (arith, h.2), h.3, h.4)

run_order : (n m k i j : ℕ) (ps : List Pair) → i + k ≤ n → j + k ≤ m → InOrder n m (i + k) (j + k) ps → InOrder n m i j (run_of k i j ++ ps)
unfolding run_of
run_order n m zero i j ps a b h = order_less n m (i + 0) (j + 0) i j ps (omega arith) (omega arith) h
run_order n m (suc k) i j ps a b h =
    let x : i + suc k ≡ suc i + k = omega arith in
    let y : j + suc k ≡ suc j + k = omega arith in
    (omega arith, omega arith, omega arith, omega arith, run_order n m k (suc i) (suc j) ps (omega arith) (omega arith) (rw (x, y) at h))

pub default_order : (a b : Frames) → InOrder (length a) (length b) 0 0 (default_pairs a b)
unfolding default_pairs
default_order a b =
    let k : ℕ = beginning a b in
    let e : ℕ = ending a b in
    let w = (longest_ending a b).within in
    let l : k + e ≤ length a = w.0 in
    let m : k + e ≤ length b = w.1 in
    let i : ℕ = length a - e in
    let j : ℕ = length b - e in
    let end : InOrder (length a) (length b) i j (run_of e i j) =
    rw (append-nil (run_of e i j)) at (run_order (length a) (length b) e i j [] (omega arith) (omega arith) (omega arith, omega arith)) in
    run_order (length a) (length b) k 0 0 (run_of e i j) (omega arith) (omega arith)
    (order_less (length a) (length b) i j (0 + k) (0 + k) (run_of e i j) (omega arith) (omega arith) end)

pub pairs_order : (a b : Frames) (pairing : Option (List ℕ))
    → good_entries (length a) (length b) (entries_in pairing) ≡ length (entries_in pairing)
    → InOrder (length a) (length b) 0 0 (pairs_of a b pairing)
pairs_order a b none e = default_order a b
pairs_order a b (some s) e = entries_order (length a) (length b) (entries_of s) e
