-- The table of pairs: one pair more, and a run of pairs.
use mathlib.Core.Path.{◌≡◌, ap, ◌∙◌}
use mathlib.Core.List.{List, [], ◌∷◌, ◌++◌}
use Prim.Native.Nat.{ℕ, zero, suc, ◌+◌, ◌<◌}
use native.Mathlib.Numerals.{add-one}
use native.Mathlib.Omega.{arith}
use lib.ListN.{length, get_or, set, length-set}
use lib.Seq.{get_or-set_same, get_or-set_other}
use Rattle.laws.specs.Counts.{tab}
use Rattle.laws.proofs.Counts.{tab_ext}
use Rattle.pairing.specs.Pairings.{Pair, run_of}
use Rattle.pairing.specs.Tables.{pair_at, pairs_in}

module _ (p : List ℕ) (k i j : ℕ) (h : k < 1024) (size : length p ≡ 2048) where
  abbrev stored : List ℕ
  stored = set (set p k i) (1024 + k) j

  pub size_stored : length stored ≡ 2048
  size_stored = length-set (set p k i) (1024 + k) j ∙ length-set p k i ∙ size

  others : (x : ℕ) → x < k → pair_at p x ≡ pair_at stored x
  others x l =
      let a : get_or stored x 0 ≡ get_or p x 0 = get_or-set_other (set p k i) (1024 + k) x j 0 (λ q. omega arith)
      ∙ get_or-set_other p k x i 0 (λ q. omega arith) in
      let b : get_or stored (1024 + x) 0 ≡ get_or p (1024 + x) 0 = get_or-set_other (set p k i) (1024 + k) (1024 + x) j 0 (λ q. omega arith)
      ∙ get_or-set_other p k (1024 + x) i 0 (λ q. omega arith) in
      rw (a, b)

  it : pair_at stored k ≡ record { first = i; second = j }
  it =
      let a : get_or stored k 0 ≡ i = get_or-set_other (set p k i) (1024 + k) k j 0 (λ q. omega arith) ∙ get_or-set_same p k i 0
      (omega arith) in
      let b : get_or stored (1024 + k) 0 ≡ j = get_or-set_same (set p k i) (1024 + k) j 0 (omega (arith, length-set p k i)) in
      rw (a, b)

  pub pairs_more : pairs_in stored (k + 1) ≡ pairs_in p k ++ (record { first = i; second = j } ∷ [])
  unfolding pairs_in tab
  pairs_more = rw (add-one k, it, ← tab_ext (pair_at p) (pair_at stored) k others)

run_suc : (k i j : ℕ) → run_of (suc k) i j ≡ run_of k i j ++ (record { first = i + k; second = j + k } ∷ [])
unfolding run_of
run_suc zero i j = let x : i + 0 ≡ i = omega arith in let y : j + 0 ≡ j = omega arith in rw (x, y)
run_suc (suc k) i j =
    let x : i + suc k ≡ suc i + k = omega arith in
    let y : j + suc k ≡ suc j + k = omega arith in
    rw (x, y) (ap (λ (l : List Pair). record { first = i; second = j } ∷ l) (run_suc k (suc i) (suc j)))

pub run_more : (k i j : ℕ) → run_of (k + 1) i j ≡ run_of k i j ++ (record { first = i + k; second = j + k } ∷ [])
run_more k i j = rw (add-one k) (run_suc k i j)
