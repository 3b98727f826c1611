-- The text of the differences, pair by pair: what is removed, what is added, the pair, and the rest.
use mathlib.Core.Path.{◌≡◌, refl, ap, ap₂, ◌∙◌}
use mathlib.Core.List.{List, [], ◌∷◌, ◌++◌}
use Prim.Native.Nat.{ℕ, zero, suc, ◌-◌, ◌≤◌, ◌<◌}
use native.Mathlib.Omega.{arith}
use lib.ListN.{length, get_or, drop, drop_of_length-le}
use lib.Seq.{drop-cons}
use Rattle.laws.specs.Lists.{each}
use Rattle.laws.proofs.Lists.{each_append}
use Rattle.laws.specs.Counts.{tab}
use Rattle.laws.proofs.Counts.{length_tab, get_or_tab}
use Rattle.rules.specs.Expressions.{pair}
use Rattle.rules.specs.Output.{line_of}
use Rattle.pairing.specs.Pairings.{Frames, Pair}
use Rattle.pairing.specs.Promise.{InOrder}
use Rattle.pairing.specs.Tables.{pair_at, pairs_in}
use Rattle.differences.specs.Changes.{Change, removed_from, added_from, paired, between, bytes_of, text_of}
use Rattle.differences.specs.Walks.{run_text}

-- ---- runs
pub removed_text : (a : Frames) (n i : ℕ) → text_of (removed_from a n i) ≡ run_text 0x71 a n i
unfolding text_of each removed_from run_text
removed_text a zero i = refl
removed_text a (suc n) i = ap (λ (t : List ℕ). line_of (0x71 ∷ (pair i ++ get_or a i [])) ++ t) (removed_text a n (suc i))

pub added_text : (b : Frames) (n j : ℕ) → text_of (added_from b n j) ≡ run_text 0x72 b n j
unfolding text_of each added_from run_text
added_text b zero j = refl
added_text b (suc n) j = ap (λ (t : List ℕ). line_of (0x72 ∷ (pair j ++ get_or b j [])) ++ t) (added_text b n (suc j))

text_append : (x y : List Change) → text_of (x ++ y) ≡ text_of x ++ text_of y
unfolding text_of
text_append x y = each_append (λ d. line_of (bytes_of d)) x y

-- ---- one pair
abbrev pub pair_text : (a b : Frames) → Pair → List ℕ
pair_text a b p = line_of (bytes_of (paired p.first p.second (get_or a p.first []) (get_or b p.second [])))

pub between_step : (a b : Frames) (i j : ℕ) (p : Pair) (ps : List Pair)
    → text_of (between a b i j (p ∷ ps))
    ≡ run_text 0x71 a (p.first - i) i ++
    (run_text 0x72 b (p.second - j) j ++ (pair_text a b p ++ text_of (between a b (suc p.first) (suc p.second) ps)))
between_step a b i j p ps =
    let it : Change = paired p.first p.second (get_or a p.first []) (get_or b p.second []) in
    let rest : List Change = between a b (suc p.first) (suc p.second) ps in
    let s : between a b i j (p ∷ ps) ≡ removed_from a (p.first - i) i ++
    (added_from b (p.second - j) j ++ (it ∷ rest)) = unfold between in refl in
    let t : text_of (it ∷ rest) ≡ pair_text a b p ++ text_of rest = unfold text_of each in refl in
    ap text_of s ∙ text_append (removed_from a (p.first - i) i) (added_from b (p.second - j) j ++ (it ∷ rest))
    ∙ ap₂ (λ (x y : List ℕ). x ++ y) (removed_text a (p.first - i) i)
    (text_append (added_from b (p.second - j) j) (it ∷ rest) ∙ ap₂ (λ (x y : List ℕ). x ++ y) (added_text b (p.second - j) j) t)

between_none : (a b : Frames) (i j : ℕ) → text_of (between a b i j []) ≡ run_text 0x71 a (length a - i) i ++ run_text 0x72 b (length b - j)
    j
unfolding between
between_none a b i j =
    text_append (removed_from a (length a - i) i) (added_from b (length b - j) j)
    ∙ ap₂ (λ (x y : List ℕ). x ++ y) (removed_text a (length a - i) i) (added_text b (length b - j) j)

-- ---- by the table
module _ (pairs : List ℕ) (count k : ℕ) where
  there : k < count → drop k (pairs_in pairs count) ≡ pair_at pairs k ∷ drop (suc k) (pairs_in pairs count)
  unfolding pairs_in
  there h =
      drop-cons (tab (pair_at pairs) count) k (pair_at pairs 0) (omega (arith, length_tab (pair_at pairs) count))
      ∙ ap (λ (p : Pair). p ∷ drop (suc k) (tab (pair_at pairs) count)) (get_or_tab (pair_at pairs) count k (pair_at pairs 0) h)

  none : count ≤ k → drop k (pairs_in pairs count) ≡ []
  unfolding pairs_in
  none h = drop_of_length-le (tab (pair_at pairs) count) {i = k} (omega (arith, length_tab (pair_at pairs) count))

  pub next_pair : (a b : Frames) (i j : ℕ) → k < count
      → text_of (between a b i j (drop k (pairs_in pairs count)))
      ≡ run_text 0x71 a ((pair_at pairs k).first - i) i ++ (run_text 0x72 b ((pair_at pairs k).second - j) j
      ++ (pair_text a b (pair_at pairs k)
      ++ text_of (between a b (suc (pair_at pairs k).first) (suc (pair_at pairs k).second) (drop (suc k) (pairs_in pairs count)))))
  next_pair a b i j h =
      ap (λ (ps : List Pair). text_of (between a b i j ps)) (there h)
      ∙ between_step a b i j (pair_at pairs k) (drop (suc k) (pairs_in pairs count))

  pub no_pair : (a b : Frames) (i j : ℕ) → count ≤ k
      → text_of (between a b i j (drop k (pairs_in pairs count))) ≡ run_text 0x71 a (length a - i) i ++ run_text 0x72 b (length b - j) j
  no_pair a b i j h = ap (λ (ps : List Pair). text_of (between a b i j ps)) (none h) ∙ between_none a b i j

  pub order_next : (n m i j : ℕ) → k < count → InOrder n m i j (drop k (pairs_in pairs count))
      → InOrder n m i j (pair_at pairs k ∷ drop (suc k) (pairs_in pairs count))
  order_next n m i j h o = rw (there h) at o

pub order_within : (n m i j : ℕ) (ps : List Pair) → InOrder n m i j ps → (i ≤ n) × (j ≤ m)
order_within n m i j [] o = o
order_within n m i j (p ∷ ps) o = (omega (arith, o.0, o.1), omega (arith, o.2, o.3))
