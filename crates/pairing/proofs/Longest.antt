-- "the longest common beginning .., then the longest common end of the rest": what is counted is common, and no more is.
use mathlib.Core.Path.{◌≡◌, refl, sym, ap, ◌∙◌}
use mathlib.Core.List.{[], ◌∷◌, reverse}
use mathlib.Core.Bool.{Bool, true, false, cond}
use Prim.Native.Nat.{ℕ, zero, suc, ◌+◌, ◌-◌, ◌≤◌, ◌<◌}
use native.Mathlib.Omega.{arith}
use lib.ListN.{length, get_or, drop}
use Rattle.laws.specs.Lists.{same}
use Rattle.laws.proofs.Lists.{same_true, same_refl}
use Rattle.laws.proofs.Tests.{true_false}
use Rattle.pairing.specs.Pairings.{Frame, Frames, common, beginning, ending}
use Rattle.pairing.specs.Promise.{LongestBeginning, LongestEnding}
use Rattle.pairing.proofs.Frames.{last_at, last_count}

common_bound : (a b : Frames) → (common a b ≤ length a) × (common a b ≤ length b)
unfolding common
common_bound [] b = (omega arith, omega arith)
common_bound (x ∷ a) [] = (omega arith, omega arith)
common_bound (x ∷ a) (y ∷ b) = on (same x y) (common_bound a b)
  where
    on : (t : Bool) → (common a b ≤ length a) × (common a b ≤ length b)
        → (cond t (suc (common a b)) 0 ≤ suc (length a)) × (cond t (suc (common a b)) 0 ≤ suc (length b))
    on true h = (omega (arith, h.0), omega (arith, h.1))
    on false h = (omega arith, omega arith)

common_same : (a b : Frames) (k : ℕ) → k < common a b → get_or a k [] ≡ get_or b k []
unfolding common
common_same [] b k h = absurd (omega arith)
common_same (x ∷ a) [] k h = absurd (omega arith)
common_same (x ∷ a) (y ∷ b) k h = on (same x y) refl k h (common_same a b)
  where
    on : (t : Bool) → same x y ≡ t → (k : ℕ) → k < cond t (suc (common a b)) 0 → ((k : ℕ) → k < common a b → get_or a k [] ≡ get_or b k [])
        → get_or (x ∷ a) k [] ≡ get_or (y ∷ b) k []
    on true e zero h below = same_true x y e
    on true e (suc k) h below = below k (omega arith)
    on false e k h below = absurd (omega arith)

common_longest : (a b : Frames) → common a b < length a → common a b < length b → get_or a (common a b) [] ≡ get_or b (common a b) [] → ⊥
unfolding common
common_longest [] b l m h = omega arith
common_longest (x ∷ a) [] l m h = omega arith
common_longest (x ∷ a) (y ∷ b) l m h = on (same x y) refl l m h (common_longest a b)
  where
    on : (t : Bool) → same x y ≡ t → cond t (suc (common a b)) 0 < suc (length a) → cond t (suc (common a b)) 0 < suc (length b)
        → get_or (x ∷ a) (cond t (suc (common a b)) 0) [] ≡ get_or (y ∷ b) (cond t (suc (common a b)) 0) []
        → (common a b < length a → common a b < length b → get_or a (common a b) [] ≡ get_or b (common a b) [] → ⊥) → ⊥
    on true e l m h below = below (omega arith) (omega arith) h
    on false e l m h below = true_false (sym (same_refl y) ∙ ap (λ (w : Frame). same w y) (sym h) ∙ e)

pub longest_beginning : (a b : Frames) → LongestBeginning a b
longest_beginning a b = record { within = common_bound a b; common = common_same a b; longest = common_longest a b }

pub longest_ending : (a b : Frames) → LongestEnding a b
longest_ending a b =
    let k : ℕ = beginning a b in
    let x = common_bound a b in
    let c : Frames = reverse (drop k a) in
    let d : Frames = reverse (drop k b) in
    let y = common_bound c d in
    let u = last_count a k in
    let v = last_count b k in
    let l : k + ending a b ≤ length a = omega (arith, x.0, y.0) in
    let m : k + ending a b ≤ length b = omega (arith, x.1, y.1) in
    record {
      within = (l, m);
      common = λ i h. sym (from_end a i k (omega arith)) ∙ common_same c d i h ∙ from_end b i k (omega arith);
      longest = λ p q e. common_longest c d (omega (arith, u)) (omega (arith, v))
          (from_end a (ending a b) k p ∙ e ∙ sym (from_end b (ending a b) k q));
    }
  where
    from_end : (s : Frames) (i k : ℕ) → k + i < length s → get_or (reverse (drop k s)) i [] ≡ get_or s (length s - suc i) []
    from_end s i k h = let z : length s - 1 - i ≡ length s - suc i = omega arith in last_at s k i h ∙ ap (λ (j : ℕ). get_or s j []) z
