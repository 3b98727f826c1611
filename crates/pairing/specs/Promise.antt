-- Document 02, C-13: what is shown of a pairing.
use Rattle.std.specs.Prelude.{◌≡◌, List, [], ◌∷◌, ℕ, suc, ◌+◌, ◌-◌, ◌≤◌, ◌<◌, length, get_or}
use Rattle.rules.specs.Programs.{Placeℕ}
use Rattle.pairing.specs.Pairings.{Frames, Pair, beginning, ending}

-- pairs in order: each from place i of the first and j of the second on, within listings of n and m statements
abbrev pub InOrder : (n m : ℕ) (i j : Placeℕ) → List Pair → Type 0
InOrder n m i j [] = (i ≤ n) × (j ≤ m)
InOrder n m i j (p ∷ ps) =
    (i ≤ p.first) × (p.first < n) × (j ≤ p.second) × (p.second < m) × InOrder n m (suc p.first) (suc p.second) ps

-- "the longest common beginning": the first frames of both are the same, and behind them a listing ends or the next two differ
pub record LongestBeginning (a b : Frames) : Type 0 where
  pub within : (beginning a b ≤ length a) × (beginning a b ≤ length b)
  pub common : (k : ℕ) → k < beginning a b → get_or a k [] ≡ get_or b k []
  pub longest : beginning a b < length a → beginning a b < length b → get_or a (beginning a b) [] ≡ get_or b (beginning a b) [] → ⊥

-- "then the longest common end of the rest": counted from the end, and not into the beginning
pub record LongestEnding (a b : Frames) : Type 0 where
  pub within : (beginning a b + ending a b ≤ length a) × (beginning a b + ending a b ≤ length b)
  pub common : (k : ℕ) → k < ending a b → get_or a (length a - suc k) [] ≡ get_or b (length b - suc k) []
  pub longest : beginning a b + ending a b < length a → beginning a b + ending a b < length b
      → get_or a (length a - suc (ending a b)) [] ≡ get_or b (length b - suc (ending a b)) [] → ⊥
