-- Which word a text begins with, and how far it goes with any of them: the words of the code's contracts.
use Rattle.std.specs.Prelude.{◌≡◌, ◌⊎◌, List, [], ◌∷◌, ◌++◌, Bool, true, false, cond, ℕ, suc, ◌≤◌, ◌<◌, eqb, length, drop}
use Rattle.plans.specs.Words.{Word, opening, closing, In}

-- how many bytes two texts have in common at the front
unfoldable pub common : List ℕ → List ℕ → ℕ
common [] t = 0
common (c ∷ x) [] = 0
common (c ∷ x) (d ∷ t) = cond (eqb c d) (suc (common x t)) 0

abbrev pub spelling : Word → List ℕ
spelling (opening x P) = x
spelling (closing x s) = x

abbrev pub opens : Word → Bool
opens (opening x P) = true
opens (closing x s) = false

-- t goes on behind the word x, from n on; or is the word, if none opens a line
abbrev pub Matches : (opens : Bool) (x t : List ℕ) (n : ℕ) → Type 0
Matches true x t n = (n ≤ length t) × (t ≡ x ++ drop n t)
Matches false x t n = t ≡ x

-- t does not begin with the word; or is not the word
abbrev pub Misses : (opens : Bool) (x t : List ℕ) → Type 0
Misses true x t = common x t < length x
Misses false x t = t ≡ x → ⊥

-- none of the words is met, and c bytes is as far as t goes with one of them
pub record Far (ws : List Word) (t : List ℕ) (c : ℕ) : Type 0 where
  pub misses : (w : Word) → In w ws → Misses (opens w) (spelling w) t
  pub most : (w : Word) → In w ws → common (spelling w) t ≤ c
  pub some : (c ≡ 0) ⊎ ((w : Word) × (In w ws × (common (spelling w) t ≡ c)))
