-- What the code answers of a line and a word, and of a line and all words.
use Rattle.std.specs.Prelude.{◌≡◌, ◌⊎◌, List, [], ◌∷◌, ◌++◌, Bool, true, false, cond, ℕ, ◌+◌, ◌≤◌, ◌<◌, eqb, drop}
use Rattle.text.specs.Words.{said}
use Rattle.grammar.specs.Reading.{look}
use Rattle.plans.specs.Lines.{word_list}
use Rattle.plans.specs.Fronts.{common, spelling, opens, Matches, Misses, Far}
use Rattle.openings.specs.declared.Front.{Front}
use Rattle.openings.specs.declared.Front.TheVariants.{Whole, Part}
use Rattle.openings.specs.declared.Begun.{Begun}
use Rattle.openings.specs.declared.Begun.TheVariants.{Global, Local, Row, Nothing}
use Rattle.openings.specs.Numbered.{word_at, tail_of}

-- a word has ended at i, and r is left of the line
abbrev pub at_end : (i : ℕ) → List ℕ → Front
at_end i [] = Whole i
at_end i (c ∷ r) = Part i

abbrev pub ended : (opens : Bool) (i : ℕ) → List ℕ → Front
ended true i r = cond (eqb (look r) 32) (Whole (i + 1)) (Part i)
ended false i r = at_end i r

-- the word x is met in the line t, or missed with so many bytes in common
abbrev pub Meets : (opens : Bool) (x t : List ℕ) → Front → Type 0
Meets b x t (Whole n) = Matches b x t n
Meets b x t (Part n) = Misses b x t × (common x t ≡ n)

abbrev pub Fronted : (word : List ℕ) (opens : Bool) (t : List ℕ) → Front → Type 0
Fronted word b t r = Meets b (said word ++ tail_of b) t r

-- none of the first k words is met, and c bytes is as far as t goes with one of them
pub record FarTo (k : ℕ) (t : List ℕ) (c : ℕ) : Type 0 where
  pub misses : (i : ℕ) → i < k → Misses (opens (word_at i)) (spelling (word_at i)) t
  pub most : (i : ℕ) → i < k → common (spelling (word_at i)) t ≤ c
  pub some : (c ≡ 0) ⊎ ((i : ℕ) × ((i < k) × (common (spelling (word_at i)) t ≡ c)))

abbrev pub Started : List ℕ → Begun → Type 0
Started t Global = ⊥
Started t Local = ⊥
Started t (Row i n) = (i < 76) × Matches (opens (word_at i)) (spelling (word_at i)) t n
Started t (Nothing c) = FarTo 76 t c

abbrev pub Begins : List ℕ → Begun → Type 0
Begins t Global = look t ≡ 103
Begins t Local = (look t ≡ 46) × (look (drop 1 t) ≡ 108)
Begins t (Row i n) = (i < 76) × Matches (opens (word_at i)) (spelling (word_at i)) t n
Begins t (Nothing c) = Far word_list t c
