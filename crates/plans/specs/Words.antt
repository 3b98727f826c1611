-- The words that lines begin with, as one plan: byte by byte, as long as some word goes on so.
use Rattle.std.specs.Prelude.{◌≡◌, List, [], ◌∷◌, ◌++◌, Bool, true, false, ◌&&◌, ℕ, zero, suc, eqb}
use Rattle.std.proofs.Math.Option.{Option, none, some}
use Rattle.rules.specs.Programs.{Stmt}
use Rattle.plans.specs.Plans.{Plan, done, fork, Reads}

-- a word that opens a line, with the plan for what follows; or one that is a whole line
pub data Word : Type 0 where
  opening : List ℕ → Plan → Word
  closing : List ℕ → Stmt → Word

-- t is a line of s that begins with the word
abbrev pub Says : Word → Stmt → List ℕ → Type 0
Says (opening x P) s t = (v : List ℕ) × ((t ≡ x ++ v) × Reads P s v)
Says (closing x r) s t = (s ≡ r) × (t ≡ x)

pub data In {A : Type 0} : A → List A → Type 0 where
  here : {w : A} {ws : List A} → In w (w ∷ ws)
  there : {w v : A} {ws : List A} → In w ws → In w (v ∷ ws)

module _ {A : Type 0} where
  -- one more, if the test holds
  abbrev pub onto : Bool → A → List A → List A
  onto true w ws = w ∷ ws
  onto false w ws = ws

  abbrev pub some? : List A → Bool
  some? [] = false
  some? (w ∷ ws) = true

-- the words that go on with the byte c, without it
unfoldable pub advance : ℕ → List Word → List Word
advance c [] = []
advance c (opening [] P ∷ ws) = advance c ws
advance c (opening (d ∷ x) P ∷ ws) = onto (eqb d c) (opening x P) (advance c ws)
advance c (closing [] s ∷ ws) = advance c ws
advance c (closing (d ∷ x) s ∷ ws) = onto (eqb d c) (closing x s) (advance c ws)

-- the word that ends here
unfoldable pub end_of : List Word → Option Stmt
end_of [] = none
end_of (opening x P ∷ ws) = end_of ws
end_of (closing [] s ∷ ws) = some s
end_of (closing (d ∷ x) s ∷ ws) = end_of ws

-- a word that opens a line ends here: then it is the only one
abbrev pub plainly : ℕ → List Word → (List Word → Plan) → Plan
plainly k [] f = f []
plainly k (opening [] P ∷ ws) f = P
plainly k (opening (d ∷ x) P ∷ ws) f = f (opening (d ∷ x) P ∷ ws)
plainly k (closing x s ∷ ws) f = f (closing x s ∷ ws)

-- the plan of a list of words, none of which has k bytes or more
unfoldable pub trie : (k : ℕ) → Stmt → List Word → Plan
trie zero d ws = done d
trie (suc k) d ws = plainly k ws (λ vs. fork (end_of vs) (λ c. some? (advance c vs)) (λ c. trie k d (advance c vs)))

-- ---- the words are told apart as they are read: one that opens a line is no front of another, and no two are the same

-- none opens here, and at most one ends here, if one may
abbrev pub clean : Bool → List Word → Bool
clean b [] = true
clean b (opening [] P ∷ ws) = false
clean b (opening (d ∷ x) P ∷ ws) = clean b ws
clean b (closing [] s ∷ ws) = b && clean false ws
clean b (closing (d ∷ x) s ∷ ws) = clean b ws

abbrev pub apart : List Word → Bool
apart [] = false
apart (opening [] P ∷ []) = true
apart (opening [] P ∷ w ∷ ws) = false
apart (opening (d ∷ x) P ∷ ws) = clean true ws
apart (closing x s ∷ ws) = clean true (closing x s ∷ ws)

-- every way to go on is told apart too
abbrev pub each_first : (List Word → Bool) → List Word → List Word → Bool
each_first g vs [] = true
each_first g vs (opening [] P ∷ ws) = each_first g vs ws
each_first g vs (opening (c ∷ x) P ∷ ws) = g (advance c vs) && each_first g vs ws
each_first g vs (closing [] s ∷ ws) = each_first g vs ws
each_first g vs (closing (c ∷ x) s ∷ ws) = g (advance c vs) && each_first g vs ws

unfoldable pub fit : (k : ℕ) → List Word → Bool
fit zero ws = false
fit (suc k) ws = apart ws && each_first (fit k) ws ws
