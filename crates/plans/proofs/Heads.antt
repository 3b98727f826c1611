-- The words of the mnemonics are those of the seventy forms. Assumes nothing.
use mathlib.Core.Path.{◌≡◌, subst}
use mathlib.Core.Logic.{◌⊎◌, inl, inr}
use mathlib.Core.List.{List, [], ◌∷◌}
use mathlib.Core.Bool.{true, not}
use Prim.Native.Nat.{ℕ, ◌<◌}
use Rattle.text.specs.Text.{mnemonic}
use Rattle.plans.specs.Words.{Word, In, here, there, some?}
use Rattle.plans.specs.Families.{below, family, heads, word_of, family_of, mnemonics}
use Rattle.plans.proofs.Worded.{into}
use Rattle.plans.proofs.Formed.{heads_have, in_below, below_in, map_in, in_map}

heads_in : (f : ℕ) (fs : List ℕ) → In f (heads fs) → In f fs
unfolding heads
heads_in f [] i = elim i [ ]
heads_in f (h ∷ fs) i = on (into (not (some? (family (mnemonic h) fs))) f h (heads fs) i) (λ j. heads_in f fs j)
  where
    on : ((f ≡ h) × (not (some? (family (mnemonic h) fs)) ≡ true)) ⊎ In f (heads fs) → (In f (heads fs) → In f fs) → In f (h ∷ fs)
    on (inl (e, q)) g = subst (λ y. In f (y ∷ fs)) e here
    on (inr j) g = there (g j)

pub word_form : (w : Word) → In w mnemonics → (f : ℕ) × ((f < 70) × (w ≡ word_of (mnemonic f) (family_of f)))
unfolding mnemonics
word_form w i =
    let r = in_map (λ f. word_of (mnemonic f) (family_of f)) w (heads (below 70)) i in
    (r.0, (below_in 70 r.0 (heads_in r.0 (below 70) r.1.0), r.1.1))

pub form_word : (f : ℕ) → f < 70 → In (word_of (mnemonic f) (family_of f)) mnemonics
unfolding mnemonics
form_word f h =
    let r = heads_have f (below 70) (in_below 70 f h) in
    subst (λ m. In (word_of m (family m (below 70))) mnemonics) r.1.1
    (map_in (λ f. word_of (mnemonic f) (family_of f)) r.0 (heads (below 70)) r.1.0)
