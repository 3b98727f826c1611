-- The tables of fixed byte strings say the words: by one test at each entry.
use mathlib.Core.Path.{◌≡◌}
use mathlib.Core.Bool.{Bool, ◌&&◌}
use mathlib.Core.List.{List}
use Prim.Native.Nat.{ℕ, ◌<◌}
use lib.Dec.{T, eqb}
use lib.ListN.{length, get_or}
use borrow.Author.Tests.{eqb-true}
use Rattle.laws.specs.Counts.{all_to}
use Rattle.laws.specs.Lists.{same}
use Rattle.laws.proofs.Lists.{same_true}
use Rattle.laws.proofs.Tests.{and_true}
use Rattle.instruction.proofs.Entries.{holds_at}
use Rattle.text.specs.Words.{said}

-- row k of eight bytes says word k
module _ (words : ℕ → List ℕ) (none : List ℕ) (rows : List (List ℕ)) where
  abbrev pub word_test : ℕ → Bool
  word_test k = same (said (get_or rows k none)) (words k) && eqb (length (get_or rows k none)) 8

  pub word_is : (n : ℕ) → T (all_to word_test n) → (k : ℕ) → k < n → (said (get_or rows k none) ≡ words k)
      × (length (get_or rows k none) ≡ 8)
  word_is n t k h =
      let r : List ℕ = get_or rows k none in
      let q = and_true (same (said r) (words k)) (eqb (length r) 8) (holds_at word_test n t k h) in
      (same_true (said r) (words k) q.0, eqb-true (length r) 8 q.1)
