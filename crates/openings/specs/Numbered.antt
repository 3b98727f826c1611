-- The words of the two tables by number: the mnemonic of each form; from 70 on `.comment`, `.org`, `.byte`, `.word`, `.align`, each with
-- its space; and
-- `.comment` as a whole line.
use Rattle.std.specs.Prelude.{◌≡◌, List, [], ◌∷◌, ◌++◌, Bool, true, false, cond, ℕ, ltb, eqb, length}
use Rattle.rules.specs.Patterns.{codes}
use Rattle.rules.specs.Programs.{comment, bytes, words, pad}
use Rattle.text.specs.Text.{mnemonic}
use Rattle.text.specs.Words.{said}
use Rattle.plans.specs.Plans.{finish}
use Rattle.plans.specs.Words.{Word, opening, closing}
use Rattle.plans.specs.Families.{word_of, family_of}
use Rattle.plans.specs.Finals.{comments}
use Rattle.plans.specs.Lines.{org_plan, items_plan, align_plan}
use Rattle.plans.specs.Fronts.{spelling, opens}

abbrev pub dot_at : ℕ → Word
dot_at i =
    cond (eqb i 70) (opening (codes ".comment ") (finish comments))
    (cond (eqb i 71) (opening (codes ".org ") org_plan)
    (cond (eqb i 72) (opening (codes ".byte ") (items_plan bytes 15 []))
    (cond (eqb i 73) (opening (codes ".word ") (items_plan words 15 []))
    (cond (eqb i 74) (opening (codes ".align ") (align_plan pad))
    (closing (codes ".comment") (comment []))))))

unfoldable pub word_at : ℕ → Word
word_at i = cond (ltb i 70) (word_of (mnemonic i) (family_of i)) (dot_at i)

-- what stands behind the bytes of a word that opens a line
abbrev pub tail_of : (opens : Bool) → List ℕ
tail_of true = 32 ∷ []
tail_of false = []

-- the fixed byte string of word i
pub record Spells (i : ℕ) (word : List ℕ) : Type 0 where
  pub size : length word ≡ 8
  pub says : spelling (word_at i) ≡ said word ++ tail_of (opens (word_at i))
