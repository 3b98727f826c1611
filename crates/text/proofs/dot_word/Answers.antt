-- `text::dot_word` meets its contract: the table's rule is a test at each of its entries.
use mathlib.Core.Path.{◌≡◌, ◌∙◌, ap}
use mathlib.Core.List.{List, [], ◌∷◌, map}
use Prim.Native.Nat.{ℕ, ◌+◌}
use native.Mathlib.Omega.{arith}
use Rattle.laws.specs.Counts.{all_to}
use Rattle.laws.specs.Lists.{same}
use Rattle.rules.specs.Patterns.{codes}
use Rattle.text.specs.Words.{said, dot_word}
use Rattle.text.proofs.Tables.{word_is}
use Rattle.text.proofs.dot_word.Goals as goal

-- the table, as the code has it
rows : List (List ℕ)
rows = map (λ s. codes s) (
    ".comment" ∷ ".org    " ∷ ".byte   " ∷ ".word   " ∷ ".align  " ∷
    [])

pub returns : goal.returns
unfolding rows all_to said dot_word same
returns c =
    let back : c.from.result + 4 ≡ c.args.kind = omega (arith, c.requires, c.from.ensures) in
    let w = word_is (λ n. dot_word (n + 4)) [] rows 5 tt c.from.result (omega (arith, c.requires, c.from.ensures)) in
    (w.0 ∙ ap dot_word back, w.1)
