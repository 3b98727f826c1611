-- The plan of lines: what follows each word that opens one.
use Rattle.std.specs.Prelude.{List, [], ◌∷◌, ◌++◌, ◌||◌, cond, ℕ, zero, suc, ◌+◌, eqb}
use Rattle.std.proofs.Math.Option.{none, some}
use Rattle.rules.specs.Expressions.{Expr}
use Rattle.rules.specs.Patterns.{codes}
use Rattle.rules.specs.Programs.{Stmt, gone, label, variable, comment, org, bytes, words, pad}
use Rattle.plans.specs.Plans.{Plan, done, fork, expression, decimal, five, finish}
use Rattle.plans.specs.Words.{Word, opening, closing, trie}
use Rattle.plans.specs.Families.{mnemonics}
use Rattle.plans.specs.Finals.{comments, multiples}

-- "A label is its name and a colon, a variable its name, `=` and the expression."
abbrev pub after_global : ℕ → ℕ → Plan
after_global n c = cond (eqb c 58) (done (label n)) (expression (λ e. done (variable n e)))

unfoldable pub global_plan : Plan
global_plan = five (λ n. fork none (λ c. eqb c 58 || eqb c 61) (after_global n))

unfoldable pub local_plan : Plan
local_plan = five (λ n. fork none (λ c. eqb c 58) (λ c. done (label (0x8000 + n))))

unfoldable pub org_plan : Plan
org_plan = decimal 65535 (λ l. done (org l))

-- C-11: `.align `, add, a comma, the multiple. a multiple from 1 to 256
unfoldable pub align_plan : (ℕ → ℕ → Stmt) → Plan
align_plan make = decimal 255 (λ a. fork none (λ c. eqb c 44) (λ c. finish (multiples 256 (make a))))

-- an item of data behind those of es, and k more at most
unfoldable pub items_plan : (List Expr → Stmt) → ℕ → List Expr → Plan
items_plan make zero es = expression (λ e. done (make (es ++ (e ∷ []))))
items_plan make (suc k) es = expression (λ e. fork (some (make (es ++ (e ∷ [])))) (λ c. eqb c 44) (λ c. items_plan make k (es ++ (e ∷ []))))

-- the words that open lines: names, dot words, mnemonics
abbrev pub dot_words : List Word
dot_words =
    opening (codes "g") global_plan ∷
    opening (codes ".l") local_plan ∷
    opening (codes ".org ") org_plan ∷
    opening (codes ".byte ") (items_plan bytes 15 []) ∷
    opening (codes ".word ") (items_plan words 15 []) ∷
    closing (codes ".comment") (comment []) ∷
    opening (codes ".comment ") (finish comments) ∷
    opening (codes ".align ") (align_plan pad) ∷
    []

unfoldable pub word_list : List Word
word_list = dot_words ++ mnemonics

unfoldable pub line_plan : Plan
line_plan = trie 10 gone word_list
