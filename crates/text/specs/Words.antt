-- Document 01, "What form each place takes": "fixed byte strings for mnemonics and dot words written by C-16, compared by the text reader of
-- C-19".
use Rattle.std.specs.Prelude.{List, [], cond, ℕ, eqb}
use Rattle.rules.specs.Patterns.{codes}
use Rattle.text.specs.Text.{up_to}

-- what a string of eight bytes says: the bytes before its first space
unfoldable pub said : List ℕ → List ℕ
said s = up_to 32 s

-- "`.org`, `.byte`, `.word`, `.align` and `.comment`", by the frame's kind
unfoldable pub dot_word : (kind : ℕ) → List ℕ
dot_word k =
    cond (eqb k 4) (codes ".comment")
    (cond (eqb k 5) (codes ".org")
    (cond (eqb k 6) (codes ".byte")
    (cond (eqb k 7) (codes ".word")
    (cond (eqb k 8) (codes ".align")
    []))))
