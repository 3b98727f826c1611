-- Document 02, C-16, "A listing for people": each statement as a text line, without its line feed.
use Rattle.std.specs.Prelude.{List, [], ◌∷◌, ◌++◌, map, ◌&&◌, cond, ℕ, zero, suc, ◌+◌, ◌-◌, ◌*◌, ◌/◌, ◌%◌, leb, ltb, eqb, ℤ, pos, negsuc}
use Rattle.laws.specs.Lists.{each}
use Rattle.rules.specs.declared.Kind.{Kind}
use Rattle.rules.specs.declared.Kind.TheVariants.{Reg, I8, D9, Bit, Rel8, A12, A16, Rel16}
use Rattle.rules.specs.declared.Op1.{Op1}
use Rattle.rules.specs.declared.Op1.TheVariants.{Negate, Upper, Lower}
use Rattle.rules.specs.declared.Op2.{Op2}
use Rattle.rules.specs.declared.Op2.TheVariants.{Plus, Minus, Times, Divide, Xor, And, Or}
use Rattle.rules.specs.Expressions.{Expr, num, name, two, one}
use Rattle.rules.specs.Forms.{form_at, operands_at}
use Rattle.rules.specs.Patterns.{codes}
use Rattle.rules.specs.Output.{hex_byte}
use Rattle.rules.specs.Programs.{Operand, register, value, inner, Stmt, gone, instr, label, variable, comment, org, bytes, words, pad}

-- ---- "numbers in decimal, globals as `g` and five decimal digits, locals as `.l` and five digits counted from 8000 hexadecimal"

abbrev pub tens : ℕ → ℕ
tens zero = 1
tens (suc k) = 10 * tens k

-- n in decimal, of k digits at most; of ten where n is a number of a listing
unfoldable pub digits_of : (k n : ℕ) → List ℕ
digits_of zero n = []
digits_of (suc k) n = cond (ltb n 10) ((48 + n) ∷ []) (digits_of k (n / 10) ++ ((48 + n % 10) ∷ []))

abbrev pub decimal : ℕ → List ℕ
decimal n = digits_of 10 n

unfoldable pub five : ℕ → List ℕ
five n = (48 + n / 10000) ∷ (48 + n / 1000 % 10) ∷ (48 + n / 100 % 10) ∷ (48 + n / 10 % 10) ∷ (48 + n % 10) ∷ []

abbrev pub number : ℤ → List ℕ
number (pos n) = decimal n
number (negsuc n) = 45 ∷ decimal (suc n)

abbrev pub name_text : ℕ → List ℕ
name_text n = cond (ltb n 0x8000) (103 ∷ five n) (46 ∷ 108 ∷ five (n - 0x8000))

-- ---- "Infix operators are `+ - * / ^ & |`; prefix ones are `-`, and `>` and `<` for upper and lower byte."

abbrev pub sign2 : Op2 → ℕ
sign2 Plus = 43
sign2 Minus = 45
sign2 Times = 42
sign2 Divide = 47
sign2 Xor = 94
sign2 And = 38
sign2 Or = 124

abbrev pub sign1 : Op1 → ℕ
sign1 Negate = 45
sign1 Upper = 62
sign1 Lower = 60

abbrev pub in_parens : List ℕ → List ℕ
in_parens t = 40 ∷ (t ++ (41 ∷ []))

-- "A compound operand of an infix operator .. stands in parentheses": t is the text of the operand
abbrev pub closed : Expr → List ℕ → List ℕ
closed (num z) t = t
closed (name n) t = t
closed (two o e d) t = in_parens t
closed (one o e) t = in_parens t

-- ".. and every operand of a prefix one"
unfoldable pub expr_text : Expr → List ℕ
expr_text (num z) = number z
expr_text (name n) = name_text n
expr_text (two o e d) = closed e (expr_text e) ++ (sign2 o ∷ closed d (expr_text d))
expr_text (one o e) = sign1 o ∷ in_parens (expr_text e)

-- ---- "lower-case mnemonic without the form suffix, arguments by commas"

abbrev pub lower : ℕ → ℕ
lower c = cond (leb 65 c && leb c 90) (c + 32) c

-- the characters before the first that is `stop`
abbrev pub up_to : (stop : ℕ) → List ℕ → List ℕ
up_to stop [] = []
up_to stop (c ∷ t) = cond (eqb c stop) [] (c ∷ up_to stop t)

-- out of the name in `Instr`, whose suffix begins with the underscore
unfoldable pub mnemonic : (form : ℕ) → List ℕ
mnemonic f = map (λ c. lower c) (up_to 95 (codes (form_at f).called))

-- "`#` before an 8-bit operand that is no target"
abbrev pub mark : Kind → List ℕ
mark Reg = []
mark I8 = 35 ∷ []
mark D9 = []
mark Bit = []
mark Rel8 = []
mark A12 = []
mark A16 = []
mark Rel16 = []

-- "`@R` and a digit for a register"; an inner label is never met: numbers are written back before
abbrev pub arg_text : Kind → Operand → List ℕ
arg_text k (register r) = 64 ∷ 82 ∷ (48 + r) ∷ []
arg_text k (value e) = mark k ++ expr_text e
arg_text k (inner i o) = []

-- "One space follows a mnemonic or dot word that has arguments, no other": `by` is what stands before the first argument; the others have a
-- comma
unfoldable pub args_text : (by : ℕ) → List Kind → List Operand → List ℕ
args_text by [] xs = []
args_text by (k ∷ ks) [] = []
args_text by (k ∷ ks) (x ∷ xs) = by ∷ (arg_text k x ++ args_text 44 ks xs)

unfoldable pub items_text : (by : ℕ) → List Expr → List ℕ
items_text by [] = []
items_text by (e ∷ es) = by ∷ (expr_text e ++ items_text 44 es)

-- "comment bytes are upper-case hexadecimal"
abbrev pub comment_text : List ℕ → List ℕ
comment_text [] = []
comment_text (b ∷ s) = 32 ∷ each (λ c. hex_byte c) (b ∷ s)

-- ---- "A label is its name and a colon, a variable its name, `=` and the expression. `.org`, `.byte`, `.word`, `.align` and `.comment` open
-- the others, fields in frame order without counts". A dropped slot has no line.
unfoldable pub line_text : Stmt → List ℕ
line_text gone = []
line_text (instr f xs c) = mnemonic f ++ args_text 32 (operands_at f) xs
line_text (label n) = name_text n ++ (58 ∷ [])
line_text (variable n e) = name_text n ++ (61 ∷ expr_text e)
line_text (comment s) = codes ".comment" ++ comment_text s
line_text (org l) = codes ".org " ++ decimal l
line_text (bytes es) = codes ".byte" ++ items_text 32 es
line_text (words es) = codes ".word" ++ items_text 32 es
line_text (pad add m) = codes ".align " ++ (decimal add ++ (44 ∷ decimal m))
