-- Document 02, C-19, "Read the people's listing": which texts are lines, of which statement, and the column of a text that is none. A
-- grammar: each constructor is one way to write something. `Exp l e t` says that the text t is an expression of level l that stands for
-- the tree e.
use Rattle.std.specs.Prelude.{◌≡◌, List, [], ◌∷◌, ◌++◌, Bool, true, false, ◌&&◌, cond, ℕ, suc, ◌+◌, ◌-◌, ◌*◌, ◌≤◌, ◌<◌, leb, ℤ, pos, neg_ℤ, length, get_or, take, replicate}
use Rattle.laws.specs.Lists.{every}
use Rattle.rules.specs.declared.Kind.{Kind}
use Rattle.rules.specs.declared.Kind.TheVariants.{Reg, I8, D9, Bit, Rel8, A12, A16, Rel16}
use Rattle.rules.specs.declared.Op1.{Op1}
use Rattle.rules.specs.declared.Op1.TheVariants.{Negate, Upper, Lower}
use Rattle.rules.specs.declared.Op2.{Op2}
use Rattle.rules.specs.declared.Op2.TheVariants.{Plus, Minus, Times, Divide, Xor, And, Or}
use Rattle.rules.specs.Expressions.{Expr, num, name, two, one, bytes_of}
use Rattle.rules.specs.Forms.{operands_at}
use Rattle.rules.specs.Patterns.{codes}
use Rattle.rules.specs.Output.{frame_of}
use Rattle.rules.specs.Programs.{Operand, register, value, Stmt, instr, label, variable, comment, org, bytes, words, pad, over_exprs}
use Rattle.text.specs.Text.{sign1, sign2, mnemonic, comment_text}

-- ---- numbers and names

abbrev pub is_decimal : ℕ → Bool
is_decimal c = leb 48 c && leb c 57

-- the number whose digits are v's and then those of t
unfoldable pub worth : (v : ℕ) → List ℕ → ℕ
worth v [] = v
worth v (d ∷ t) = worth (10 * v + (d - 48)) t

-- t is v in decimal, "which may have leading zeros", "in range"
pub record Decimal (most v : ℕ) (t : List ℕ) : Type 0 where
  pub some : 1 ≤ length t
  pub digits : every (λ c. is_decimal c) t ≡ true
  pub is : worth 0 t ≡ v
  pub within : v ≤ most

-- "a minus touching a digit is part of the number"
pub data Number : ℤ → List ℕ → Type 0 where
  plain : {v : ℕ} {t : List ℕ} → Decimal 2147483647 v t → Number (pos v) t
  minus : {v : ℕ} {t : List ℕ} → Decimal 2147483648 v t → Number (neg_ℤ (pos v)) (45 ∷ t)

pub data Name : ℕ → List ℕ → Type 0 where
  global : {n : ℕ} {t : List ℕ} → length t ≡ 5 → Decimal 32767 n t → Name n (103 ∷ t)
  local : {n : ℕ} {t : List ℕ} → length t ≡ 5 → Decimal 32767 n t → Name (0x8000 + n) (46 ∷ 108 ∷ t)

-- ---- expressions

-- "`*` and `/` bind before `+` and `-`, these before `&`, that before `^`, that before `|`": an operand has level 0, a product 1, a sum 2
abbrev pub level_of : Op2 → ℕ
level_of Times = 1
level_of Divide = 1
level_of Plus = 2
level_of Minus = 2
level_of And = 3
level_of Xor = 4
level_of Or = 5

-- the first byte; 0, which no line holds, at the end
abbrev pub look : List ℕ → ℕ
look t = get_or t 0 0

-- "Where an operand is expected, a minus touching a digit is part of the number": so it is no prefix sign before the text t
abbrev pub touches : Op1 → List ℕ → Bool
touches Negate t = is_decimal (look t)
touches Upper t = false
touches Lower t = false

abbrev pub spaces : ℕ → List ℕ
spaces n = replicate n 32

-- "A sum is made of products, a product of operands, and an operand may be a parenthesised sum or any other expression; .. all grouped to
-- the left; prefix signs bind tightest"; "spaces beside operators only": on either side of each, infix or prefix
pub data Exp : ℕ → Expr → List ℕ → Type 0 where
  number : {z : ℤ} {t : List ℕ} → Number z t → Exp 0 (num z) t
  named : {n : ℕ} {t : List ℕ} → Name n t → Exp 0 (name n) t
  signed : {e : Expr} {t : List ℕ} (o : Op1) (m n : ℕ) → touches o (spaces n ++ t) ≡ false → Exp 0 e t
      → Exp 0 (one o e) (spaces m ++ (sign1 o ∷ (spaces n ++ t)))
  parens : {e : Expr} {t : List ℕ} → Exp 5 e t → Exp 0 e (40 ∷ (t ++ (41 ∷ [])))
  tighter : {l : ℕ} {e : Expr} {t : List ℕ} → Exp l e t → Exp (suc l) e t
  joined : {l : ℕ} {e d : Expr} {s t : List ℕ} (o : Op2) (m n : ℕ) → level_of o ≡ suc l → Exp (suc l) e s → Exp l d t
      → Exp (suc l) (two o e d) (s ++ (spaces m ++ (sign2 o ∷ (spaces n ++ t))))

-- ---- lines

-- the operands that a form writes as a bare expression
abbrev pub is_bare : Kind → Bool
is_bare Reg = false
is_bare I8 = false
is_bare D9 = true
is_bare Bit = true
is_bare Rel8 = true
is_bare A12 = true
is_bare A16 = true
is_bare Rel16 = true

pub data Argument : Kind → Operand → List ℕ → Type 0 where
  indirect : {r : ℕ} → r ≤ 3 → Argument Reg (register r) (64 ∷ 82 ∷ (48 + r) ∷ [])
  immediate : {e : Expr} {t : List ℕ} → Exp 5 e t → Argument I8 (value e) (35 ∷ t)
  bare : {k : Kind} {e : Expr} {t : List ℕ} → is_bare k ≡ true → Exp 5 e t → Argument k (value e) t

-- arguments and items of data: `by` stands before the first, a comma before each other
pub data Arguments : ℕ → List Kind → List Operand → List ℕ → Type 0 where
  none : {by : ℕ} → Arguments by [] [] []
  more : {by : ℕ} {k : Kind} {x : Operand} {ks : List Kind} {xs : List Operand} {s t : List ℕ} → Argument k x s → Arguments 44 ks xs t
      → Arguments by (k ∷ ks) (x ∷ xs) (by ∷ (s ++ t))

pub data Items : ℕ → List Expr → List ℕ → Type 0 where
  none : {by : ℕ} → Items by [] []
  more : {by : ℕ} {e : Expr} {es : List Expr} {s t : List ℕ} → Exp 5 e s → Items 44 es t → Items by (e ∷ es) (by ∷ (s ++ t))

-- a good line: "a line of this form, numbers and names in range". A statement read alone has place 0.
pub data Line : Stmt → List ℕ → Type 0 where
  instruction : {f : ℕ} {xs : List Operand} {t : List ℕ} → f < 70 → Arguments 32 (operands_at f) xs t → Line (instr f xs 0) (mnemonic f ++ t)
  labelled : {n : ℕ} {t : List ℕ} → Name n t → Line (label n) (t ++ (58 ∷ []))
  defined : {n : ℕ} {e : Expr} {s t : List ℕ} → Name n s → n < 0x8000 → Exp 5 e t → Line (variable n e) (s ++ (61 ∷ t))
  commented : {s : List ℕ} → every (λ b. leb b 255) s ≡ true → Line (comment s) (codes ".comment" ++ comment_text s)
  located : {l : ℕ} {t : List ℕ} → Decimal 65535 l t → Line (org l) (codes ".org " ++ t)
  byte_items : {es : List Expr} {t : List ℕ} → 1 ≤ length es → length es ≤ 16 → Items 32 es t → Line (bytes es) (codes ".byte" ++ t)
  word_items : {es : List Expr} {t : List ℕ} → 1 ≤ length es → length es ≤ 16 → Items 32 es t → Line (words es) (codes ".word" ++ t)
  aligned : {a m : ℕ} {s t : List ℕ} → Decimal 255 a s → Decimal 256 m t → 1 ≤ m → Line (pad a m) (codes ".align " ++ (s ++ (44 ∷ t)))

-- ---- "the column from 0 of the first byte that no good line could have there, or of the line's end"

abbrev pub Good : List ℕ → Type 0
Good t = (s : Stmt) × Line s t

-- some good line begins so. No limit is asked of it: a good line may pass the limits, which is 2 and not 15
abbrev pub Begins : List ℕ → Type 0
Begins p = (u : List ℕ) × Good (p ++ u)

pub record WrongAt (t : List ℕ) (c : ℕ) : Type 0 where
  pub within : c ≤ length t
  pub before : Begins (take c t)
  pub there : c < length t → Begins (take (suc c) t) → ⊥
  pub ends : c ≡ length t → Good t → ⊥

-- ---- "then a good line whose expression passes 32 bytes or whose frame passes 120 is 2"

abbrev pub Fitting : Stmt → Type 0
Fitting s = (over_exprs (λ e. cond (leb (length (bytes_of e)) 32) 0 1) s ≡ 0) × (length (frame_of s) ≤ 120)
