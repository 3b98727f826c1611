-- A line holds no line feed: each of its bytes is a space or comes behind it. So a text of lines parts into exactly these.
use mathlib.Core.Path.{◌≡◌, refl, ◌∙◌, ap}
use mathlib.Core.List.{List, [], ◌∷◌, ◌++◌, append_assoc}
use mathlib.Core.Bool.{Bool, true, false, cond}
use Prim.Native.Nat.{ℕ, zero, suc, ◌+◌, ◌-◌, ◌/◌, ◌%◌, ◌≤◌, ◌<◌}
use native.Mathlib.Omega.{arith}
use lib.Dec.{leb, ltb}
use lib.IntN.{ℤ, pos, negsuc}
use borrow.Author.Tests.{leb-true, le-leb, ne_eqb}
use Rattle.laws.specs.Counts.{all_to}
use Rattle.laws.specs.Lists.{every, each}
use Rattle.laws.proofs.Lists.{every_append}
use Rattle.laws.proofs.Tests.{and_true, and_both}
use Rattle.rules.specs.declared.Kind.{Kind}
use Rattle.rules.specs.declared.Kind.TheVariants.{Reg, I8, D9, Bit, Rel8, A12, A16, Rel16}
use Rattle.rules.specs.declared.Op1.{Op1}
use Rattle.rules.specs.declared.Op1.TheVariants.{Negate, Upper, Lower}
use Rattle.rules.specs.declared.Op2.{Op2}
use Rattle.rules.specs.declared.Op2.TheVariants.{Plus, Minus, Times, Divide, Xor, And, Or}
use Rattle.rules.specs.Expressions.{Expr, num, name, two, one}
use Rattle.rules.specs.Forms.{form_at, operands_at}
use Rattle.rules.specs.Listing.{lines_of}
use Rattle.rules.specs.Output.{hex_digit, hex_byte}
use Rattle.rules.specs.Patterns.{codes}
use Rattle.rules.specs.Programs.{Operand, register, value, inner, Program}
use Rattle.rules.specs.Programs.{Stmt, gone, instr, label, variable, comment, org, bytes, words, pad}
use Rattle.instruction.proofs.Entries.{holds_at}
use Rattle.promises.proofs.Sounds.{SoundStmt}
use Rattle.text.specs.Text.{digits_of, decimal, five, number, name_text, sign1, sign2, closed, expr_text}
use Rattle.text.specs.Text.{mnemonic, mark, arg_text, args_text, items_text, comment_text, line_text}
use Rattle.readable.specs.Readable.{text_of}

abbrev visible : ℕ → Bool
visible c = leb 32 c

abbrev Visible : List ℕ → Type 0
Visible t = every visible t ≡ true

-- ---- one behind the other

empty : Visible []
unfolding every
empty = refl

byte : (c : ℕ) (t : List ℕ) → 32 ≤ c → Visible t → Visible (c ∷ t)
unfolding every
byte c t h k = and_both (visible c) (every visible t) (le-leb 32 c h) k

both : (s t : List ℕ) → Visible s → Visible t → Visible (s ++ t)
both s t h k = every_append visible s t ∙ and_both (every visible s) (every visible t) h k

-- ---- numbers and names

digits_visible : (k n : ℕ) → Visible (digits_of k n)
unfolding digits_of
digits_visible zero n = empty
digits_visible (suc k) n = on (ltb n 10) (digits_visible k (n / 10))
  where
    on : (b : Bool) → Visible (digits_of k (n / 10)) → Visible (cond b ((48 + n) ∷ []) (digits_of k (n / 10) ++ ((48 + n % 10) ∷ [])))
    on true h = byte (48 + n) [] (omega arith) empty
    on false h = both (digits_of k (n / 10)) ((48 + n % 10) ∷ []) h (byte (48 + n % 10) [] (omega arith) empty)

five_visible : (n : ℕ) → Visible (five n)
unfolding five
five_visible n =
    byte (48 + n / 10000) _ (omega arith)
    (byte (48 + n / 1000 % 10) _ (omega arith)
    (byte (48 + n / 100 % 10) _ (omega arith)
    (byte (48 + n / 10 % 10) _ (omega arith)
    (byte (48 + n % 10) [] (omega arith) empty))))

number_visible : (z : ℤ) → Visible (number z)
number_visible (pos n) = digits_visible 10 n
number_visible (negsuc n) = byte 45 (decimal (suc n)) (omega arith) (digits_visible 10 (suc n))

name_visible : (n : ℕ) → Visible (name_text n)
name_visible n = on (ltb n 0x8000)
  where
    on : (b : Bool) → Visible (cond b (103 ∷ five n) (46 ∷ 108 ∷ five (n - 0x8000)))
    on true = byte 103 (five n) (omega arith) (five_visible n)
    on false = byte 46 (108 ∷ five (n - 0x8000)) (omega arith) (byte 108 (five (n - 0x8000)) (omega arith) (five_visible (n - 0x8000)))

-- ---- expressions

infix_high : (o : Op2) → 32 ≤ sign2 o
infix_high Plus = omega arith
infix_high Minus = omega arith
infix_high Times = omega arith
infix_high Divide = omega arith
infix_high Xor = omega arith
infix_high And = omega arith
infix_high Or = omega arith

prefix_high : (o : Op1) → 32 ≤ sign1 o
prefix_high Negate = omega arith
prefix_high Upper = omega arith
prefix_high Lower = omega arith

parens_visible : (t : List ℕ) → Visible t → Visible (40 ∷ (t ++ (41 ∷ [])))
parens_visible t h = byte 40 (t ++ (41 ∷ [])) (omega arith) (both t (41 ∷ []) h (byte 41 [] (omega arith) empty))

closed_visible : (e : Expr) (t : List ℕ) → Visible t → Visible (closed e t)
closed_visible (num z) t h = h
closed_visible (name n) t h = h
closed_visible (two o e d) t h = parens_visible t h
closed_visible (one o e) t h = parens_visible t h

expr_visible : (e : Expr) → Visible (expr_text e)
unfolding expr_text
expr_visible (num z) = number_visible z
expr_visible (name n) = name_visible n
expr_visible (two o e d) =
    both (closed e (expr_text e)) (sign2 o ∷ closed d (expr_text d)) (closed_visible e (expr_text e) (expr_visible e))
    (byte (sign2 o) (closed d (expr_text d)) (infix_high o) (closed_visible d (expr_text d) (expr_visible d)))
expr_visible (one o e) = byte (sign1 o) (40 ∷ (expr_text e ++ (41 ∷ []))) (prefix_high o) (parens_visible (expr_text e) (expr_visible e))

-- ---- arguments, items and comments

mark_visible : (k : Kind) → Visible (mark k)
mark_visible Reg = empty
mark_visible I8 = byte 35 [] (omega arith) empty
mark_visible D9 = empty
mark_visible Bit = empty
mark_visible Rel8 = empty
mark_visible A12 = empty
mark_visible A16 = empty
mark_visible Rel16 = empty

arg_visible : (k : Kind) (x : Operand) → Visible (arg_text k x)
arg_visible k (register r) =
    byte 64 (82 ∷ (48 + r) ∷ []) (omega arith) (byte 82 ((48 + r) ∷ []) (omega arith) (byte (48 + r) [] (omega arith) empty))
arg_visible k (value e) = both (mark k) (expr_text e) (mark_visible k) (expr_visible e)
arg_visible k (inner i o) = empty

args_visible : (by : ℕ) (ks : List Kind) (xs : List Operand) → 32 ≤ by → Visible (args_text by ks xs)
unfolding args_text
args_visible by [] xs h = empty
args_visible by (k ∷ ks) [] h = empty
args_visible by (k ∷ ks) (x ∷ xs) h =
    byte by (arg_text k x ++ args_text 44 ks xs) h
    (both (arg_text k x) (args_text 44 ks xs) (arg_visible k x) (args_visible 44 ks xs (omega arith)))

items_visible : (by : ℕ) (es : List Expr) → 32 ≤ by → Visible (items_text by es)
unfolding items_text
items_visible by [] h = empty
items_visible by (e ∷ es) h =
    byte by (expr_text e ++ items_text 44 es) h (both (expr_text e) (items_text 44 es) (expr_visible e) (items_visible 44 es (omega arith)))

hex_high : (d : ℕ) → 32 ≤ hex_digit d
hex_high d = on (ltb d 10)
  where
    on : (b : Bool) → 32 ≤ cond b (48 + d) (55 + d)
    on true = omega arith
    on false = omega arith

pairs_visible : (s : List ℕ) → Visible (each (λ b. hex_byte b) s)
unfolding each
pairs_visible [] = empty
pairs_visible (b ∷ s) = byte (hex_digit (b / 16)) _ (hex_high (b / 16)) (byte (hex_digit (b % 16)) _ (hex_high (b % 16)) (pairs_visible s))

comment_visible : (s : List ℕ) → Visible (comment_text s)
comment_visible [] = empty
comment_visible (b ∷ s) = byte 32 (each (λ c. hex_byte c) (b ∷ s)) (omega arith) (pairs_visible (b ∷ s))

mnemonic_visible : (f : ℕ) → f < 70 → Visible (mnemonic f)
unfolding all_to form_at mnemonic every
mnemonic_visible f h = holds_at (λ k. every visible (mnemonic k)) 70 tt f h

-- ---- lines

pub line_visible : (s : Stmt) → SoundStmt s → Visible (line_text s)
unfolding line_text
line_visible gone h = empty
line_visible (instr f xs c) h =
    both (mnemonic f) (args_text 32 (operands_at f) xs) (mnemonic_visible f h.0) (args_visible 32 (operands_at f) xs (omega arith))
line_visible (label n) h = both (name_text n) (58 ∷ []) (name_visible n) (byte 58 [] (omega arith) empty)
line_visible (variable n e) h =
    both (name_text n) (61 ∷ expr_text e) (name_visible n) (byte 61 (expr_text e) (omega arith) (expr_visible e))
line_visible (comment s) h = both (codes ".comment") (comment_text s) (unfold every in refl) (comment_visible s)
line_visible (org l) h = both (codes ".org ") (decimal l) (unfold every in refl) (digits_visible 10 l)
line_visible (bytes es) h = both (codes ".byte") (items_text 32 es) (unfold every in refl) (items_visible 32 es (omega arith))
line_visible (words es) h = both (codes ".word") (items_text 32 es) (unfold every in refl) (items_visible 32 es (omega arith))
line_visible (pad add m) h =
    both (codes ".align ") (decimal add ++ (44 ∷ decimal m)) (unfold every in refl)
    (both (decimal add) (44 ∷ decimal m) (digits_visible 10 add) (byte 44 (decimal m) (omega arith) (digits_visible 10 m)))

-- ---- the lines of a text

part : (t r : List ℕ) → Visible t → lines_of (t ++ (10 ∷ r)) ≡ record { chars = t; ended = true } ∷ lines_of r
unfolding lines_of every
part [] r h = refl
part (c ∷ t) r h =
    let a = and_true (visible c) (every visible t) h in
    rw (ne_eqb c 10 (λ z. omega (arith, leb-true 32 c a.0)), part t r a.1)

pub none_left : lines_of (text_of []) ≡ []
unfolding lines_of text_of each
none_left = refl

pub first_line : (s : Stmt) (p : Program) → SoundStmt s
    → lines_of (text_of (s ∷ p)) ≡ record { chars = line_text s; ended = true } ∷ lines_of (text_of p)
unfolding text_of each
first_line s p h = ap lines_of (append_assoc (line_text s) (10 ∷ []) (text_of p)) ∙ part (line_text s) (text_of p) (line_visible s h)
