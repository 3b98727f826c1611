-- How long a line can be: 355 bytes, its line feed apart, and no more than three times its frame's bytes and five.
use mathlib.Core.Path.{◌≡◌, refl}
use mathlib.Core.Bool.{Bool, true, false, cond}
use mathlib.Core.List.{List, [], ◌∷◌, ◌++◌}
use Prim.Native.Nat.{ℕ, zero, suc, ◌+◌, ◌-◌, ◌*◌, ◌/◌, ◌%◌, ◌≤◌, ◌<◌}
use native.Mathlib.Omega.{arith}
use lib.Dec.{ltb, leb}
use lib.IntN.{ℤ, pos, negsuc}
use lib.ListN.{length, get_or, length-append}
use borrow.Author.Tests.{leb-true, lt-ltb}
use Rattle.laws.specs.Counts.{all_to}
use Rattle.laws.specs.Lists.{each}
use Rattle.rules.specs.declared.Kind.{Kind}
use Rattle.rules.specs.declared.Kind.TheVariants.{Reg, I8, D9, Bit, Rel8, A12, A16, Rel16}
use Rattle.rules.specs.declared.Op1.TheVariants.{Negate}
use Rattle.rules.specs.Expressions.{Expr, num, name, two, one, bytes_of}
use Rattle.rules.specs.Forms.{form_at, operands_at}
use Rattle.rules.specs.Output.{hex_byte, operand_bytes, frame_of}
use Rattle.rules.specs.Programs.{Operand, register, value, inner, Stmt, gone, instr, label, variable, comment, org, bytes, words, pad}
use Rattle.instruction.proofs.Entries.{holds_at}
use Rattle.instruction.proofs.Numbers.{few_operands}
use Rattle.text.specs.Fits.{ExprFits, OperandFits, is_register, is_value, StmtFits, fits_instr, fits_label, fits_variable, fits_comment, fits_org, fits_bytes, fits_words, fits_pad}
use Rattle.text.specs.Text.{tens, digits_of, decimal, five, number, name_text, sign2, closed, expr_text, mnemonic, mark, arg_text, args_text, items_text, comment_text, line_text}

-- ---- numbers and names

digits_short : (k n : ℕ) → length (digits_of k n) ≤ k
unfolding digits_of
digits_short zero n = omega arith
digits_short (suc k) n = on (ltb n 10) (digits_short k (n / 10))
  where
    on : (b : Bool) → length (digits_of k (n / 10)) ≤ k
        → length (cond b ((48 + n) ∷ []) (digits_of k (n / 10) ++ ((48 + n % 10) ∷ []))) ≤ suc k
    on true h = omega arith
    on false h = omega (arith, length-append (digits_of k (n / 10)) ((48 + n % 10) ∷ []))

digits_few : (k m n : ℕ) → n < tens (suc m) → length (digits_of k n) ≤ suc m
unfolding digits_of
digits_few zero m n h = omega arith
digits_few (suc k) zero n h = rw (lt-ltb n 10 h) (omega arith)
digits_few (suc k) (suc m) n h = on (ltb n 10) (digits_few k m (n / 10) (omega arith))
  where
    on : (b : Bool) → length (digits_of k (n / 10)) ≤ suc m
        → length (cond b ((48 + n) ∷ []) (digits_of k (n / 10) ++ ((48 + n % 10) ∷ []))) ≤ suc (suc m)
    on true l = omega arith
    on false l = omega (arith, length-append (digits_of k (n / 10)) ((48 + n % 10) ∷ []))

number_short : (z : ℤ) → length (number z) ≤ 11
number_short (pos n) = omega (arith, digits_short 10 n)
number_short (negsuc n) = omega (arith, digits_short 10 (suc n))

name_short : (n : ℕ) → length (name_text n) ≤ 7
unfolding five
name_short n = on (ltb n 0x8000)
  where
    on : (b : Bool) → length (cond b (103 ∷ five n) (46 ∷ 108 ∷ five (n - 0x8000))) ≤ 7
    on true = omega arith
    on false = omega arith

-- ---- expressions: a name behind prefix operators has the longest text for its bytes

closed_short : (e : Expr) → length (expr_text e) + 2 ≤ 3 * length (bytes_of e) → length (closed e (expr_text e)) ≤ 3 * length (bytes_of e)
closed_short (num z) h = omega arith
closed_short (name n) h = omega arith
closed_short (two o e d) h = omega (arith, length-append (expr_text (two o e d)) (41 ∷ []))
closed_short (one o e) h = omega (arith, length-append (expr_text (one o e)) (41 ∷ []))

pub expr_short : (e : Expr) → length (expr_text e) + 2 ≤ 3 * length (bytes_of e)
unfolding expr_text bytes_of
expr_short (num z) = omega (arith, number_short z)
expr_short (name n) = omega (arith, name_short n)
expr_short (two o e d) =
    let x = closed_short e (expr_short e) in
    let y = closed_short d (expr_short d) in
    omega (arith, length-append (closed e (expr_text e)) (sign2 o ∷ closed d (expr_text d)), length-append (bytes_of e) (bytes_of d))
expr_short (one o e) = omega (arith, expr_short e, length-append (expr_text e) (41 ∷ []))

-- ---- items and arguments

items_short : (by : ℕ) (es : List Expr) → length (items_text by es) + length es ≤ 3 * length (each (λ e. bytes_of e) es)
unfolding items_text each
items_short by [] = omega arith
items_short by (e ∷ es) =
    omega (
      arith,
      expr_short e,
      items_short 44 es,
      length-append (expr_text e) (items_text 44 es),
      length-append (bytes_of e) (each (λ e. bytes_of e) es),
    )

items_wide : (es : List Expr) → ((j : ℕ) → j < length es → ExprFits (get_or es j (num (pos 0))))
    → length (each (λ e. bytes_of e) es) ≤ 32 * length es
unfolding each
items_wide [] f = omega arith
items_wide (e ∷ es) f =
    omega (
      arith,
      (f 0 (omega arith)).short,
      items_wide es (λ j h. f (suc j) (omega arith)),
      length-append (bytes_of e) (each (λ e. bytes_of e) es),
    )

mark_short : (k : Kind) → length (mark k) ≤ 1
mark_short Reg = omega arith
mark_short I8 = omega arith
mark_short D9 = omega arith
mark_short Bit = omega arith
mark_short Rel8 = omega arith
mark_short A12 = omega arith
mark_short A16 = omega arith
mark_short Rel16 = omega arith

arg_short : (k : Kind) (x : Operand) → length (arg_text k x) ≤ 3 * length (operand_bytes x)
arg_short k (register r) = omega arith
arg_short k (value e) = omega (arith, mark_short k, expr_short e, length-append (mark k) (expr_text e))
arg_short k (inner i o) = omega arith

args_short : (by : ℕ) (ks : List Kind) (xs : List Operand)
    → length (args_text by ks xs) ≤ 3 * length (each (λ x. operand_bytes x) xs) + length ks
unfolding args_text each
args_short by [] xs = omega arith
args_short by (k ∷ ks) [] = omega arith
args_short by (k ∷ ks) (x ∷ xs) =
    let l = length-append (arg_text k x) (args_text 44 ks xs) in
    let m = length-append (operand_bytes x) (each (λ x. operand_bytes x) xs) in
    omega (arith, arg_short k x, args_short 44 ks xs, l, m)

arg_wide : (k : Kind) (x : Operand) → OperandFits k x → length (operand_bytes x) ≤ 32
arg_wide k x (is_register r e h) = omega arith
arg_wide k x (is_value v e f) = f.short

args_wide : (ks : List Kind) (xs : List Operand) → length xs ≡ length ks
    → ((j : ℕ) → j < length ks → OperandFits (get_or ks j Reg) (get_or xs j (register 0)))
    → length (each (λ x. operand_bytes x) xs) ≤ 32 * length ks
unfolding each
args_wide [] [] e f = omega arith
args_wide [] (x ∷ xs) e f = absurd (omega arith)
args_wide (k ∷ ks) [] e f = absurd (omega arith)
args_wide (k ∷ ks) (x ∷ xs) e f =
    let m = length-append (operand_bytes x) (each (λ x. operand_bytes x) xs) in
    omega (arith, arg_wide k x (f 0 (omega arith)), args_wide ks xs (omega arith) (λ j h. f (suc j) (omega arith)), m)

-- ---- comments and mnemonics

pairs_length : (s : List ℕ) → length (each (λ b. hex_byte b) s) ≡ 2 * length s
unfolding each
pairs_length [] = omega arith
pairs_length (b ∷ s) = omega (arith, pairs_length s)

comment_short : (s : List ℕ) → (length (comment_text s) ≤ 3 * length s) × (length (comment_text s) ≤ 1 + 2 * length s)
comment_short [] = (omega arith, omega arith)
comment_short (b ∷ s) = (omega (arith, pairs_length (b ∷ s)), omega (arith, pairs_length (b ∷ s)))

mnemonic_short : (f : ℕ) → f < 70 → length (mnemonic f) ≤ 5
unfolding all_to form_at mnemonic
mnemonic_short f h = leb-true (length (mnemonic f)) 5 (holds_at (λ k. leb (length (mnemonic k)) 5) 70 tt f h)

-- ---- lines

-- each number of a statement in its field: what the length of a line depends on
abbrev pub Numbered : Stmt → Type 0
Numbered gone = Unit
Numbered (instr f xs c) = f < 70
Numbered (label n) = Unit
Numbered (variable n e) = Unit
Numbered (comment s) = Unit
Numbered (org l) = l < 65536
Numbered (bytes es) = Unit
Numbered (words es) = Unit
Numbered (pad add m) = (add < 256) × (m ≤ 256)

-- by the bytes of its frame
pub line_by_frame : (x : Stmt) → Numbered x → length (line_text x) ≤ 3 * length (frame_of x) + 5
unfolding line_text frame_of
line_by_frame gone h = omega arith
line_by_frame (instr f xs c) h =
    let a = args_short 32 (operands_at f) xs in
    let l = length-append (mnemonic f) (args_text 32 (operands_at f) xs) in
    omega (arith, mnemonic_short f h, a, l, few_operands f)
line_by_frame (label n) h = omega (arith, name_short n, length-append (name_text n) (58 ∷ []))
line_by_frame (variable n e) h = omega (arith, name_short n, expr_short e, length-append (name_text n) (61 ∷ expr_text e))
line_by_frame (comment s) h = omega (arith, (comment_short s).0)
line_by_frame (org n) h = omega (arith, digits_few 10 4 n (omega arith))
line_by_frame (bytes es) h = omega (arith, items_short 32 es)
line_by_frame (words es) h = omega (arith, items_short 32 es)
line_by_frame (pad add m) h =
    let d = digits_few 10 2 add (omega (arith, h.0)) in
    let e = digits_few 10 2 m (omega (arith, h.1)) in
    omega (arith, d, e, length-append (decimal add) (44 ∷ decimal m))

-- "At most .. 120 bytes a frame": a line has 355 bytes at most
pub line_at_most : (x : Stmt) → StmtFits x → length (frame_of x) ≤ 120 → length (line_text x) ≤ 355
unfolding line_text frame_of
line_at_most x (fits_instr f xs c h o) k =
    let a = args_short 32 (operands_at f) xs in
    let w = args_wide (operands_at f) xs o.count o.each in
    let l = length-append (mnemonic f) (args_text 32 (operands_at f) xs) in
    omega (arith, mnemonic_short f h, a, w, l, few_operands f)
line_at_most x (fits_label n h) k = omega (arith, line_by_frame (label n) tt)
line_at_most x (fits_variable n e h f) k = omega (
  arith,
  name_short n,
  expr_short e,
  length-append (name_text n) (61 ∷ expr_text e),
  f.short,
)
line_at_most x (fits_comment s h) k = omega (arith, (comment_short s).1)
line_at_most x (fits_org n h) k = omega (arith, line_by_frame (org n) h)
line_at_most x (fits_bytes es f) k = omega (arith, items_short 32 es, items_wide es f.each)
line_at_most x (fits_words es f) k = omega (arith, items_short 32 es, items_wide es f.each)
line_at_most x (fits_pad add m a h l) k = omega (arith, line_by_frame (pad add m) (a, l))

-- and there is a line of 355: four items, each a name behind prefix operators
abbrev behind : ℕ → Expr
behind zero = name 0x8000
behind (suc n) = one Negate (behind n)

abbrev longest : Stmt
longest = bytes (behind 29 ∷ behind 29 ∷ behind 29 ∷ behind 19 ∷ [])

pub longest_line : (length (frame_of longest) ≡ 120) × (length (line_text longest) ≡ 355)
unfolding line_text frame_of items_text expr_text bytes_of each five
longest_line = (refl, refl)
