-- Statements that a frame can say: forms below 70, operands by kind, and each number, name and count in its field. Inner labels may stand for
-- addresses.
use mathlib.Core.List.{List, [], ◌∷◌, map}
use mathlib.Core.Bool.{Bool, true, false}
use Prim.Native.Nat.{ℕ, ◌≤◌, ◌<◌}
use lib.ListN.{length}
use borrow.Author.Tests.{lt-ltb}
use Rattle.laws.proofs.Lists.{every_all}
use Rattle.rules.specs.declared.Kind.{Kind}
use Rattle.rules.specs.declared.Kind.TheVariants.{Reg, I8, D9, Bit, Rel8, A12, A16, Rel16}
use Rattle.rules.specs.Expressions.{Expr, bytes_of}
use Rattle.rules.specs.Forms.{operands_at}
use Rattle.rules.specs.Programs.{Operand, register, value, inner, Stmt, gone, instr, label, variable, comment, org, bytes, words, pad}
use Rattle.promises.proofs.Parses.{Bytes, Fine}
use Rattle.promises.proofs.RoundTrip.{is_byte, AllBytes}

-- bytes by place are bytes by the test
pub all_bytes : (s : List ℕ) → Bytes s → AllBytes s
all_bytes s h = every_all is_byte s 0 (λ i l. lt-ltb _ 256 (h i))

-- ---- operands
abbrev pub is_register : Kind → Bool
is_register Reg = true
is_register I8 = false
is_register D9 = false
is_register Bit = false
is_register Rel8 = false
is_register A12 = false
is_register A16 = false
is_register Rel16 = false

-- which operands of a form are registers
abbrev pub shapes : ℕ → List Bool
shapes f = map (λ k. is_register k) (operands_at f)

abbrev pub SoundExpr : Expr → Type 0
SoundExpr e = Fine e × (length (bytes_of e) ≤ 32)

abbrev pub SoundExprs : List Expr → Type 0
SoundExprs [] = Unit
SoundExprs (e ∷ es) = SoundExpr e × SoundExprs es

abbrev pub Sound : Bool → Operand → Type 0
Sound true (register r) = r ≤ 3
Sound true (value e) = ⊥
Sound true (inner i o) = ⊥
Sound false (register r) = ⊥
Sound false (value e) = SoundExpr e
Sound false (inner i o) = Unit

abbrev pub Sounds : List Bool → List Operand → Type 0
Sounds [] [] = Unit
Sounds [] (x ∷ xs) = ⊥
Sounds (b ∷ bs) [] = ⊥
Sounds (b ∷ bs) (x ∷ xs) = Sound b x × Sounds bs xs

-- ---- statements
abbrev pub SoundStmt : Stmt → Type 0
SoundStmt gone = Unit
SoundStmt (instr f xs c) = (f < 70) × Sounds (shapes f) xs
SoundStmt (label n) = n < 65536
SoundStmt (variable n e) = (n < 0x8000) × SoundExpr e
SoundStmt (comment x) = AllBytes x
SoundStmt (org l) = l < 65536
SoundStmt (bytes es) = (1 ≤ length es) × (length es ≤ 16) × SoundExprs es
SoundStmt (words es) = (1 ≤ length es) × (length es ≤ 16) × SoundExprs es
SoundStmt (pad add m) = (add < 256) × (1 ≤ m) × (m ≤ 256)
