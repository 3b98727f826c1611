-- The statements that a frame can hold: the lines of C-16 are told apart among these.
use Rattle.std.specs.Prelude.{◌≡◌, true, false, List, ℕ, ◌≤◌, ◌<◌, length, get_or, pos}
use Rattle.rules.specs.declared.Kind.{Kind}
use Rattle.rules.specs.declared.Kind.TheVariants.{Reg}
use Rattle.rules.specs.Expressions.{Expr, num, bytes_of}
use Rattle.rules.specs.Forms.{operands_at}
use Rattle.rules.specs.Programs.{Placeℕ, Operand, register, value, Stmt, instr, label, variable, comment, org, bytes, words, pad, on_instr}
use Rattle.expression.specs.Sound.{Sound, AreBytes}
use Rattle.slots.specs.Slots.{is_reg}

-- "At most .. 32 bytes an expression"
pub record ExprFits (e : Expr) : Type 0 where
  pub sound : Sound e
  pub short : length (bytes_of e) ≤ 32

-- "A register is one byte, 0 to 3"; no inner label is met
pub data OperandFits (k : Kind) : Operand → Type 0 where
  is_register : (r : ℕ) → is_reg k ≡ true → r ≤ 3 → OperandFits k (register r)
  is_value : (e : Expr) → is_reg k ≡ false → ExprFits e → OperandFits k (value e)

pub record OperandsFit (kinds : List Kind) (xs : List Operand) : Type 0 where
  pub count : length xs ≡ length kinds
  pub each : (j : ℕ) → j < length kinds → OperandFits (get_or kinds j Reg) (get_or xs j (register 0))

-- "a count 1 to 16, then as many expressions"
pub record ItemsFit (es : List Expr) : Type 0 where
  pub some : 1 ≤ length es
  pub few : length es ≤ 16
  pub each : (j : ℕ) → j < length es → ExprFits (get_or es j (num (pos 0)))

pub data StmtFits : Stmt → Type 0 where
  fits_instr : (f : ℕ) (xs : List Operand) (c : Placeℕ) → f < 70 → OperandsFit (operands_at f) xs → StmtFits (instr f xs c)
  fits_label : (n : ℕ) → n < 65536 → StmtFits (label n)
  fits_variable : (n : ℕ) (e : Expr) → n < 0x8000 → ExprFits e → StmtFits (variable n e)
  fits_comment : (x : List ℕ) → AreBytes x → StmtFits (comment x)
  fits_org : (l : ℕ) → l < 65536 → StmtFits (org l)
  fits_bytes : (es : List Expr) → ItemsFit es → StmtFits (bytes es)
  fits_words : (es : List Expr) → ItemsFit es → StmtFits (words es)
  fits_pad : (add m : ℕ) → add < 256 → 1 ≤ m → m ≤ 256 → StmtFits (pad add m)

-- an instruction read alone carries the target of its own place, i
abbrev pub settle : (i : Placeℕ) → Stmt → Stmt
settle i s = on_instr s (λ x. instr x.form x.args i) s
