-- The lines that the writer leaves: data, arguments, and each kind of frame.
use Rattle.std.specs.Prelude.{◌≡◌, List, [], ◌∷◌, ◌++◌, Bool, true, false, ℕ, ◌+◌, ◌≤◌, ◌<◌, eqb, pos, length, get_or, drop}
use Rattle.laws.specs.Lists.{each}
use Rattle.rules.specs.Expressions.{Expr, num, got, read_expr, bytes_of}
use Rattle.rules.specs.Forms.{operands_at}
use Rattle.rules.specs.declared.Kind.{Kind}
use Rattle.rules.specs.Output.{operand_bytes, frame_of}
use Rattle.rules.specs.Programs.{Placeℕ, Operand, Stmt, instr, label, variable, comment, org, pad}
use Rattle.rules.specs.Statements.{pair_at}
use Rattle.text.specs.Fits.{ExprFits, OperandFits, OperandsFit, StmtFits}
use Rattle.text.specs.Text.{arg_text, args_text, items_text, line_text}
use Rattle.text.specs.Words.{dot_word}
use Rattle.terms.specs.Writing.{Wrote}

-- items of data written: those whose bytes s begins with
pub record Itemed (by : ℕ) (s b a : List ℕ) (count at to : ℕ) : Type 0 where
  pub size : length a ≡ 1024
  pub bound : to ≤ 1025
  pub all : (es : List Expr) (rest : List ℕ) → length es ≡ count → s ≡ each (λ e. bytes_of e) es ++ rest
      → ((j : ℕ) → j < length es → ExprFits (get_or es j (num (pos 0)))) → Wrote b a at (items_text by es) to

-- a register written: `@R` and a digit
pub record Registered (s b a : List ℕ) (at t to : ℕ) : Type 0 where
  pub size : length a ≡ 1024
  pub bound : to ≤ 1025
  pub within : t ≤ length s
  pub is : (r : ℕ) (rest : List ℕ) → s ≡ r ∷ rest → r ≤ 3 → Wrote b a at (64 ∷ 82 ∷ (48 + r) ∷ []) to × (t ≡ 1)

-- an argument of a kind written
pub record Argued (k : Kind) (s b a : List ℕ) (at t to : ℕ) : Type 0 where
  pub size : length a ≡ 1024
  pub bound : to ≤ 1025
  pub within : t ≤ length s
  pub is : (x : Operand) (rest : List ℕ) → OperandFits k x → s ≡ operand_bytes x ++ rest
      → Wrote b a at (arg_text k x) to × (t ≡ length (operand_bytes x))

-- arguments of these kinds written: those whose bytes s begins with
pub record Arguing (ks : List Kind) (by : ℕ) (s b a : List ℕ) (at to : ℕ) : Type 0 where
  pub size : length a ≡ 1024
  pub bound : to ≤ 1025
  pub all : (xs : List Operand) (rest : List ℕ) → OperandsFit ks xs → s ≡ each (λ x. operand_bytes x) xs ++ rest
      → Wrote b a at (args_text by ks xs) to

-- ---- lines by the kind of their frame s

-- the line of data: bytes or words
abbrev pub DataWritten : (s b a : List ℕ) (to : ℕ) → Type 0
DataWritten s b a to =
    (es : List Expr) → drop 1 s ≡ length es ∷ each (λ e. bytes_of e) es → ((j : ℕ) → j < length es → ExprFits (get_or es j (num (pos 0))))
    → Wrote b a 0 (dot_word (get_or s 0 0) ++ items_text 32 es) to

abbrev pub InstrWritten : (s b a : List ℕ) (to : ℕ) → Type 0
InstrWritten s b a to =
    (xs : List Operand) (c : Placeℕ) → drop 2 s ≡ each (λ x. operand_bytes x) xs → OperandsFit (operands_at (get_or s 1 0)) xs
    → Wrote b a 0 (line_text (instr (get_or s 1 0) xs c)) to

abbrev pub VariableWritten : (s b a : List ℕ) (to : ℕ) → Type 0
VariableWritten s b a to = (e : Expr) (n : ℕ) → read_expr (drop 3 s) ≡ got e n → Wrote b a 0 (line_text (variable (pair_at s 1) e)) to

abbrev IfKind : Bool → Type 0 → Type 0 → Type 0
IfKind true A B = A
IfKind false A B = B

-- what is written for a frame of kind k
abbrev pub Written : (k : ℕ) (s b a : List ℕ) (to : ℕ) → Type 0
Written k s b a to =
    IfKind (eqb k 1) (InstrWritten s b a to)
    (IfKind (eqb k 2) (Wrote b a 0 (line_text (label (pair_at s 1))) to)
    (IfKind (eqb k 3) (VariableWritten s b a to)
    (IfKind (eqb k 4) (Wrote b a 0 (line_text (comment (drop 1 s))) to)
    (IfKind (eqb k 5) (Wrote b a 0 (line_text (org (pair_at s 1))) to)
    (IfKind (eqb k 8) (Wrote b a 0 (line_text (pad (get_or s 1 0) (pair_at s 2))) to)
    (DataWritten s b a to))))))

-- a frame that holds a statement
abbrev pub Framed : List ℕ → Type 0
Framed s = (x : Stmt) × (StmtFits x × (s ≡ frame_of x))

-- the line of whatever statement the frame holds
abbrev pub Lined : (s b a : List ℕ) (to : ℕ) → Type 0
Lined s b a to = (x : Stmt) → StmtFits x → s ≡ frame_of x → Wrote b a 0 (line_text x) to
