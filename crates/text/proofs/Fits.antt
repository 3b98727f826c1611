-- A statement that was read from bytes fits: `frame_fits`.
use mathlib.Core.Path.{◌≡◌, refl, ap}
use mathlib.Core.List.{List, []}
use mathlib.Core.Bool.{true, false}
use Prim.Native.Nat.{ℕ, ◌≤◌, ◌<◌}
use native.Mathlib.Omega.{arith}
use lib.IntN.{pos}
use lib.ListN.{length, get_or, drop}
use lib.Seq.{length-take-le}
use Rattle.rules.specs.declared.Kind.{Kind}
use Rattle.rules.specs.declared.Kind.TheVariants.{Reg, I8, D9, Bit, Rel8, A12, A16, Rel16}
use Rattle.rules.specs.Answers.{ok}
use Rattle.rules.specs.Expressions.{Expr, num}
use Rattle.rules.specs.Forms.{operands_at}
use Rattle.rules.specs.Listing.{read_frame}
use Rattle.rules.specs.Programs.{Operand, register, Stmt}
use Rattle.rules.specs.Statements.{pair_at, arg_at, argument_at, expr_at, operand_at}
use Rattle.expression.specs.Sound.{AreBytes}
use Rattle.expression.proofs.RoundTrip.{bytes_drop, written_expr}
use Rattle.slots.specs.Slots.{is_reg, item_at}
use Rattle.slots.proofs.Frames.{Left, Reads, Frame, of_instr, of_label, of_variable, of_comment, of_org, of_bytes, of_words, of_pad, InstrFrame, DataFrame, frame_read}
use Rattle.slots.proofs.Items.{items_read}
use Rattle.slots.proofs.Operands.{OperandRead, operands_read}
use Rattle.text.specs.Fits.{ExprFits, OperandFits, is_register, is_value, OperandsFit, ItemsFit, StmtFits, fits_instr, fits_label, fits_variable, fits_comment, fits_org, fits_bytes, fits_words, fits_pad}

module _ (s : List ℕ) (v : AreBytes s) where
  expr_fits : (a : ℕ) (e : Expr) → Reads (drop a s) e → ExprFits e
  expr_fits a e r =
      let w = written_expr (drop a s) (bytes_drop a s v) e r.width r.reads in
      record { sound = w.sound; short = omega (arith, ap length w.is, length-take-le r.width (drop a s) w.within, w.limit) }

  operand_fits : (k : Kind) (a : ℕ) (x : Operand) → OperandRead s k a x → OperandFits k x
  operand_fits k a x r = rw r.is (on k r.reads r.small)
    where
      on : (k : Kind) → (is_reg k ≡ false → Reads (drop a s) (expr_at s (arg_at a))) → (is_reg k ≡ true → get_or s a 0 ≤ 3)
          → OperandFits k (operand_at s k (arg_at a))
      on Reg e h = is_register (get_or s a 0) refl (h refl)
      on I8 e h = is_value (expr_at s (arg_at a)) refl (expr_fits a _ (e refl))
      on D9 e h = is_value (expr_at s (arg_at a)) refl (expr_fits a _ (e refl))
      on Bit e h = is_value (expr_at s (arg_at a)) refl (expr_fits a _ (e refl))
      on Rel8 e h = is_value (expr_at s (arg_at a)) refl (expr_fits a _ (e refl))
      on A12 e h = is_value (expr_at s (arg_at a)) refl (expr_fits a _ (e refl))
      on A16 e h = is_value (expr_at s (arg_at a)) refl (expr_fits a _ (e refl))
      on Rel16 e h = is_value (expr_at s (arg_at a)) refl (expr_fits a _ (e refl))

  operands_fit : (i : ℕ) (x : Stmt) (f : InstrFrame i s x) → OperandsFit (operands_at (get_or s 1 0)) f.args
  operands_fit i x f =
      let r = operands_read i s (operands_at (get_or s 1 0)) 2 (Left f.args []) f.operands in
      record {
        count = r.count;
        each = λ j h. operand_fits (get_or (operands_at (get_or s 1 0)) j Reg)
            (argument_at s (operands_at (get_or s 1 0)) 2 j) (get_or f.args j (register 0)) (r.each j h);
      }

  items_fit : (k : ℕ) (of : List Expr → Stmt) (i : ℕ) (x : Stmt) (f : DataFrame k of i s x) → ItemsFit f.es
  items_fit k of i x f =
      let r = items_read i s (get_or s 1 0) 2 (Left f.es []) f.items in
      let n = r.count in
      record {
        some = omega (arith, f.some);
        few = omega (arith, f.few);
        each = λ j h. expr_fits (item_at s 2 j) (get_or f.es j (num (pos 0))) (r.each j (omega arith));
      }

  pair_low : pair_at s 1 < 65536
  pair_low = omega (arith, v 1, v 2)

  pub frame_fits : (i : ℕ) (x : Stmt) → read_frame i s ≡ ok x → StmtFits x
  frame_fits i x e = on (frame_read i s x e)
    where
      on : Frame i s x → StmtFits x
      on (of_instr f) = rw f.is (fits_instr (get_or s 1 0) f.args i f.known (operands_fit i x f))
      on (of_label f) = rw f.is (fits_label (pair_at s 1) pair_low)
      on (of_variable f) = rw f.is (fits_variable (pair_at s 1) f.e f.low (expr_fits 3 f.e f.reads))
      on (of_comment f) = rw f.is (fits_comment (drop 1 s) (bytes_drop 1 s v))
      on (of_org f) = rw f.is (fits_org (pair_at s 1) pair_low)
      on (of_bytes f) = rw f.is (fits_bytes f.es (items_fit _ _ i x f))
      on (of_words f) = rw f.is (fits_words f.es (items_fit _ _ i x f))
      on (of_pad f) = rw f.is (fits_pad (get_or s 1 0) (pair_at s 2) (v 1) f.some f.few)
