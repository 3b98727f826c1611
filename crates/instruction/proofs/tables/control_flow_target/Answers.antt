-- `instruction::tables::control_flow_target` meets its contract, by what `is_transfer` and `operand_count` ensure. Assumes nothing.
use mathlib.Core.Path.{◌∙◌, sym}
use native.Mathlib.Omega.{arith}
use Rattle.instruction.proofs.Rows.{has_target}
use Rattle.instruction.proofs.tables.control_flow_target.Goals as goal

pub overflow_sub-result : goal.overflow_sub-result
overflow_sub-result c =
    omega (arith, c.operand_count.ensures, has_target c.args.form (sym c.is_transfer.ensures ∙ c.if-is_transfer.true))
