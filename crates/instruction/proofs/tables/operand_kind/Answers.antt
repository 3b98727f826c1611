-- `instruction::tables::operand_kind` meets its contract, by what `entry` and `kind_of` ensure. Assumes nothing.
use mathlib.Core.Path.{sym}
use native.Mathlib.Omega.{arith}
use Rattle.rules.specs.Forms.{operands_at}
use Rattle.instruction.proofs.Numbers.{few_operands}
use Rattle.instruction.proofs.Rows.{past_operands}
use Rattle.instruction.proofs.tables.operand_kind.Goals as goal

pub returns-else-j-lt3 : goal.returns-else-j-lt3
returns-else-j-lt3 c =
    let x = c.args in
    sym (past_operands (operands_at x.form) x.j (omega (arith, few_operands x.form, c.if-j-lt3.false)))
