-- `output::lines::own_end` meets its contract: a transfer's target is its last argument.
use mathlib.Core.Path.{sym, ap, ◌∙◌}
use Prim.Native.Nat.{◌-◌, ◌≤◌}
use native.Mathlib.Omega.{arith}
use lib.ListN.{get_or}
use Rattle.rules.specs.Forms.{operands_at}
use Rattle.rules.specs.Statements.{argument_at}
use Rattle.instruction.proofs.Numbers.{few_operands}
use Rattle.slots.proofs.Operands.{instr_in}
use Rattle.output.proofs.Targets.{transfer_some, own_transfer, own_other}
use Rattle.output.proofs.lines.own_end.Goals as goal

-- a transfer has an operand at least
some : (c : goal.After-operand_count) → 1 ≤ c.operand_count.result
some c = rw c.operand_count.ensures (transfer_some _ (sym c.is_transfer.ensures ∙ c.if-is_transfer.true))

-- a transfer has an operand at least
some_2 : (c : goal.After-argument_at) → 1 ≤ c.operand_count.result
some_2 c = rw c.operand_count.ensures (transfer_some _ (sym c.is_transfer.ensures ∙ c.if-is_transfer.true))

pub bounds-frame-1 : goal.bounds-frame-1
bounds-frame-1 c = omega (arith, (instr_in c.args.at.0 c.args.frame.now c.requires.0).long)

pub overflow_sub-operand_count : goal.overflow_sub-operand_count
overflow_sub-operand_count c = some c

pub argument_at-requires : goal.argument_at-requires
argument_at-requires c =
    (omega (arith, c.requires.1), omega (arith, some c, c.operand_count.ensures, few_operands (get_or c.args.frame.now 1 0)))

pub returns-then-is_transfer : goal.returns-then-is_transfer
returns-then-is_transfer c =
    let t = sym c.is_transfer.ensures ∙ c.if-is_transfer.true in
    c.argument_at.ensures c.args.frame.now c.requires.2 c.requires.0.kind (omega (arith, some_2 c, c.operand_count.ensures))
    ∙ ap (λ n. argument_at c.args.frame.now (operands_at (get_or c.args.frame.now 1 0)) 2 (n - 1)) c.operand_count.ensures
    ∙ sym (own_transfer c.args.frame.now t)

pub returns-else-is_transfer : goal.returns-else-is_transfer
returns-else-is_transfer c =
    sym (own_other c.args.frame.now (sym c.is_transfer.ensures ∙ c.if-is_transfer.false))
