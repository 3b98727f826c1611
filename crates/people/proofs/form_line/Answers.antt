use native.Mathlib.Omega.{arith}
use mathlib.Core.List.{[], ◌∷◌, ◌++◌}
use Rattle.rules.specs.Programs.{instr}
use Rattle.text.specs.Text.{mnemonic}
use Rattle.plans.specs.Families.{args_plan, family_of}
use Rattle.openings.proofs.Numbered.{with_arguments, without_arguments}
use Rattle.people.proofs.Rows.{row_within, row_opens, row_closes, form_held}
use Rattle.people.proofs.form_line.Goals as goal

pub arguments-requires : goal.arguments-requires
arguments-requires c =
    let a = c.args in (
      row_within a.s.now a.n a.form (omega (arith, c.requires.0)) c.requires.2 (mnemonic a.form ++ (32 ∷ []))
          (args_plan 3 (family_of a.form) [])
          (with_arguments a.form c.requires.0 (omega (arith, c.operand_count.ensures, c.if-operand_count-gt0.true))),
      c.requires.0,
      c.requires.1,
    )

pub returns-then-operand_count-gt0 : goal.returns-then-operand_count-gt0
returns-then-operand_count-gt0 c =
    let a = c.args in
    row_opens a.s.now a.n a.form (omega (arith, c.requires.0)) c.requires.2 (mnemonic a.form ++ (32 ∷ []))
    (args_plan 3 (family_of a.form) []) c.arguments.new.out c.arguments.result
    (with_arguments a.form c.requires.0 (omega (arith, c.operand_count.ensures, c.if-operand_count-gt0.true))) c.arguments.ensures

pub returns : goal.returns
returns c =
    let a = c.args in
    row_closes a.s.now a.n a.form (omega (arith, c.requires.0)) c.requires.2 (mnemonic a.form) (instr a.form [] 0) c.put.new.out
    c.put.result
    (without_arguments a.form c.requires.0 (omega (arith, c.operand_count.ensures, c.if-operand_count-gt0.false)))
    (form_held a.out.now c.put-a.new.out c.put.new.out a.form c.put-a.result c.put.result c.requires.1 c.put-a.ensures c.put.ensures)
