-- `patterns::counting::in_argument` meets its contract: a register holds no name, any other argument is an expression.
use mathlib.Core.Path.{◌≡◌, sym, ap, ◌∙◌}
use Prim.Native.Nat.{ℕ}
use lib.ListN.{get_or, drop}
use native.Mathlib.Omega.{arith}
use Rattle.rules.specs.declared.Kind.TheVariants.{Reg}
use Rattle.rules.specs.Expressions.{read_expr, mentions}
use Rattle.rules.specs.Forms.{operands_at}
use Rattle.rules.specs.Statements.{arg_at, argument_at, expr_at}
use Rattle.instruction.proofs.Numbers.{few_operands}
use Rattle.slots.specs.Slots.{is_reg}
use Rattle.slots.proofs.Operands.{instr_in, register_at_lem}
use Rattle.patterns.proofs.Mentions.{in_register, in_value, argument_inside}
use Rattle.patterns.proofs.counting.in_argument.Goals as goal

-- the test, as the definitions have it
tested : (c : goal.Then-is_register) → c.is_register.result ≡ is_reg (get_or (operands_at (get_or c.args.frame.now 1 0)) c.args.j Reg)
tested c = c.is_register.ensures ∙ register_at_lem (operands_at (get_or c.args.frame.now 1 0)) c.args.j c.requires.1

-- the test, as the definitions have it
tested_2 : (c : goal.After-in_part) → c.is_register.result ≡ is_reg (get_or (operands_at (get_or c.args.frame.now 1 0)) c.args.j Reg)
tested_2 c = c.is_register.ensures ∙ register_at_lem (operands_at (get_or c.args.frame.now 1 0)) c.args.j c.requires.1

-- where reading found it
found : (c : goal.After-argument_at) → c.argument_at.result ≡ argument_at c.args.frame.now (operands_at (get_or c.args.frame.now 1 0)) 2
    c.args.j
found c = c.argument_at.ensures c.args.frame.now c.requires.4 c.requires.0.kind c.requires.1

-- where reading found it
found_2 : (c : goal.After-in_part) → c.argument_at.result ≡ argument_at c.args.frame.now (operands_at (get_or c.args.frame.now 1 0)) 2
    c.args.j
found_2 c = c.argument_at.ensures c.args.frame.now c.requires.4 c.requires.0.kind c.requires.1

pub bounds-frame-1 : goal.bounds-frame-1
bounds-frame-1 c = omega (arith, (instr_in c.args.at.0 c.args.frame.now c.requires.0).long)

pub returns-then-is_register : goal.returns-then-is_register
returns-then-is_register c =
    record {
      few = omega arith;
      by_index = λ f l. sym (in_register c.args.at.0 c.args.frame.now c.requires.0 c.args.j c.requires.1 (mentions f)
          (sym (tested c) ∙ c.if-is_register.true));
    }

pub argument_at-requires : goal.argument_at-requires
argument_at-requires c =
    (omega (arith, c.requires.3), omega (arith, c.requires.1, few_operands (get_or c.args.frame.now 1 0)))

pub in_part-requires : goal.in_part-requires
in_part-requires c =
    (omega (arith, found c, argument_inside c.args.at.0 c.args.frame.now c.requires.0 c.args.j c.requires.1), c.requires.2)

pub returns : goal.returns
returns c =
    let b = c.args.frame.now in record {
      few = c.in_part.ensures.few;
      by_index = λ f l.
          let v = in_value c.args.at.0 b c.requires.0 c.args.j c.requires.1 (mentions f) (sym (tested_2 c) ∙ c.if-is_register.false) in
          c.in_part.ensures.by_index f l (expr_at b (arg_at (argument_at b (operands_at (get_or b 1 0)) 2 c.args.j))) v.0.width
          (ap (λ (n : ℕ). read_expr (drop n b)) (found_2 c) ∙ v.0.reads)
          ∙ sym v.1;
    }
