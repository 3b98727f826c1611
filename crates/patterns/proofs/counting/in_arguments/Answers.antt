-- `patterns::counting::in_arguments` meets its contract: one argument more at each turn.
use mathlib.Core.Path.{refl}
use Prim.Native.Nat.{◌≤◌, ◌<◌}
use lib.ListN.{length, get_or}
use native.Mathlib.Omega.{arith}
use Rattle.laws.specs.Lists.{total}
use Rattle.laws.proofs.Lists.{total_more}
use Rattle.instruction.proofs.Numbers.{few_operands}
use Rattle.rules.specs.Expressions.{mentions}
use Rattle.rules.specs.Programs.{register, args_of, in_operand}
use Rattle.patterns.specs.Mentions.{read_as}
use Rattle.patterns.proofs.Mentions.{args_count}
use Rattle.patterns.proofs.counting.in_arguments.Goals as goal

few : (c : goal.After-in_argument-found) → c.loop-j.j ≤ 3
few c = omega (arith, c.requires.1, few_operands (get_or c.args.frame.now 1 0))

pub loop-j-init : goal.loop-j-init
unfolding total
loop-j-init c = (omega arith, λ f l. refl)

-- a sum of few that are small
pub overflow_add-found : goal.overflow_add-found
overflow_add-found c = record { fits = omega (arith, c.loop-j.invariant.0, c.in_argument-found.ensures.few, few c) }

pub loop-j-preserved : goal.loop-j-preserved
loop-j-preserved c =
    let l = c.loop-j in
    let b = c.args.frame.now in
    let inside : l.j < length (args_of (read_as c.args.at.0 b)) = omega (arith, args_count c.args.at.0 b c.requires.0, c.requires.1) in (
      omega (arith, l.invariant.0, c.in_argument-found.ensures.few),
      λ f r.
          omega (
            arith,
            l.invariant.1 f r,
            c.in_argument-found.ensures.by_index f r,
            total_more (in_operand (mentions f))
                (args_of (read_as c.args.at.0 b)) l.j (register 0) inside,
          ),
    )
