-- `slots::argument_at` meets its contract: the first argument is at 2, another where reading found it.
use mathlib.Core.Path.{sym, ap, ◌∙◌}
use Prim.Native.Nat.{ℕ}
use native.Mathlib.Omega.{arith}
use lib.ListN.{get_or}
use Rattle.rules.specs.Forms.{operands_at}
use Rattle.rules.specs.Statements.{argument_at}
use Rattle.slots.proofs.Operands.{argument_first}
use Rattle.slots.proofs.State.{found_at}
use Rattle.slots.proofs.argument_at.Goals as goal

pub returns-then-j-eq0 : goal.returns-then-j-eq0
returns-then-j-eq0 c s n k l =
    sym (ap (λ (j : ℕ). argument_at s (operands_at (get_or s 1 0)) 2 j) c.if-j-eq0.true ∙ argument_first s (operands_at (get_or s 1 0)) 2)

pub returns-else-j-eq0 : goal.returns-else-j-eq0
returns-else-j-eq0 c s n k l =
    c.from.ensures ∙ sym (found_at c.args.state.now c.args.j c.args.at.0 (omega (arith, c.requires.1)) c.requires.0)
    ∙ n.place k c.args.j (omega (arith, c.if-j-eq0.false)) l
