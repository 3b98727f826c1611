-- `values::divide` meets its contract: the machine's division drops the fraction toward zero. Assumes nothing.
use mathlib.Core.Path.{ap, ◌∙◌}
use lib.IntN.{nat_abs}
use lib.Signed.{quot_z}
use borrow.Author.Tests.{ne_eqb}
use Rattle.rules.specs.Values.{in_range}
use Rattle.expression.proofs.Signed.{is64, quotient_safe, bits_zero}
use Rattle.expression.proofs.values.divide.Goals as goal

pub returns : goal.returns
returns c =
    c.fit.ensures
    ∙ ap in_range (is64 quot_z quotient_safe c.from.ensures c.from-2.ensures c.ranges.a c.ranges.b)
    ∙ simp (ne_eqb (nat_abs c.args.b) 0 (λ e. c.if-b-eq0.false (bits_zero c.args.b e)))
