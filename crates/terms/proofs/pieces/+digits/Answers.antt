-- `pieces::digits` meets its contract.
use native.Mathlib.Omega.{arith}
use Rattle.terms.proofs.Writes.{few_digits, more_digits}
use Rattle.terms.proofs.pieces.+digits.Goals as goal

pub returns-then-n-lt10 : goal.returns-then-n-lt10
returns-then-n-lt10 t c = few_digits c.args.n c.if-n-lt10.true c.digit.ensures c.put.ensures

pub put-requires-2 : goal.put-requires-2
put-requires-2 t c = let w = c.digits-to.ensures 9 (omega arith) in (w.size, w.within)

pub returns : goal.returns
returns t c =
    more_digits c.args.n c.if-n-lt10.false c.digits-to.ensures c.digit-2.ensures c.put-2.ensures
