-- `standing::line_end` meets its contract: what is not behind the first line is the line. Assumes nothing.
use mathlib.Core.Path.{ap}
use native.Mathlib.Omega.{arith}
use lib.ListN.{length}
use Rattle.lines.proofs.Feeds.{end_rest}
use Rattle.lines.proofs.standing.line_end.Goals as goal

pub overflow_sub-result : goal.overflow_sub-result
overflow_sub-result c =
    let n = ap length c.take_line-rest.ensures in
    omega (arith, end_rest c.args.text.now)

pub returns : goal.returns
returns c =
    let n = ap length c.take_line-rest.ensures in
    let e = end_rest c.args.text.now in
    (omega arith, omega arith)
