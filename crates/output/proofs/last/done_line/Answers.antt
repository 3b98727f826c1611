-- `output::last::done_line` meets its contract: the bytes of both numbers.
use mathlib.Core.Path.{◌≡◌}
use Prim.Native.Nat.{◌/◌, ◌%◌}
use native.Mathlib.Omega.{arith}
use Rattle.rules.specs.Output.{done_line}
use Rattle.output.proofs.last.done_line.Goals as goal

pub returns : goal.returns
unfolding done_line
returns c =
    let n = c.args.rewrites in
    let m = c.args.image in
    let high : n / 256 % 256 ≡ n / 256 = omega arith in
    let top : m / 65536 % 256 ≡ m / 65536 = omega arith in
    rw (← high, ← top) (rw (c.to_be_bytes.ensures, c.to_be_bytes-2.ensures) at c.put_whole.ensures)
