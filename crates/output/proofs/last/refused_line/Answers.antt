-- `output::last::refused_line` meets its contract: the number, the bytes of the place, the argument's place, and the bits of the number at
-- fault.
use mathlib.Core.Path.{◌≡◌, ap, ◌∙◌}
use Prim.Native.Nat.{◌/◌, ◌%◌}
use native.Mathlib.Omega.{arith}
use mir.Syntax.{w32}
use mir.Val.{of_z}
use mir.Facts.{to_z-of_z}
use Rattle.rules.specs.Output.{refused_line}
use Rattle.output.proofs.last.refused_line.Goals as goal

pub returns : goal.returns
unfolding refused_line
returns c =
    let a = c.args in
    let k : c.bits.result ≡ of_z w32 a.amount = c.bits.ensures ∙ ap (of_z w32) (to_z-of_z c.ranges.amount) in
    let high : a.place / 256 % 256 ≡ a.place / 256 = omega arith in
    let top : c.bits.result / 16777216 % 256 ≡ c.bits.result / 16777216 = omega arith in
    rw (← k, ← high, ← top) (rw (c.to_be_bytes.ensures, c.to_be_bytes-2.ensures) at c.put_whole.ensures)
