-- `put_kept` meets its contract: a head of 70 and both places. Assumes nothing.
use mathlib.Core.Path.{ap, ◌∙◌}
use mathlib.Core.List.{List}
use Prim.Native.Nat.{ℕ}
use native.Mathlib.Omega.{arith}
use Rattle.rules.specs.Listing.{unhex}
use Rattle.rules.specs.Output.{line_of}
use Rattle.digits.specs.Digits.{laid}
use Rattle.differences.proofs.Pieces.{two_head}
use Rattle.differences.proofs.lines.put_kept.Goals as goal

pub returns : goal.returns
returns c =
    let a = c.args in
    let h = two_head 0x70 c.high.result c.low_byte.result c.high-2.result c.low_byte-2.result a.i a.j (unhex a.line.now) c.high.ensures c.low_byte.ensures
    c.high-2.ensures c.low_byte-2.ensures in
    (c.put_headed.ensures.0 ∙ ap (λ (f : List ℕ). laid a.out.now a.at (line_of f)) h, omega (arith, c.put_headed.ensures.1))
