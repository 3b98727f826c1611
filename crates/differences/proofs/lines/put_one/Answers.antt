-- `put_one` meets its contract: a head of kind and place. Assumes nothing.
use mathlib.Core.Path.{ap, ◌∙◌}
use mathlib.Core.List.{List}
use Prim.Native.Nat.{ℕ}
use native.Mathlib.Omega.{arith}
use Rattle.rules.specs.Listing.{unhex}
use Rattle.rules.specs.Output.{line_of}
use Rattle.digits.specs.Digits.{laid}
use Rattle.differences.proofs.Pieces.{one_head}
use Rattle.differences.proofs.lines.put_one.Goals as goal

pub returns : goal.returns
returns c =
    let a = c.args in
    let h = one_head a.kind c.high.result c.low_byte.result a.i (unhex a.line.now) c.high.ensures c.low_byte.ensures in
    (c.put_headed.ensures.0 ∙ ap (λ (f : List ℕ). laid a.out.now a.at (line_of f)) h, omega (arith, c.put_headed.ensures.1))
