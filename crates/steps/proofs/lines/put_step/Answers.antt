-- `steps::lines::put_step` meets its contract: ten bytes in a line.
use mathlib.Core.Path.{ap, ◌∙◌}
use mathlib.Core.List.{List}
use Prim.Native.Nat.{ℕ}
use native.Mathlib.Omega.{arith}
use Rattle.digits.specs.Digits.{laid}
use Rattle.steps.proofs.InSlots.{line_is}
use Rattle.steps.proofs.lines.put_step.Goals as goal

pub returns : goal.returns
returns c =
    c.put_line.ensures
    ∙ ap (λ (z : List ℕ). laid c.args.out.now c.args.at z)
    (line_is c.args.place.0 _ _ _ c.args.old c.args.new _ _ _ _ _ _ c.requires.1 c.rule_byte.ensures c.low_byte.ensures c.low_byte-2.ensures
    (c.from-a.ensures, omega arith) (c.from-b.ensures, omega arith) c.low_byte-3.ensures c.low_byte-4.ensures c.low_byte-5.ensures c.low_byte-6.ensures)
