-- `put_text` meets its contract: after k turns the first k bytes stand there. Assumes nothing.
use mathlib.Core.Path.{◌≡◌}
use lib.ListN.{length, take}
use Rattle.digits.specs.Digits.{laid}
use Rattle.differences.proofs.lines.put_text.Given as goal

abbrev pub invariant-loop-k : goal.invariant-loop-k
invariant-loop-k l = (l.out ≡ laid l.initial.out l.at (take l.k l.s)) × (length l.out ≡ length l.initial.out)
