-- `digits::put_bytes` meets its contract: after k turns the digits of the first k bytes stand there.
use mathlib.Core.Path.{◌≡◌}
use lib.ListN.{length, take}
use Rattle.digits.specs.Digits.{hex_of, laid}
use Rattle.digits.proofs.put_bytes.Given as goal

abbrev pub invariant-loop-k : goal.invariant-loop-k
invariant-loop-k l = (l.out ≡ laid l.initial.out l.at (hex_of (take l.k l.s))) × (length l.out ≡ length l.initial.out)
