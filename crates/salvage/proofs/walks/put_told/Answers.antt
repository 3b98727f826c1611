-- `walks::put_told` meets its contract: nothing for a good line, nine characters for any other. Assumes nothing.
use mathlib.Core.Path.{sym}
use native.Mathlib.Omega.{arith}
use Rattle.digits.proofs.Rooms.{laid_nothing}
use Rattle.salvage.proofs.walks.put_told.Goals as goal

pub returns-then-number-eq0 : goal.returns-then-number-eq0
returns-then-number-eq0 c = rw c.if-number-eq0.true (sym (laid_nothing _ _), omega arith)
