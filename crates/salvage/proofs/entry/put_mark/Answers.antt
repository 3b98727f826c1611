-- `entry::put_mark` meets its contract: the mark, or nothing. Assumes nothing.
use mathlib.Core.Path.{sym}
use Rattle.digits.proofs.Rooms.{laid_nothing}
use Rattle.salvage.proofs.entry.put_mark.Goals as goal

pub returns-else-marked : goal.returns-else-marked
returns-else-marked c = rw c.if-marked.false (sym (laid_nothing _ _))
