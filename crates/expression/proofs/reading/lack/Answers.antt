-- `reading::lack` meets its contract. Assumes nothing.
use borrow.Author.Tests.{lt-ltb, le-ltb}
use Rattle.expression.specs.Reading.{read_of}
use Rattle.expression.proofs.reading.lack.Goals as goal

pub returns-then-s-room : goal.returns-then-s-room
unfolding read_of
returns-then-s-room c = simp (lt-ltb _ _ c.if-s-room.true)

pub returns-else-s-room : goal.returns-else-s-room
unfolding read_of
returns-else-s-room c = simp (le-ltb _ _ c.if-s-room.false)
