-- `encoding::operands::unsigned` meets its contract: a law over the width. Assumes nothing.
use mir.Facts.{to_z-of_z}
use Rattle.encoding.proofs.Ranges.{shift_range}
use Rattle.encoding.proofs.operands.unsigned.Goals as goal

pub returns : goal.returns
returns c = rw (to_z-of_z c.ranges.v) (shift_range c.args.bits c.args.v c.ranges.v)
