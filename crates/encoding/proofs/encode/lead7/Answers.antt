-- `encoding::encode::lead7` meets its contract. Assumes nothing.
use mathlib.Core.Path.{sym}
use Rattle.laws.proofs.Bits.{lead7_law}
use Rattle.encoding.proofs.encode.lead7.Goals as goal

pub returns : goal.returns
returns c = sym (lead7_law _ _)
