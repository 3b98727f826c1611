-- `encoding::encode::low` meets its contract. Assumes nothing.
use mathlib.Core.Path.{sym}
use Rattle.laws.proofs.Bits.{low_law}
use Rattle.encoding.proofs.encode.low.Goals as goal

pub returns : goal.returns
returns c = sym (low_law _)
