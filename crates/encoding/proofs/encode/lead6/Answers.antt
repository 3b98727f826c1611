-- `encoding::encode::lead6` meets its contract. Assumes nothing.
use mathlib.Core.Path.{sym}
use Rattle.laws.proofs.Bits.{lead6_law}
use Rattle.encoding.proofs.encode.lead6.Goals as goal

pub returns : goal.returns
returns c = sym (lead6_law _ _)
