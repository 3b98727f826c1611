-- `encoding::encode::lead_a12` meets its contract. Assumes nothing.
use mathlib.Core.Path.{sym}
use Rattle.laws.proofs.Bits.{bit_law}
use Rattle.encoding.proofs.encode.lead_a12.Goals as goal

pub returns : goal.returns
returns c = sym (bit_law _ _ 11 _ 8)
