-- `encoding::encode::lead_bit` meets its contract. Assumes nothing.
use native.Mathlib.Omega.{arith}
use Rattle.laws.proofs.Bits.{bit_law}
use Rattle.encoding.proofs.encode.lead_bit.Goals as goal

pub returns : goal.returns
returns c = rw (bit_law _ _ 8 _ 0) (omega arith)
