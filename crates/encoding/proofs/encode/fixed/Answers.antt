-- `encoding::encode::fixed` meets its contract. Assumes nothing.
use native.Mathlib.Omega.{arith}
use Rattle.laws.proofs.Bits.{low_law}
use Rattle.encoding.proofs.encode.fixed.Goals as goal

pub returns : goal.returns
returns c = omega (arith, low_law c.args.base)
