-- `encoding::encode::high` meets its contract. Assumes nothing.
use native.Mathlib.Omega.{arith}
use Rattle.laws.proofs.Bits.{high_law}
use Rattle.encoding.proofs.encode.high.Goals as goal

pub returns : goal.returns
returns c = omega (arith, high_law c.args.x)
