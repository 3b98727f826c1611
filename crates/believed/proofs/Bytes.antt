-- both_bytes: the lower and the upper byte of any value are 0 to 255.
use mathlib.Core.Path.{refl}
use Prim.Native.Nat.{◌<◌}
use native.Mathlib.Omega.{arith}
use lib.IntN.{ℤ, pos, negsuc}
use Rattle.rules.specs.Values.{mod256, floor256}
use Rattle.believed.specs.Bytes.{BothBytes}

byte_below : (v : ℤ) → mod256 v < 256
byte_below (pos n) = omega arith
byte_below (negsuc n) = omega arith

pub both_bytes : (v : ℤ) → BothBytes v
both_bytes v = record { lower = (mod256 v, byte_below v, refl); upper = (mod256 (floor256 v), byte_below (floor256 v), refl) }
