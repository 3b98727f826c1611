-- Lists of bytes.
use mathlib.Core.List.{List, ◌∷◌, []}
use Prim.Native.Nat.{ℕ, zero, suc, ◌<◌}
use lib.ListN.{drop}
use borrow.Author.Tests.{ltb-true}
use Rattle.laws.specs.Lists.{every}
use Rattle.laws.proofs.Tests.{and_true}
use Rattle.promises.proofs.RoundTrip.{is_byte, AllBytes}

-- a byte of a list of bytes, and the rest
pub byte_first : (b : ℕ) (s : List ℕ) → AllBytes (b ∷ s) → (b < 256) × AllBytes s
unfolding every
byte_first b s h = let t = and_true (is_byte b) (every is_byte s) h in (ltb-true b 256 t.0, t.1)

pub bytes_drop : (n : ℕ) (s : List ℕ) → AllBytes s → AllBytes (drop n s)
bytes_drop zero s h = h
bytes_drop (suc n) [] h = h
bytes_drop (suc n) (b ∷ s) h = bytes_drop n s (byte_first b s h).1
