-- `mapping::rows::row_bytes` meets its contract.
use mathlib.Core.Path.{◌≡◌}
use Prim.Native.Nat.{ℕ, ◌/◌, ◌%◌, ◌<◌}
use native.Mathlib.Omega.{arith}
use Rattle.mapping.proofs.rows.row_bytes.Goals as goal

top : (v : ℕ) → v < 4294967296 → v / 16777216 % 256 ≡ v / 16777216
top v h = omega arith

pub returns : goal.returns
returns c =
    rw (
      c.to_be_bytes.ensures,
      c.to_be_bytes-2.ensures,
      c.to_be_bytes-3.ensures,
      c.to_be_bytes-4.ensures,
      top c.args.a (omega arith),
      top c.args.b (omega arith),
      top c.args.c (omega arith),
      top c.args.d (omega arith),
    )
