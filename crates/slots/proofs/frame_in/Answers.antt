-- `slots::frame_in` meets its contract: the ends of a frame lie in order and within the frames' bytes.
use Prim.Native.Nat.{◌<◌, ◌≤◌}
use lib.ListN.{length}
use native.Mathlib.Omega.{arith}
use Rattle.slots.proofs.Tables.{edges, part_is}
use Rattle.slots.proofs.frame_in.Goals as goal

-- in order, and within
ends : (c : goal.After-from-e) → (c.from-a.result < c.from-e.result) × (c.from-e.result ≤ length c.args.frames.now)
ends c =
    edges c.args.frames.now c.args.starts.now c.args.count c.requires.0 c.args.at.0 c.from-a.result c.from-e.result
    c.requires.1 c.from-a.ensures c.from-e.ensures

pub slice_bounds-result-end : goal.slice_bounds-result-end
slice_bounds-result-end c = omega (arith, (ends c).0, (ends c).1)

pub returns : goal.returns
returns c =
    part_is c.args.frames.now c.args.starts.now c.args.count c.requires.0 c.args.at.0 c.from-a.result c.from-e.result
    c.requires.1 c.from-a.ensures c.from-e.ensures
