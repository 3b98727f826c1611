-- `slots::frame_at` meets its contract: the ends of a frame lie in order and within the frames' bytes.
use Prim.Native.Nat.{◌<◌, ◌≤◌}
use lib.ListN.{length}
use native.Mathlib.Omega.{arith}
use Rattle.slots.specs.State.{starts_in}
use Rattle.slots.proofs.Tables.{edges, part_is}
use Rattle.slots.proofs.frame_at.Goals as goal

-- in order, and within
ends : (c : goal.After-start_at-e) → (c.start_at-a.result < c.start_at-e.result) × (c.start_at-e.result ≤ length c.args.frames.now)
ends c =
    edges c.args.frames.now (starts_in c.args.state.now) c.args.count c.requires.0 c.args.at.0 c.start_at-a.result c.start_at-e.result
    c.requires.1 c.start_at-a.ensures c.start_at-e.ensures

pub slice_bounds-result-end : goal.slice_bounds-result-end
slice_bounds-result-end c = omega (arith, (ends c).0, (ends c).1)

pub returns : goal.returns
returns c =
    part_is c.args.frames.now (starts_in c.args.state.now) c.args.count c.requires.0 c.args.at.0 c.start_at-a.result c.start_at-e.result
    c.requires.1 c.start_at-a.ensures c.start_at-e.ensures
