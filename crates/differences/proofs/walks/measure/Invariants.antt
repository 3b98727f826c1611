-- `measure` meets its contract: what is counted, and what the pairs that are left and the rest have, come to the whole. Assumes nothing.
use mathlib.Core.Path.{◌≡◌}
use Prim.Native.Nat.{◌+◌, ◌*◌, ◌≤◌}
use lib.ListN.{length, drop}
use Rattle.pairing.specs.Promise.{InOrder}
use Rattle.pairing.specs.Tables.{pairs_in}
use Rattle.differences.specs.Walks.{text_for}
use Rattle.differences.proofs.Turns.{left}
use Rattle.differences.proofs.walks.measure.Given as goal

abbrev pub invariant-loop-k : goal.invariant-loop-k
invariant-loop-k l =
    InOrder l.fn.counts.first l.fn.counts.second l.i l.j (drop l.k (pairs_in l.pairs l.fn.counts.pairs))
    × (l.size ≤ 256 * (l.i + l.j))
    × (l.size + length (left l.first l.second l.pairs l.fn.counts.pairs l.i l.j l.k) ≡ length (text_for l.first l.second l.pairs l.fn.counts))
