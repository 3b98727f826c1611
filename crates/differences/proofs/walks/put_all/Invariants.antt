-- `put_all` meets its contract: what is left of the text, stored where the last piece ended, makes the whole. Assumes nothing.
use mathlib.Core.Path.{◌≡◌}
use Prim.Native.Nat.{◌+◌, ◌≤◌}
use lib.ListN.{length, drop}
use Rattle.digits.specs.Digits.{laid}
use Rattle.pairing.specs.Promise.{InOrder}
use Rattle.pairing.specs.Tables.{pairs_in}
use Rattle.differences.specs.Walks.{text_for}
use Rattle.differences.proofs.Turns.{left}
use Rattle.differences.proofs.walks.put_all.Given as goal

abbrev pub invariant-loop-k : goal.invariant-loop-k
invariant-loop-k l =
    InOrder l.fn.counts.first l.fn.counts.second l.i l.j (drop l.k (pairs_in l.pairs l.fn.counts.pairs))
    × (length l.out ≡ length l.initial.out)
    × (l.at + length (left l.first l.second l.pairs l.fn.counts.pairs l.i l.j l.k) ≤ length l.initial.out)
    × (laid l.out l.at (left l.first l.second l.pairs l.fn.counts.pairs l.i l.j l.k) ≡ laid l.initial.out 0 (text_for l.first l.second l.pairs
    l.fn.counts))
