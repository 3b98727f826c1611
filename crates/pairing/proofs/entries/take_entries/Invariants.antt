-- `take_entries` meets its contract: the entries passed were good, stand in the table, and are above one another. Assumes nothing.
use mathlib.Core.Path.{◌≡◌}
use Prim.Native.Nat.{◌+◌, ◌≤◌}
use lib.ListN.{length, take, drop}
use Rattle.pairing.specs.Pairings.{entries_of, pairs_from, good_from, good_entries}
use Rattle.pairing.specs.Tables.{pairs_in}
use Rattle.pairing.proofs.entries.take_entries.Given as goal

abbrev pub invariant-loop-k : goal.invariant-loop-k
invariant-loop-k l =
    (l.k ≤ l.m) × (l.low ≤ 65537) × (length l.pairs ≡ 2048)
    × (l.k + good_from l.n l.m l.low l.k (drop l.k (entries_of l.pairing)) ≡ good_entries l.n l.m (entries_of l.pairing))
    × (pairs_in l.pairs l.k ≡ take l.k (pairs_from 0 (entries_of l.pairing)))
