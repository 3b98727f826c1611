-- `put_run` meets its contract: after k turns the table has k pairs more. Assumes nothing.
use mathlib.Core.Path.{◌≡◌}
use mathlib.Core.List.{◌++◌}
use Prim.Native.Nat.{◌+◌}
use lib.ListN.{length}
use Rattle.pairing.specs.Pairings.{run_of}
use Rattle.pairing.specs.Tables.{pairs_in}
use Rattle.pairing.proofs.found.put_run.Given as goal

abbrev pub invariant-loop-k : goal.invariant-loop-k
invariant-loop-k l = (length l.pairs ≡ 2048) × (pairs_in l.pairs (l.at + l.k) ≡ pairs_in l.initial.pairs l.at ++ run_of l.k
    l.i l.j)
