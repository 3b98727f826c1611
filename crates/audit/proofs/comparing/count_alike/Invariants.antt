-- `audit::comparing::count_alike` meets its contract. The loop's invariant: what is the same in what is left is counted behind what was passed.
use mathlib.Core.Path.{◌≡◌}
use Prim.Native.Nat.{◌+◌}
use lib.ListN.{length}
use Rattle.audit.specs.Audit.{alike}
use Rattle.audit.proofs.comparing.count_alike.Given as goal

abbrev pub invariant-loop-i : goal.invariant-loop-i
invariant-loop-i l =
    let n = l.i-iterator.count in
    let a = l.i-iterator.iter.a.rest.now in
    let b = l.i-iterator.iter.b.rest.now in
    (alike l.wanted l.shipped ≡ n + alike a b) × (n + length a ≡ length l.wanted) × (n + length b ≡ length l.shipped)
