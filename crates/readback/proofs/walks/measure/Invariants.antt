-- `readback::walks::measure` meets its contract: what is counted and what is left make the whole. Assumes nothing.
use mathlib.Core.Path.{◌≡◌}
use Prim.Native.Nat.{◌+◌, ◌-◌, ◌*◌, ◌≤◌}
use lib.ListN.{length}
use Rattle.readback.specs.ReadBack.{listing_of}
use Rattle.readback.specs.Walks.{all_on}
use Rattle.readback.proofs.walks.measure.Given as goal

abbrev pub invariant-loop-q : goal.invariant-loop-q
invariant-loop-q l =
    (l.q ≤ length l.image) × (l.count ≤ l.q) × (l.chars ≤ 35 * l.q)
    × (l.count + length (all_on l.image l.q) ≡ length (all_on l.image l.initial.q))
    × (l.chars + length (listing_of (all_on l.image l.q)) ≡ length (listing_of (all_on l.image l.initial.q)))

abbrev pub decreases-loop-q : goal.decreases-loop-q
decreases-loop-q l = length l.image - l.q
