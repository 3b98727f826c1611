-- `readback::walks::write_from` meets its contract: what is left, stored where the last line ended, makes the whole. Assumes nothing.
use mathlib.Core.Path.{◌≡◌}
use Prim.Native.Nat.{◌+◌, ◌-◌, ◌≤◌}
use lib.ListN.{length}
use Rattle.digits.specs.Digits.{laid}
use Rattle.readback.specs.ReadBack.{listing_of}
use Rattle.readback.specs.Walks.{all_on}
use Rattle.readback.proofs.walks.write_from.Given as goal

abbrev pub invariant-loop-q : goal.invariant-loop-q
invariant-loop-q l =
    (l.q ≤ length l.image) × (length l.out ≡ length l.initial.out) × (l.a + length (listing_of (all_on l.image l.q)) ≤ length l.initial.out)
    × (laid l.out l.a (listing_of (all_on l.image l.q)) ≡ laid l.initial.out l.at (listing_of (all_on l.image l.initial.q)))

abbrev pub decreases-loop-q : goal.decreases-loop-q
decreases-loop-q l = length l.image - l.q
