-- `walks::measure` meets its contract: what is counted and what is left make the whole. Assumes nothing.
use mathlib.Core.Path.{◌≡◌}
use Prim.Native.Nat.{◌+◌, ◌-◌, ◌*◌, ◌≤◌}
use lib.ListN.{length}
use Rattle.listing.specs.Form.{form_of}
use Rattle.salvage.specs.Turns.{from_on}
use Rattle.salvage.proofs.walks.measure.Given as goal

abbrev pub invariant-loop-q : goal.invariant-loop-q
invariant-loop-q l =
    let w = form_of l.marked in
    (l.q ≤ length l.text) × (l.i ≤ 1024) × (l.sum ≤ 57344) × (l.told ≤ 9 * l.i)
    × (l.i + (from_on w l.text l.q l.i l.sum).count ≡ (from_on w l.text l.start 0 0).count)
    × (l.sum + l.i + length (from_on w l.text l.q l.i l.sum).listing ≡ length (from_on w l.text l.start 0 0).listing)
    × (l.told + length (from_on w l.text l.q l.i l.sum).report ≡ length (from_on w l.text l.start 0 0).report)

abbrev pub decreases-loop-q : goal.decreases-loop-q
decreases-loop-q l = length l.text - l.q
