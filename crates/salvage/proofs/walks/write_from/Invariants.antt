-- `walks::write_from` meets its contract: what is left, stored where the last line ended, makes the whole. Assumes nothing.
use mathlib.Core.Path.{◌≡◌}
use Prim.Native.Nat.{◌+◌, ◌-◌, ◌≤◌}
use lib.ListN.{length}
use Rattle.listing.specs.Form.{form_of}
use Rattle.salvage.specs.Turns.{from_on}
use Rattle.digits.specs.Digits.{laid}
use Rattle.salvage.proofs.walks.write_from.Given as goal

abbrev pub invariant-loop-q : goal.invariant-loop-q
invariant-loop-q l =
    let w = form_of l.marked in
    (l.q ≤ length l.text) × (l.i ≤ 1024) × (l.sum ≤ 57344)
    × (length l.listing ≡ length l.initial.listing) × (length l.report ≡ length l.initial.report)
    × (l.at + length (from_on w l.text l.q l.i l.sum).listing ≤ length l.initial.listing)
    × (l.told + length (from_on w l.text l.q l.i l.sum).report ≤ length l.initial.report)
    × (laid l.listing l.at (from_on w l.text l.q l.i l.sum).listing ≡ laid l.initial.listing l.start (from_on w l.text l.start 0 0).listing)
    × (laid l.report l.told (from_on w l.text l.q l.i l.sum).report ≡ laid l.initial.report 0 (from_on w l.text l.start 0 0).report)

abbrev pub decreases-loop-q : goal.decreases-loop-q
decreases-loop-q l = length l.text - l.q
