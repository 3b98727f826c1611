-- `slots::item_in` meets its contract: the items stand one behind the other, each within the frame.
use mathlib.Core.Path.{◌≡◌}
use Rattle.slots.specs.Slots.{item_at}
use Rattle.slots.proofs.item_in.Given as goal

abbrev pub invariant-loop : goal.invariant-loop
invariant-loop l = l.a ≡ item_at l.frame 2 l.counter
