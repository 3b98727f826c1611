-- `targets::filling::stripes` meets its contract: a table filled from the front.
use mathlib.Core.List.{List, []}
use Prim.Native.Nat.{ℕ, ◌/◌, ◌%◌}
use native.Mathlib.Omega.{arith}
use lib.ListN.{get_or}
use Rattle.laws.proofs.Counts.{tab_is}
use Rattle.slots.specs.State.{starts_in}
use Rattle.targets.proofs.filling.stripes.Goals as goal

abbrev number_at : (state : List (List ℕ)) (k : ℕ) → ℕ
number_at state k = get_or (get_or state (k / 1025) []) (k % 1025) 0

pub returns : goal.returns
unfolding starts_in
returns c =
    tab_is (number_at c.args.state.now) 4100 c.loop-k.x-items 0 c.loop-k.invariant.0 (λ i h. c.loop-k.invariant.1 i (omega arith))
