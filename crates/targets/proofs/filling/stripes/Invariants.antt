-- `targets::filling::stripes` meets its contract: a table filled from the front.
use mathlib.Core.Path.{◌≡◌}
use mathlib.Core.List.{List, []}
use Prim.Native.Nat.{ℕ, ◌/◌, ◌%◌, ◌<◌}
use lib.ListN.{length, get_or}
use Rattle.targets.proofs.filling.stripes.Given as goal

abbrev number_at : (state : List (List ℕ)) (k : ℕ) → ℕ
number_at state k = get_or (get_or state (k / 1025) []) (k % 1025) 0

abbrev pub invariant-loop-k : goal.invariant-loop-k
invariant-loop-k l = (length l.x-items ≡ 4100) × ((j : ℕ) → j < l.k → get_or l.x-items j 0 ≡ number_at l.state j)
