-- `readback::frames::put_data` meets its contract: after k turns the first k bytes stand there. Assumes nothing.
use mathlib.Core.Path.{◌≡◌}
use mathlib.Core.List.{◌∷◌}
use Prim.Native.Nat.{◌+◌, ◌*◌}
use lib.ListN.{length, take}
use Rattle.readback.proofs.Pieces.{data_items}
use Rattle.readback.proofs.frames.put_data.Given as goal

abbrev pub invariant-loop-k : goal.invariant-loop-k
invariant-loop-k l =
    (length l.frame ≡ length l.initial.frame) × (take (2 + 5 * l.k) l.frame ≡ 6 ∷ length l.s ∷ data_items (take l.k l.s))
