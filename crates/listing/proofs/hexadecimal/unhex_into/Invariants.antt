-- `unhex_into` meets its contract: after k turns the first k bytes that are kept stand behind `at`. Assumes nothing.
use mathlib.Core.Path.{◌≡◌}
use Prim.Native.Nat.{◌-◌, ◌/◌}
use lib.ListN.{length}
use lib.Seq.{paste}
use Rattle.rules.specs.Listing.{unhex}
use Rattle.listing.specs.Form.{without}
use Rattle.listing.proofs.hexadecimal.unhex_into.Given as goal

abbrev pub invariant-loop-k : goal.invariant-loop-k
invariant-loop-k l = (l.count ≡ length l.line / 2 - l.b)
    × (l.frames ≡ paste l.initial.frames l.at (without l.b (unhex l.line)) l.k)
