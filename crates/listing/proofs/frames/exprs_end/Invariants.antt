-- `exprs_end` meets its contract: after k turns a is where the first k expressions end, and what is left goes on from there. Assumes
-- nothing.
use mathlib.Core.Path.{◌≡◌}
use Prim.Native.Nat.{◌≤◌, ◌-◌}
use lib.ListN.{length}
use Rattle.listing.specs.Frames.{exprs_end}
use Rattle.listing.proofs.frames.exprs_end.Given as goal

abbrev pub invariant-loop : goal.invariant-loop
invariant-loop l = (l.a ≤ length l.s) × (exprs_end l.n l.s l.start ≡ exprs_end (l.n - l.counter) l.s l.a)
