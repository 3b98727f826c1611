-- `lines_length` meets its contract: what is passed and what the lines still to pass have come to the whole. Assumes nothing.
use mathlib.Core.Path.{◌≡◌}
use Prim.Native.Nat.{◌≤◌, ◌+◌, ◌-◌}
use lib.ListN.{drop}
use Rattle.sits.specs.Before.{lines_length}
use Rattle.sits.proofs.before.lines_length.Given as goal

abbrev pub invariant-loop-i : goal.invariant-loop-i
invariant-loop-i l =
    (l.passed ≤ l.i) × (l.passed ≤ l.n) × (l.i + lines_length (l.n - l.passed) (drop l.i l.text) ≡ lines_length l.n l.text)
