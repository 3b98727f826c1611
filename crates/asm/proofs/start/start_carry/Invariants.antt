-- `asm::start::start_carry` meets its contract: a table filled from the front.
use mathlib.Core.Path.{◌≡◌}
use mathlib.Core.List.{◌++◌}
use lib.ListN.{drop}
use Rattle.laws.specs.Counts.{tab}
use Rattle.asm.proofs.start.start_carry.Given as goal

abbrev pub invariant-loop-i : goal.invariant-loop-i
invariant-loop-i l = l.carry ≡ tab (λ k. k) l.i ++ drop l.i l.initial.carry
