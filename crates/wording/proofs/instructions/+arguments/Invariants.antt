-- `instructions::arguments` meets its contract.
use Prim.Native.Nat.{◌-◌}
use Rattle.wording.proofs.instructions.+arguments.Given as goal

abbrev pub decreases-arguments : goal.decreases-arguments
decreases-arguments l = 3 - l.j
