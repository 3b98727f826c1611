use Rattle.openings.specs.Fronting.{FarTo}
use Rattle.openings.proofs.tabled.Given as goal

abbrev pub invariant-loop-i : goal.invariant-loop-i
invariant-loop-i l = FarTo l.i l.s l.far
