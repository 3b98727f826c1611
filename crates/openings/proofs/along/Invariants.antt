use Rattle.openings.proofs.Fronting.{Going}
use Rattle.openings.proofs.along.Given as goal

abbrev pub invariant-loop-i : goal.invariant-loop-i
invariant-loop-i l = Going l.word l.s l.i
