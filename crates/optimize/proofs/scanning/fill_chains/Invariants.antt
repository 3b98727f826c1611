-- `optimize::scanning::fill_chains` meets its contract. The loop's invariant: the places from i on are chained.
use Rattle.slots.specs.State.{forms_in}
use Rattle.optimize.proofs.Branches.{Chaining}
use Rattle.optimize.proofs.scanning.fill_chains.Given as goal

abbrev pub invariant-loop-i : goal.invariant-loop-i
invariant-loop-i l = Chaining (forms_in l.state) l.count l.first l.after l.i
