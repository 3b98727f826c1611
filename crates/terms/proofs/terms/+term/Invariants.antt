-- `terms::term` meets its contract.
use lib.ListN.{length}
use Rattle.terms.proofs.terms.+term.Given as goal

abbrev pub decreases-term : goal.decreases-term
decreases-term l = length l.s.now
