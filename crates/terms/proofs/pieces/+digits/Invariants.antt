-- `pieces::digits` meets its contract.
use Rattle.terms.proofs.pieces.+digits.Given as goal

abbrev pub decreases-digits : goal.decreases-digits
decreases-digits l = l.n
