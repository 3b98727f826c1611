-- `find_lines` meets its contract: after i turns the starts of i lines are found, and the rest of the text is left. Assumes nothing.
use Rattle.pairing.proofs.Finding.{Found}
use Rattle.pairing.proofs.lines.find_lines.Given as goal

abbrev pub invariant-loop-i : goal.invariant-loop-i
invariant-loop-i l = Found l.text l.starts l.rest l.i
