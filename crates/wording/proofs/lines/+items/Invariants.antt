-- `lines::items` meets its contract.
use Rattle.wording.proofs.lines.+items.Given as goal

abbrev pub decreases-items : goal.decreases-items
decreases-items l = l.count
