use native.Mathlib.Omega.{arith}
use Rattle.openings.proofs.Fronting.{end_more}
use Rattle.openings.proofs.end_at.Goals as goal

-- src/lib.rt:35:9
pub returns-then-i-s : goal.returns-then-i-s
returns-then-i-s c = let a = c.args in end_more a.opens a.i a.s.now c.if-opens.false (omega arith)
