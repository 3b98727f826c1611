use mathlib.Core.Path.{◌∙◌, ap, sym}
use native.Mathlib.Omega.{arith}
use lib.Dec.{ltb}
use Rattle.openings.proofs.Numbered.{form_opens, dot_opens}
use Rattle.openings.proofs.opens_at.Goals as goal

-- src/lib.rt:68:9
pub returns-then-i-lt70 : goal.returns-then-i-lt70
returns-then-i-lt70 c =
    let i = c.args.i in ap (λ n. ltb 0 n) c.operand_count.ensures ∙ sym (form_opens i (omega arith))

-- src/lib.rt:63:1
pub returns : goal.returns
returns c = sym (dot_opens c.args.i (omega arith) (omega arith))
