-- `put_headed` meets its contract: head, frame and line feed, one behind the other. Assumes nothing.
use native.Mathlib.Omega.{arith}
use Rattle.differences.proofs.Pieces.{one_laid}
use Rattle.differences.proofs.lines.put_headed.Goals as goal

pub returns : goal.returns
returns c =
    let a = c.args in
    let t = c.put_text in
    let p = c.put_bytes in (
      one_laid a.out.now p.new.out t.new.out a.head.now a.line.now a.at _ _ c.requires.0 p.ensures t.ensures (omega arith) (omega arith)
          (omega (arith, c.requires.1)),
      omega arith,
    )
