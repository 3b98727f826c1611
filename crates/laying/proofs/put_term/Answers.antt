-- `put_term` meets its contract: the bytes are copied, or one of the two limits is passed.
use native.Mathlib.Omega.{arith}
use Rattle.laying.proofs.Laying.{term_long, term_over, copying_all, copied_so}
use Rattle.laying.proofs.put_term.Goals as goal
use Rattle.laying.proofs.put_term.Goals.{then-n-gt32-via-then-n-gt32, then-n-gt32-via-else-n-gt32+then-at-n-gt120}

pub returns-then-n-gt32 : goal.returns-then-n-gt32
returns-then-n-gt32 c =
    let a = c.args in
    elim c.then-n-gt32.branch [
      | then-n-gt32-via-then-n-gt32 w ↦ term_long a.out.now a.at a.from.now a.n c.requires.0 c.requires.2 (omega arith)
      | then-n-gt32-via-else-n-gt32+then-at-n-gt120 w ↦ term_over a.out.now a.at a.from.now a.n c.requires.0 c.requires.2 (omega arith) (omega arith)
    ]

pub returns : goal.returns
returns c =
    let a = c.args in
    copied_so a.out.now _ a.at a.from.now a.n
    (copying_all a.out.now a.from.now c.copy_from_slice.new.self a.at a.n c.requires.0 c.copy_from_slice.ensures.after (omega arith) (omega arith))
    (omega arith) (omega arith)
