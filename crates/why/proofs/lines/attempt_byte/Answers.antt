-- `why::lines::attempt_byte` meets its contract.
use native.Mathlib.Omega.{arith}
use Rattle.why.proofs.Bytes.{fold_byte, br_byte, jmp_byte, call_byte}
use Rattle.why.proofs.lines.attempt_byte.Goals as goal

pub returns-in-0-to-22 : goal.returns-in-0-to-22
returns-in-0-to-22 c = fold_byte c.args.k (omega arith)

pub returns-in-23 : goal.returns-in-23
returns-in-23 c = br_byte c.args.k (omega arith)

pub returns-in-24 : goal.returns-in-24
returns-in-24 c = jmp_byte c.args.k (omega arith)

pub returns-in_default : goal.returns-in_default
returns-in_default c = call_byte c.args.k (omega arith) (omega arith) (omega arith)
