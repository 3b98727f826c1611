-- `lines::pairs` meets its contract.
use native.Mathlib.Omega.{arith}
use Rattle.std.proofs.lemmas.Grind.{common_steps}
use Rattle.wording.proofs.Datas.{no_pairs, more_pairs}
use Rattle.wording.proofs.lines.+pairs.Goals as goal

pub returns-then-is_empty : goal.returns-then-is_empty
returns-then-is_empty t c = no_pairs c.args.out.now c.args.at c.args.s.now (grind (arith, common_steps)) c.requires.0 c.requires.1

pub returns : goal.returns
returns t c =
    more_pairs c.args.s.now (grind (arith, common_steps)) c.hex_digit.ensures c.hex_digit-2.ensures c.put-a.ensures c.put-b.ensures c.pairs.ensures
