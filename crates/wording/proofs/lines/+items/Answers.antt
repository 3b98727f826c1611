-- `lines::items` meets its contract.
use native.Mathlib.Omega.{arith}
use Rattle.wording.proofs.Datas.{no_items, more_items, rest_items}
use Rattle.wording.proofs.lines.+items.Goals as goal

pub returns-then-count-eq0 : goal.returns-then-count-eq0
returns-then-count-eq0 t c = no_items c.args.by c.args.count c.args.at c.args.s.now c.args.out.now (omega arith) c.requires.0
    c.requires.1

pub returns : goal.returns
returns t c =
    more_items c.args.by c.args.count c.args.s.now (omega arith) c.put-a.ensures c.term-x.ensures
    (rest_items 44 c.term-x.result.taken c.args.s.now c.items.ensures)
