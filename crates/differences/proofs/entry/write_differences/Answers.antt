-- `write_differences` meets its contract: the length first, then the text. Assumes nothing.
use native.Mathlib.Omega.{arith}
use Rattle.differences.specs.Walks.{text_for}
use Rattle.differences.proofs.Outcomes.{room_short, room_holds}
use Rattle.differences.proofs.entry.write_differences.Goals as goal

pub returns-then-out-size : goal.returns-then-out-size
returns-then-out-size c =
    let a = c.args in
    room_short (text_for a.first.now a.second.now a.pairs.now a.counts) a.out.now a.counts.first
    (omega (arith, c.if-out-size.true, c.measure-size.ensures))

pub returns : goal.returns
returns c =
    let a = c.args in
    let m = c.measure-size in
    room_holds (text_for a.first.now a.second.now a.pairs.now a.counts) a.out.now _ a.counts.first _ m.ensures
    (omega (arith, c.if-out-size.false, m.ensures)) c.put_all.ensures
