-- `store::judging::judge` meets its contract: the room's length, then the ranges, then what is held twice.
use mathlib.Core.Path.{sym, ◌∙◌}
use lib.ListN.{length}
use borrow.Author.Tests.{le-leb, lt-leb}
use Rattle.rules.specs.Answers.{require}
use Rattle.store.specs.Store.{is_good}
use Rattle.store.specs.Rooms.{judged}
use Rattle.store.proofs.judging.judge.Goals as goal
use Rattle.store.proofs.judging.judge.Goals.{else-all_in_range-via-else-all_in_range, else-all_in_range-via-then-all_in_range+else-none_twice}

pub returns-then-room-lt160 : goal.returns-then-room-lt160
unfolding judged require
returns-then-room-lt160 c = rw (lt-leb 160 (length c.args.room.now) c.if-room-lt160.true)

pub returns-then-none_twice : goal.returns-then-none_twice
unfolding judged require is_good
returns-then-none_twice c =
    let a = sym c.all_in_range.ensures ∙ c.if-all_in_range.true in
    let b = sym c.none_twice.ensures ∙ c.if-none_twice.true in
    rw (le-leb 160 (length c.args.room.now) c.if-room-lt160.false, a, b)

pub returns-else-all_in_range : goal.returns-else-all_in_range
unfolding judged require is_good
returns-else-all_in_range c =
    let a = sym c.all_in_range.ensures in
    rw (le-leb 160 (length c.args.room.now) c.if-room-lt160.false)
    (elim c.else-all_in_range.branch [
      | else-all_in_range-via-else-all_in_range w ↦ rw (a ∙ w.if-all_in_range.false)
      | else-all_in_range-via-then-all_in_range+else-none_twice w ↦ rw (a ∙ w.if-all_in_range.true, sym w.none_twice.ensures ∙ w.if-none_twice.false)
    ])
