-- `names::no_name_twice` meets its contract. The invariant: no name is defined twice before place i.
use mathlib.Core.Path.{sym, ap, ◌∙◌}
use native.Mathlib.Omega.{arith}
use Rattle.env.specs.Answers.{checked_as}
use Rattle.env.proofs.Naming.{once_start, once_none, once_new, once_again, once_end}
use Rattle.env.proofs.names.no_name_twice.Goals as goal
use Rattle.env.proofs.names.no_name_twice.Goals.{else-name-lt-NO_NAME-via-then-name-lt-NO_NAME+else-is_seen, else-name-lt-NO_NAME-via-else-name-lt-NO_NAME}

pub loop-i-init : goal.loop-i-init
loop-i-init c p h = let a = c.args in once_start p a.count a.names.now a.contexts.now h

pub returns-then-is_seen : goal.returns-then-is_seen
returns-then-is_seen c p h =
    let a = c.args in
    sym
    (ap checked_as
    (once_again p a.count a.names.now a.contexts.now h c.loop-i.i (omega arith) c.if-name-lt-NO_NAME.true
    (sym c.is_seen.ensures ∙ c.if-is_seen.true)
    (c.loop-i.invariant p h)))

pub loop-i-preserved : goal.loop-i-preserved
loop-i-preserved c p h =
    let a = c.args in
    elim c.else-name-lt-NO_NAME.branch [
      | else-name-lt-NO_NAME-via-then-name-lt-NO_NAME+else-is_seen w ↦ once_new p a.count a.names.now a.contexts.now h c.loop-i.i (omega arith)
          w.if-name-lt-NO_NAME.true (sym w.is_seen.ensures ∙ w.if-is_seen.false) (c.loop-i.invariant p h)
      | else-name-lt-NO_NAME-via-else-name-lt-NO_NAME w ↦ once_none p a.count a.names.now a.contexts.now h c.loop-i.i (omega arith)
          w.if-name-lt-NO_NAME.false (c.loop-i.invariant p h)
    ]

pub returns : goal.returns
returns c p h =
    let a = c.args in
    sym (ap checked_as (once_end p a.count a.names.now a.contexts.now h c.loop-i.i (omega arith) (c.loop-i.invariant p h)))
