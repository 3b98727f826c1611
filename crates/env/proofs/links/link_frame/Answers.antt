-- `links::link_frame` meets its contract. The invariant: the bytes before a are linked.
use native.Mathlib.Omega.{arith}
use lib.ListN.{length-set}
use Rattle.env.proofs.Linking.{linked_byte, linked_end}
use Rattle.env.proofs.links.link_frame.Goals as goal

pub loop-a-preserved : goal.loop-a-preserved
loop-a-preserved c = (
  simp length-set c.loop-a.invariant.0,
  linked_byte c.args.frames.now c.args.names.now c.args.contexts.now c.args.count c.args.context c.args.from c.args.end c.args.links.now
      c.loop-a.a c.loop-a.links c.loop-a.invariant.1 c.loop-a.auto.a c.link_at.result
      (omega (arith, c.requires.frames_len.3)) c.link_at.ensures,
)

pub returns-clause-linked : goal.returns-clause-linked
returns-clause-linked c =
    linked_end c.args.frames.now c.args.names.now c.args.contexts.now c.args.count c.args.context c.args.from c.args.end c.args.links.now
    c.loop-a.a c.loop-a.links c.loop-a.invariant.1 c.loop-a.auto.a (omega (arith, c.saturating_sub-a-end.ensures))
