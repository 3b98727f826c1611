-- `links::fill_links` meets its contract. The invariant: the frames of the places below i are linked.
use mathlib.Core.Path.{◌≡◌}
use native.Mathlib.Omega.{arith}
use Rattle.slots.proofs.Tables.{edges}
use Rattle.env.proofs.Linking.{all_next, all_links}
use Rattle.slots.specs.State.{starts_in}
use Rattle.env.proofs.links.fill_links.Goals as goal

pub link_frame-requires : goal.link_frame-requires
link_frame-requires c =
    let ends = edges c.args.frames.now (starts_in c.args.state.now) c.args.count c.requires.0 c.loop-i.i c.start_at-from.result
    c.start_at-end.result
    c.loop-i-test.true c.start_at-from.ensures c.start_at-end.ensures in
    record {
      frames_len = (c.requires.0.full, c.loop-i.invariant.0, omega (arith, ends.0), omega (arith, ends.1, c.requires.0.full));
      count_bound = (c.requires.0.few, c.requires.2);
    }

pub loop-i-preserved : goal.loop-i-preserved
loop-i-preserved c = (
  c.link_frame.ensures.room,
  λ h. all_next c.args.frames.now (starts_in c.args.state.now) c.args.count h c.args.names.now c.args.contexts.now c.loop-i.i
      c.loop-i.links _
      c.loop-i-test.true (c.loop-i.invariant.1 h) (rw (c.start_at-from.ensures, c.start_at-end.ensures) at c.link_frame.ensures.linked),
)

pub returns : goal.returns
returns c =
    let e : c.loop-i.i ≡ c.args.count = omega arith in record {
      room = c.loop-i.invariant.0;
      by_index = all_links c.args.frames.now (starts_in c.args.state.now) c.args.count c.requires.0 c.args.names.now c.args.contexts.now
          c.loop-i.links
          (rw e at (c.loop-i.invariant.1 c.requires.0));
    }
