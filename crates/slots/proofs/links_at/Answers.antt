-- `slots::links_at` meets its contract: the ends of the part lie in order and within the links.
use Rattle.slots.proofs.Linking.{part_at}
use Rattle.slots.specs.State.{starts_in}
use Rattle.slots.proofs.links_at.Goals as goal

pub returns : goal.returns
returns c =
    part_at c.args.links.now (starts_in c.args.state.now) c.args.at.0 c.start_at-a.result c.start_at-e.result
    c.start_at-a.ensures c.start_at-e.ensures
