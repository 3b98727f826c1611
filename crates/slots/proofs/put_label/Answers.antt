-- `slots::put_label` meets its contract: the other rows are left.
use Rattle.slots.proofs.State.{label_put}
use Rattle.slots.proofs.put_label.Goals as goal

pub returns : goal.returns
returns c = label_put c.args.state.now c.args.at.0 c.args.owner c.args.offset c.requires.1 c.requires.2
