-- `slots::put_carry` meets its contract: the other rows are left.
use Rattle.slots.proofs.State.{carry_put}
use Rattle.slots.proofs.put_carry.Goals as goal

pub returns : goal.returns
returns c = carry_put c.args.state.now c.args.at.0 c.args.from c.requires.1
