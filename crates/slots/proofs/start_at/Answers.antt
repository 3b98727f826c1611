-- `slots::start_at` meets its contract: the first row is the first stripe of what reading found.
use mathlib.Core.Path.{sym, ◌∙◌}
use Rattle.slots.proofs.State.{start_at}
use Rattle.slots.proofs.start_at.Goals as goal

pub returns : goal.returns
returns c = c.from.ensures ∙ sym (start_at c.args.state.now c.args.i c.requires)
