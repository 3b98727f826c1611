-- `optimize::scanning::fill_chains` meets its contract. The loop's invariant: the places from i on are chained.
use mathlib.Core.Path.{sym, subst}
use Rattle.slots.specs.State.{forms_in}
use Rattle.optimize.proofs.Branches.{Chaining, none_chained}
use Rattle.optimize.proofs.scanning.fill_chains.Goals as goal

pub loop-i-init : goal.loop-i-init
loop-i-init c =
    subst (λ l. Chaining (forms_in c.args.state.now) c.args.count l c.args.after.now c.args.count) (sym c.requires.1)
    (none_chained (forms_in c.args.state.now) c.args.count c.args.after.now c.requires.2)
