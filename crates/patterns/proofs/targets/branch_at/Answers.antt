-- `patterns::targets::branch_at` meets its contract: a branch is known by its form.
use mathlib.Core.Path.{sym, ap, ◌∙◌}
use lib.Dec.{eqb}
use Rattle.slots.specs.Slots.{slots}
use Rattle.patterns.specs.Targets.{stands_at}
use Rattle.patterns.proofs.Instructions.{branch_form}
use Rattle.slots.specs.State.{starts_in, forms_in}
use Rattle.patterns.proofs.targets.branch_at.Goals as goal

pub returns : goal.returns
returns c carry owners offsets =
    let t = slots c.args.frames.now (starts_in c.args.state.now) c.args.count (forms_in c.args.state.now) carry owners offsets in
    ap (λ f. eqb f c.args.form) (c.form_at.ensures carry owners offsets) ∙ sym (branch_form c.args.form c.requires.1
    (stands_at t c.args.at.0))
