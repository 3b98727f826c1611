-- `patterns::targets::unconditional_at` meets its contract: an unconditional is known by its form.
use mathlib.Core.Path.{sym, ap, ◌∙◌}
use Rattle.rules.specs.Forms.{is_unconditional}
use Rattle.slots.specs.Slots.{slots}
use Rattle.patterns.specs.Targets.{stands_at}
use Rattle.patterns.proofs.Instructions.{unconditional_form}
use Rattle.slots.specs.State.{starts_in, forms_in}
use Rattle.patterns.proofs.targets.unconditional_at.Goals as goal

pub returns : goal.returns
returns c carry owners offsets =
    let t = slots c.args.frames.now (starts_in c.args.state.now) c.args.count (forms_in c.args.state.now) carry owners offsets in
    c.is_unconditional.ensures ∙ ap (λ f. is_unconditional f) (c.form_at.ensures carry owners offsets)
    ∙ sym (unconditional_form (stands_at t c.args.at.0))
