-- `audit::entry::rewrite_and_hold` meets its contract.
use mathlib.Core.Path.{ap, ◌∙◌}
use Rattle.std.specs.Prelude.{Ok}
use Rattle.slots.specs.Slots.{Slots}
use Rattle.slots.specs.State.{table_of}
use Rattle.audit.specs.Held.{finding_as}
use Rattle.audit.proofs.Ends.{end_finding_lem}
use Rattle.audit.proofs.entry.rewrite_and_hold.Goals as goal

abbrev here : (c : goal.After-hold_end) → Slots
here c = table_of c.args.frames.now c.args.state.now c.args.count

pub returns : goal.returns
returns c =
    c.hold_end.ensures ∙ ap (λ f. Ok (finding_as f)) (end_finding_lem c.args.asked (here c) _ _ c.args.shipped.now c.optimize.ensures)
