-- `steps::lines::put_change` meets its contract.
use mathlib.Core.Path.{ap, ◌∙◌}
use Rattle.digits.specs.Digits.{laid}
use Rattle.steps.specs.Steps.{step_line}
use Rattle.steps.proofs.InSlots.{rewrite_told}
use Rattle.steps.proofs.lines.put_change.Goals as goal

pub returns : goal.returns
returns c =
    c.put_step.ensures
    ∙ ap (λ z. laid c.args.out.now c.args.at (step_line z))
    (rewrite_told _ _ c.first_change-place.result.0 _ _ c.first_change-place.ensures.1 c.seat_at-old.ensures c.seat_at-new.ensures)
