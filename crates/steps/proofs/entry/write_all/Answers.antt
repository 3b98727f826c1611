-- `steps::entry::write_all` meets its contract.
use mathlib.Core.Path.{sym, ap, ◌∙◌}
use mathlib.Core.List.{List}
use native.Mathlib.Omega.{arith}
use lib.ListN.{length}
use Rattle.starting.specs.Begun.{accepted}
use Rattle.starting.proofs.Begins.{begun_read, begun_refused}
use Rattle.digits.specs.Digits.{laid}
use Rattle.digits.proofs.Rooms.{laid_nothing}
use Rattle.steps.specs.Steps.{Rewrite, step_lines}
use Rattle.steps.specs.Entry.{lines_for}
use Rattle.steps.proofs.Told.{same_steps}
use Rattle.steps.proofs.entry.write_all.Goals as goal

pub write_steps-requires : goal.write_steps-requires
write_steps-requires c =
    let asked = c.args.asked in
    let h = begun_read (accepted c.args.listing.now) _ _ _ _ c.in-Ok.is c.begin.ensures in (
      h.2.starts.stands,
      h.2.starts.good,
      h.2.starts.beside,
      omega (arith, c.requires, ap (λ x. length (lines_for asked x)) h.1, ap (λ (l : List Rewrite). length (step_lines l)) (same_steps asked _ h.0 h.2.starts.anchored)),
    )

pub returns-in_default : goal.returns-in_default
returns-in_default c =
    sym (ap (λ x. laid c.args.out.now 0 (lines_for c.args.asked x)) (begun_refused (accepted c.args.listing.now) _ _ _ _ c.in_default.is c.begin.ensures) ∙ laid_nothing c.args.out.now 0)

pub returns-in-Ok : goal.returns-in-Ok
returns-in-Ok c =
    let asked = c.args.asked in
    let h = begun_read (accepted c.args.listing.now) _ _ _ _ c.in-Ok.is c.begin.ensures in
    c.write_steps.ensures
    ∙ ap (λ (l : List Rewrite). laid c.args.out.now 0 (step_lines l)) (same_steps asked _ h.0 h.2.starts.anchored)
    ∙ sym (ap (λ x. laid c.args.out.now 0 (lines_for asked x)) h.1)
