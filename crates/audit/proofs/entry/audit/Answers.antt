-- `audit::entry::audit` meets its contract, on every input.
use mathlib.Core.Path.{sym, ap, ◌∙◌}
use Rattle.std.proofs.lemmas.Result.{err_from_is_err_and}
use Rattle.std.specs.Prelude.{Ok, Err}
use Rattle.rules.specs.Programs.{Program}
use Rattle.starting.specs.Begun.{accepted}
use Rattle.starting.proofs.Begins.{begun_read, begun_refused}
use Rattle.audit.specs.Held.{finding_as, audit_as, end_finding}
use Rattle.audit.proofs.Ends.{whole_finding}
use Rattle.audit.proofs.Demands.{audit_of, audit_no}
use Rattle.audit.proofs.entry.audit.Goals as goal

pub returns-in_err-count : goal.returns-in_err-count
returns-in_err-count c =
    let text = c.args.listing.now in
    let p = err_from_is_err_and c.from_residual.result c.from_residual.ensures.1 in
    p.1 ∙ ap Err p.2
    ∙ sym (ap audit_as (audit_no c.args.asked text c.args.shipped.now _ (begun_refused (accepted text) _ _ _ _ c.in_err-count.was
    c.begin.ensures)))

pub returns : goal.returns
returns c =
    let asked = c.args.asked in
    let text = c.args.listing.now in
    let shipped = c.args.shipped.now in
    let h = begun_read (accepted text) _ _ _ _ c.in_ok-count.was c.begin.ensures in
    c.rewrite_and_hold.ensures
    ∙ ap (λ (q : Program). Ok (finding_as (end_finding asked q shipped))) h.2.starts.anchored
    ∙ ap (λ f. Ok (finding_as f)) (whole_finding asked h.0 shipped h.2.input)
    ∙ sym (ap audit_as (audit_of asked text shipped h.0 h.1))
