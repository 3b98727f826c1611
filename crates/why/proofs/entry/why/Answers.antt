-- `why::entry::why` meets its contract, on every input.
use lib.ListN.{length}
use Rattle.std.proofs.lemmas.Result.{err_from_is_err_and}
use mathlib.Core.Path.{ap, ◌∙◌}
use Rattle.std.specs.Prelude.{Err}
use Rattle.starting.specs.Begun.{accepted}
use Rattle.starting.proofs.Begins.{begun_read, begun_refused}
use Rattle.why.proofs.Told.{leaves_as, told_anchored, told_refused}
use Rattle.why.proofs.entry.why.Goals as goal

pub returns-in_err-count : goal.returns-in_err-count
returns-in_err-count c =
    let p = err_from_is_err_and c.from_residual.result c.from_residual.ensures.1 in
    rw (p.1 ∙ ap Err p.2) (told_refused c.args.asked c.args.listing.now c.args.out.now _ (begun_refused (accepted c.args.listing.now) _ _ _ _ c.in_err-count.was
    c.begin.ensures))

pub returns : goal.returns
returns c =
    let h = begun_read (accepted c.args.listing.now) _ _ _ _ c.in_ok-count.was c.begin.ensures in
    leaves_as _ _ _ _ _ (told_anchored c.args.asked c.args.listing.now (length c.args.out.now) _ h.0 h.1 h.2.starts.anchored)
    c.rewrite_and_tell.ensures
