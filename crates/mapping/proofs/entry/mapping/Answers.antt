-- `mapping::entry::mapping` meets its contract, on every input.
use Rattle.std.proofs.lemmas.Result.{err_from_is_err_and}
use Rattle.starting.specs.Begun.{accepted}
use Rattle.starting.proofs.Begins.{begun_read, begun_refused}
use Rattle.mapping.proofs.Answered.{fits_read, mapped_refused, mapped_fits}
use Rattle.mapping.proofs.entry.mapping.Goals as goal

pub returns-in_err-count : goal.returns-in_err-count
returns-in_err-count c =
    let text = c.args.listing.now in
    let p = err_from_is_err_and c.from_residual.result c.from_residual.ensures.1 in
    rw (p.1, p.2) (mapped_refused c.args.asked text c.args.out.now _ (begun_refused (accepted text) _ _ _ _ c.in_err-count.was c.begin.ensures))

pub returns : goal.returns
returns c =
    let text = c.args.listing.now in
    let asked = c.args.asked in
    let h = begun_read (accepted text) _ _ _ _ c.in_ok-count.was c.begin.ensures in
    mapped_fits asked text c.args.out.now h.0 _ _ h.1 (fits_read asked _ _ h.2.read c.rewrite_and_tell.ensures)
