-- `entries::assembling::assemble` meets its contract, on every input.
use lib.ListN.{length}
use Rattle.std.proofs.lemmas.Result.{err_from_is_err_and}
use Rattle.rules.specs.Listing.{read_listing}
use Rattle.entries.proofs.Phases.{listed_read, listed_refused, leaves_unread, leaves_read}
use Rattle.entries.proofs.assembling.assemble.Goals as goal

pub returns-in_err-count : goal.returns-in_err-count
returns-in_err-count c =
    let p = err_from_is_err_and c.from_residual.result c.from_residual.ensures.1 in
    rw (p.1, p.2)
    (leaves_unread c.args.listing.now (length c.args.image.now) _ c.args.image.now
    (listed_refused _ _ _ (read_listing c.args.listing.now) _ c.in_err-count.was c.read_listing.ensures.listed))

pub returns : goal.returns
returns c =
    let h = listed_read _ _ _ (read_listing c.args.listing.now) _ c.in_ok-count.was c.read_listing.ensures.listed in
    leaves_read c.args.listing.now (length c.args.image.now) h.0 _ h.1 h.2.input c.assemble_read.ensures
