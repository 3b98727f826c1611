-- `entries::optimizing::optimize_stems` meets its contract, on every input.
use Rattle.std.proofs.lemmas.Result.{err_from_is_err_and}
use Rattle.rules.specs.Listing.{read_listing}
use Rattle.output.specs.Lines.{beside_in}
use Rattle.entries.proofs.Phases.{listed_read, listed_refused, beside_read}
use Rattle.entries.proofs.Results.{stems_unread, stems_read}
use Rattle.entries.proofs.optimizing.optimize_stems.Goals as goal

pub returns-in_err-count : goal.returns-in_err-count
returns-in_err-count c =
    let p = err_from_is_err_and c.from_residual.result c.from_residual.ensures.1 in
    rw (p.1, p.2)
    (stems_unread c.args.asked c.args.listing.now c.args.out.now c.args.image.now c.args.list.now _
    (listed_refused _ _ _ (read_listing c.args.listing.now) _ c.in_err-count.was c.read_listing.ensures.listed))

pub returns : goal.returns
returns c =
    let l = c.read_listing in
    let text = c.args.listing.now in
    let lines = l.new.lines in
    let n = c.in_ok-count.count in
    let h = listed_read _ _ _ (read_listing text) _ c.in_ok-count.was l.ensures.listed in
    let beside = beside_read text lines n c.new_form-marked.result l.result c.in_ok-count.was c.new_form-marked.ensures.1 l.ensures.beside in
    stems_read c.args.asked text c.args.out.now c.args.image.now c.args.list.now (beside_in c.new_form-marked.result lines n) h.0 _ beside h.1
    h.2.input c.optimize_read.ensures
