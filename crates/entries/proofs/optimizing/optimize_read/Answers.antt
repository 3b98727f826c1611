-- `entries::optimizing::optimize_read` meets its contract: the slots of a listing as read hold its statements, and the list is of those
-- that are left.
use lib.ListN.{length}
use Rattle.std.proofs.lemmas.Result.{err_from_is_err_and}
use Rattle.listing.specs.Tables.{input_of}
use Rattle.output.specs.Lines.{beside_in}
use Rattle.entries.proofs.Starting.{start_sound, start_program, start_read, start_whole, start_full}
use Rattle.entries.proofs.Listed.{stems_refused, stems_done}
use Rattle.entries.proofs.Results.{delivers_program, list_fits}
use Rattle.entries.proofs.optimizing.optimize_read.Goals as goal

pub place_read-requires : goal.place_read-requires
place_read-requires c =
    let n = c.args.count in
    let e = c.start_state-state.ensures c.args.frames.now c.requires in (
      start_sound c.args.frames.now c.args.starts.now n c.requires _ e,
      start_read c.args.frames.now c.args.starts.now n c.requires _ e,
      start_full c.args.frames.now c.args.starts.now n c.requires _ e,
      start_whole c.args.frames.now c.args.starts.now n c.requires _ e,
    )

pub write_stems-requires : goal.write_stems-requires
write_stems-requires c =
    let n = c.args.count in
    let marks = beside_in c.args.marked c.args.lines.now n in
    let room = length c.args.list.now in
    let p = input_of c.args.frames.now c.args.starts.now n in
    let same = start_program c.args.frames.now c.args.starts.now n c.requires _ (c.start_state-state.ensures c.args.frames.now c.requires) in
    let d = delivers_program c.args.asked marks _ p room _ n same c.place_read.ensures in
    (c.requires.few, list_fits c.args.asked marks room p _ n _ c.in_ok-sizes.was d)

pub returns-in_err-sizes : goal.returns-in_err-sizes
returns-in_err-sizes c =
    let r = err_from_is_err_and c.from_residual.result c.from_residual.ensures.1 in
    let n = c.args.count in
    let marks = beside_in c.args.marked c.args.lines.now n in
    let room = length c.args.list.now in
    let p = input_of c.args.frames.now c.args.starts.now n in
    let same = start_program c.args.frames.now c.args.starts.now n c.requires _ (c.start_state-state.ensures c.args.frames.now c.requires) in
    let d = delivers_program c.args.asked marks _ p room _ n same c.place_read.ensures in
    rw (r.1, r.2) (stems_refused _ _ _ _ c.args.list.now _ _ d.0 _ c.in_err-sizes.was)

pub returns : goal.returns
returns c =
    let n = c.args.count in
    let marks = beside_in c.args.marked c.args.lines.now n in
    let room = length c.args.list.now in
    let p = input_of c.args.frames.now c.args.starts.now n in
    let same = start_program c.args.frames.now c.args.starts.now n c.requires _ (c.start_state-state.ensures c.args.frames.now c.requires) in
    let d = delivers_program c.args.asked marks _ p room _ n same c.place_read.ensures in
    let w = c.write_stems.ensures in
    stems_done _ _ _ _ c.args.list.now _ _ d.0 _ _ n _ _ c.in_ok-sizes.was d.1 w.0 w.1
