-- `entries::assembling::assemble_read` meets its contract: the slots of a listing as read hold its statements.
use lib.ListN.{length}
use Rattle.listing.specs.Tables.{input_of}
use Rattle.entries.proofs.Phases.{leaves_program}
use Rattle.entries.proofs.Starting.{start_sound, start_program, start_together, start_whole}
use Rattle.entries.proofs.assembling.assemble_read.Goals as goal

pub place_slots-requires : goal.place_slots-requires
place_slots-requires c =
    let n = c.args.count in
    let e = c.start_state-state.ensures c.args.frames.now c.requires in (
      start_sound c.args.frames.now c.args.starts.now n c.requires _ e,
      start_together c.args.frames.now c.args.starts.now n c.requires _ e,
      start_whole c.args.frames.now c.args.starts.now n c.requires _ e,
    )

pub returns : goal.returns
returns c =
    let n = c.args.count in
    leaves_program (length c.args.image.now) _ (input_of c.args.frames.now c.args.starts.now n)
    (start_program c.args.frames.now c.args.starts.now n c.requires _ (c.start_state-state.ensures c.args.frames.now c.requires)) c.place_slots.ensures
