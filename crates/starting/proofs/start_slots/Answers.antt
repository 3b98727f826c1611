-- `starting::start_slots` meets its contract: the slots of a listing as read hold its statements.
use mathlib.Core.Path.{◌∙◌}
use Rattle.listing.specs.Tables.{input_of}
use Rattle.entries.proofs.Starting.{start_sound, start_program, start_read, start_whole, start_full}
use Rattle.starting.proofs.Begins.{anchored_as}
use Rattle.starting.proofs.start_slots.Goals as goal

pub place_slots-requires : goal.place_slots-requires
place_slots-requires c =
    let n = c.args.count in
    let h = c.requires.0 in
    let e = c.start_state.ensures c.args.frames.now c.requires.0 in (
      start_sound c.args.frames.now c.args.starts.now n h _ e,
      start_read c.args.frames.now c.args.starts.now n h _ e,
      start_full c.args.frames.now c.args.starts.now n h _ e,
      c.requires.1,
      start_whole c.args.frames.now c.args.starts.now n h _ e,
    )

pub returns : goal.returns
returns c =
    let n = c.args.count in
    let e = c.start_state.ensures c.args.frames.now c.requires.0 in (
      anchored_as _ (input_of c.args.frames.now c.args.starts.now n) (start_program c.args.frames.now c.args.starts.now n c.requires.0 _ e) c.place_slots.ensures.0,
      c.place_slots.ensures.1 ∙ e.begins,
    )
