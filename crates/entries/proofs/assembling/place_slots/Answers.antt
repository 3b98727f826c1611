-- `entries::assembling::place_slots` meets its contract.
use Rattle.slots.specs.Slots.{slots, program_of}
use Rattle.rules.specs.Names.{context_at}
use Rattle.env.proofs.Filled.{get_filled}
use Rattle.slots.specs.State.{starts_in, forms_in}
use Rattle.entries.proofs.assembling.place_slots.Goals as goal

pub judge_slots-requires : goal.judge_slots-requires
judge_slots-requires c = (
  c.requires.0,
  c.requires.1,
  λ carry owners offsets.
      (let t = slots c.args.frames.now (starts_in c.args.state.now) c.args.count (forms_in c.args.state.now) carry owners offsets in
      (record { context = λ i l. get_filled (context_at (program_of t)) c.args.count _ _ i 0 (c.fill_contexts.ensures.filled carry owners offsets) l }, c.requires.2)),
)
