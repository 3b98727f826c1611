-- `entries::optimizing::place_read` meets its contract.
use Rattle.rules.specs.Names.{context_at}
use Rattle.slots.specs.Slots.{slots, program_of}
use Rattle.slots.specs.State.{starts_in, forms_in}
use Rattle.env.proofs.Filled.{get_filled}
use Rattle.entries.proofs.optimizing.place_read.Goals as goal

pub judge_read-requires : goal.judge_read-requires
judge_read-requires c =
    let z = c.args.state.now in (
      c.requires.0,
      c.requires.1,
      c.requires.2,
      λ carry owners offsets.
          (let t = slots c.args.frames.now (starts_in z) c.args.count (forms_in z) carry owners offsets in
          (record { context = λ i l. get_filled (context_at (program_of t)) c.args.count _ _ i 0 (c.fill_contexts.ensures.filled carry owners offsets) l }, c.requires.3)),
    )
