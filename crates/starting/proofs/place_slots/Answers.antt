-- `starting::place_slots` meets its contract.
use Rattle.rules.specs.Names.{context_at}
use Rattle.slots.specs.Slots.{slots, program_of}
use Rattle.slots.specs.State.{starts_in, forms_in}
use Rattle.env.proofs.Filled.{get_filled}
use Rattle.starting.proofs.place_slots.Goals as goal

pub judge_and_anchor-requires : goal.judge_and_anchor-requires
judge_and_anchor-requires c =
    let z = c.args.state.now in (
      c.requires.0,
      c.requires.1,
      c.requires.2,
      c.requires.3,
      λ carry owners offsets.
          (let t = slots c.args.frames.now (starts_in z) c.args.count (forms_in z) carry owners offsets in
          (record { context = λ i l. get_filled (context_at (program_of t)) c.args.count _ _ i 0 (c.fill_contexts.ensures.filled carry owners offsets) l }, c.requires.4)),
    )
