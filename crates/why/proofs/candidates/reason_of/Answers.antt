-- `why::candidates::reason_of` meets its contract: the refusal first, then the offsets, whose positions the verdict left.
use borrow.Author.Rules.{rules}
use Rattle.slots.specs.Slots.{Slots, program_of}
use Rattle.slots.specs.State.{starts_in, forms_in, carry_in, owners_in, offsets_in, table_of}
use Rattle.slots.specs.Links.{contexts_read}
use Rattle.asm.proofs.Carrying.{placed_any}
use Rattle.why.proofs.Verdicts.{reason_refused, reason_counts, reason_beyond}
use Rattle.why.proofs.candidates.reason_of.Goals as goal

abbrev over : (c : goal.In-Err) → Slots
over c = table_of c.args.frames.now c.args.state.now c.args.count

abbrev over_2 : (c : goal.Then-offsets_fit) → Slots
over_2 c = table_of c.args.frames.now c.args.state.now c.args.count

abbrev over_3 : (c : goal.Else-offsets_fit) → Slots
over_3 c = table_of c.args.frames.now c.args.state.now c.args.count

pub judge_linked-requires : goal.judge_linked-requires
judge_linked-requires c =
    let z = c.args.state.now in (
      c.requires.0.sound,
      c.requires.0.together,
      c.requires.0.named,
      c.requires.1,
      search rules,
      search rules,
      placed_any c.args.frames.now (starts_in z) c.args.count (forms_in z) (carry_in z) (owners_in z) (offsets_in z)
          (contexts_read c.args.frames.now (starts_in z) c.args.count) c.requires.0.context,
    )

pub returns-in-Err : goal.returns-in-Err
returns-in-Err c =
    reason_refused (program_of (over c)) c.judge_linked.result c.judge_linked.ensures.answer _ c.in-Err.is

pub returns-then-offsets_fit : goal.returns-then-offsets_fit
returns-then-offsets_fit c =
    reason_counts (program_of (over_2 c)) c.judge_linked.result c.judge_linked.ensures.answer c.offsets_fit.result c.in_default.is
    c.offsets_fit.ensures c.if-offsets_fit.true

pub returns : goal.returns
returns c =
    reason_beyond (program_of (over_3 c)) c.judge_linked.result c.judge_linked.ensures.answer c.offsets_fit.result c.in_default.is
    c.offsets_fit.ensures c.if-offsets_fit.false
