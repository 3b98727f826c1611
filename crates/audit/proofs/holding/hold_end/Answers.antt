-- `audit::holding::hold_end` meets its contract: an end form assembles.
use mathlib.Core.Path.{ap, ◌∙◌}
use mathlib.Core.List.{List}
use Prim.Native.Nat.{ℕ}
use borrow.Author.Rules.{rules}
use Rattle.std.specs.Prelude.{Ok}
use Rattle.rules.specs.Layout.{origin_from}
use Rattle.slots.specs.Slots.{program_of}
use Rattle.slots.specs.State.{starts_in, forms_in, carry_in, owners_in, offsets_in, table_of}
use Rattle.slots.specs.Links.{contexts_read}
use Rattle.asm.proofs.Carrying.{placed_any}
use Rattle.finishing.proofs.Ended.{assembled_by, not_refused}
use Rattle.audit.specs.Audit.{held}
use Rattle.audit.specs.Held.{finding_as}
use Rattle.audit.proofs.Ends.{end_image_lem}
use Rattle.audit.proofs.holding.hold_end.Goals as goal

pub judge_linked-requires : goal.judge_linked-requires
judge_linked-requires c = (
  c.requires.0.sound,
  c.requires.0.together,
  c.requires.0.named,
  c.requires.2,
  search rules,
  search rules,
  placed_any c.args.frames.now (starts_in c.args.state.now) c.args.count (forms_in c.args.state.now) (carry_in c.args.state.now)
      (owners_in c.args.state.now) (offsets_in c.args.state.now)
      (contexts_read c.args.frames.now (starts_in c.args.state.now) c.args.count) c.requires.0.context,
)

pub returns-in_err-judge_linked : goal.returns-in_err-judge_linked
returns-in_err-judge_linked c = not_refused _ _ _ c.in_err-judge_linked.was c.judge_linked.ensures c.requires.1

pub returns : goal.returns
returns c =
    let p = program_of (table_of c.args.frames.now c.args.state.now c.args.count) in
    ap Ok c.hold_judged.ensures
    ∙ ap (λ (l : List ℕ). Ok (finding_as (held (origin_from 0 0 p) l c.args.shipped.now)))
    (end_image_lem _ (assembled_by _ _ c.in_ok-judge_linked.was c.judge_linked.ensures))
