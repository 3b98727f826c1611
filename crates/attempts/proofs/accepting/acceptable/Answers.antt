-- `attempts::accepting::acceptable` meets its contract: the definition's two tests, the second first, which leaves the positions.
use Rattle.slots.specs.Slots.{Slots, program_of}
use Rattle.attempts.proofs.Attempts.{counts_not, counts_if}
use Rattle.slots.specs.State.{table_of}
use Rattle.attempts.proofs.accepting.acceptable.Goals as goal
use Rattle.attempts.proofs.accepting.acceptable.Goals.{Else-assembles}
use mathlib.Core.Path.{◌∙◌}

abbrev over : (c : goal.After-offsets_fit) → Slots
over c = table_of c.args.frames.now c.args.state.now c.args.count

abbrev over_2 : (c : Else-assembles) → Slots
over_2 c = table_of c.args.frames.now c.args.state.now c.args.count

pub returns-then-assembles : goal.returns-then-assembles
returns-then-assembles c =
    counts_if (program_of (over c)) c.assembles.result c.assembles.ensures.0 c.offsets_fit.result c.if-assembles.true c.offsets_fit.ensures

pub returns-else-assembles : goal.returns-else-assembles
returns-else-assembles c =
    c.if-assembles.false ∙ counts_not (program_of (over_2 c)) c.assembles.result c.assembles.ensures.0 c.if-assembles.false
