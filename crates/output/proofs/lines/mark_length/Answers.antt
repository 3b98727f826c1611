-- `output::lines::mark_length` meets its contract: by the form.
use mathlib.Core.Path.{sym}
use mathlib.Core.List.{[], ◌∷◌}
use native.Mathlib.Omega.{arith}
use Rattle.digits.proofs.Rooms.{length_line}
use Rattle.output.proofs.lines.mark_length.Goals as goal

pub returns-then-marked : goal.returns-then-marked
returns-then-marked c = rw c.if-marked.true (sym (length_line (0x7D ∷ 0x02 ∷ [])), omega arith)
