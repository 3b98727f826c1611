-- `instruction::tables::entry` meets its contract: a digit of the form's row. Assumes nothing.
use mathlib.Core.Path.{ap, ◌∙◌}
use Prim.Native.Nat.{ℕ, ◌-◌, ◌*◌, ◌/◌, ◌%◌, ◌^◌}
use Rattle.instruction.proofs.Rows.{digit_at}
use Rattle.instruction.proofs.tables.entry.Goals as goal

pub returns : goal.returns
returns c = ap (λ (r : ℕ). r / 2 ^ (16 - 4 * c.args.k) % 16) c.row.ensures ∙ digit_at c.args.form c.args.k c.requires
