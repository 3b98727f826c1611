-- `slots::form_in` meets its contract: the low byte of the row's number.
use mathlib.Core.Path.{sym, ap, ◌∙◌}
use mathlib.Core.List.{[]}
use Prim.Native.Nat.{ℕ, ◌%◌}
use lib.ListN.{get_or}
use Rattle.slots.proofs.State.{byte_at}
use Rattle.slots.proofs.form_in.Goals as goal

pub returns : goal.returns
returns c = c.low_byte.ensures ∙ ap (λ (n : ℕ). n % 256) c.from.ensures ∙ sym (byte_at (get_or c.args.state.now 4 []) c.args.at.0)
