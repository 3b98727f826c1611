-- `checking::encodes_at` meets its contract.
use mathlib.Core.Path.{ap, ◌∙◌}
use Rattle.std.specs.Result.{is_ok}
use Rattle.image.proofs.Passes.{ok_checked}
use Rattle.image.proofs.checking.encodes_at.Goals as goal

pub returns : goal.returns
returns c = c.is_ok.ensures.value ∙ ap is_ok c.check_at.ensures ∙ ok_checked _
