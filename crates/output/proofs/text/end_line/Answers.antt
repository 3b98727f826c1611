-- `output::text::end_line` meets its contract: one store.
use mathlib.Core.Path.{refl}
use Rattle.digits.proofs.Rooms.{laid_one}
use Rattle.output.proofs.text.end_line.Goals as goal

pub returns : goal.returns
returns c = (laid_one c.args.out.now c.args.at 10 c.requires, refl)
