-- `pieces::five` meets its contract.
use mathlib.Core.Path.{ap}
use mathlib.Core.List.{[], ◌∷◌}
use Rattle.text.specs.Text.{five}
use Rattle.terms.proofs.Writes.{wrote_step, same_text}
use Rattle.terms.proofs.pieces.five.Goals as goal

pub returns : goal.returns
unfolding five
returns c =
    wrote_step c.digit.ensures c.put-a.ensures
    (wrote_step c.digit-2.ensures c.put-b.ensures
    (wrote_step c.digit-3.ensures c.put-c.ensures
    (wrote_step c.digit-4.ensures c.put-d.ensures (same_text (ap (λ z. z ∷ []) c.digit-5.ensures) c.put.ensures))))
