-- `entry::read_people` meets its contract, on every input: what is measured is refused, or its room is judged and it is written. Assumes
-- nothing.
use mathlib.Core.Path.{subst}
use native.Mathlib.Omega.{arith}
use Rattle.intake.specs.Turns.{Measured}
use Rattle.intake.proofs.Outcomes.{done}
use Rattle.intake.proofs.entry.read_people.Goals as goal

pub returns : goal.returns
returns c =
    let t = c.args.text.now in
    done t c.args.listing.now c.in_ok-count.count c.in_ok-count.chars
    (subst (λ x. Measured t x) c.in_ok-count.was c.measure.ensures) c.write_lines.new.listing (omega (arith, c.if-listing-chars.false))
    c.write_lines.ensures
