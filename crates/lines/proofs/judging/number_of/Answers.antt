-- `judging::number_of` meets its contract: what reading comes to has a number. Assumes nothing.
use mathlib.Core.Path.{sym, subst}
use Prim.Native.Nat.{ℕ}
use Rattle.rules.specs.Listing.{read_listing}
use Rattle.lines.specs.Turns.{Numbered}
use Rattle.lines.proofs.ByItself.{refused_number}
use Rattle.lines.proofs.judging.number_of.Goals as goal

pub returns-in-Err : goal.returns-in-Err
returns-in-Err c =
    let text = c.args.text.now in
    subst (λ (n : ℕ). Numbered (read_listing text) n) (sym c.one_or_two.ensures)
    (refused_number _ _ text _ c.read_listing.result c.in-Err.is c.read_listing.ensures.listed)
