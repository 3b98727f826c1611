use mathlib.Core.Path.{◌∙◌, sym}
use Rattle.laws.proofs.Tests.{true_false}
use Rattle.openings.proofs.Numbered.{local_yes, begins_so}
use Rattle.openings.proofs.begin.Goals as goal

pub returns : goal.returns
returns c =
    let s = c.args.s.now in
    begins_so s c.tabled.result c.tabled.ensures (λ e. c.if-look-eq103.false (c.look.ensures ∙ e))
    (λ p. true_false (sym (local_yes s p) ∙ sym c.is_local.ensures ∙ c.if-is_local.false))
