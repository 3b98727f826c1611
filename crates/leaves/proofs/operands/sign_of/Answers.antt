use mathlib.Core.Path.{sym, ap, ◌∙◌}
use Rattle.grammar.specs.Going.{led}
use Rattle.leaves.specs.Answering.{sign_code}
use Rattle.leaves.proofs.Leafs.{rest_is, sign_led}
use Rattle.leaves.proofs.operands.sign_of.Goals as goal

pub returns : goal.returns
returns c =
    let s = c.args.s.now in
    c.sign_at.ensures ∙ ap (λ x. sign_code (led x)) (rest_is c.spaces-j.result s ∙ c.spaces-j.ensures.1) ∙ sym (sign_led s)
