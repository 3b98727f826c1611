use mathlib.Core.Path.{sym, ap, ◌∙◌}
use Rattle.grammar.specs.Reading.{look}
use Rattle.leaves.proofs.Leafs.{rest_is, blank_minus, blank_other}
use Rattle.leaves.proofs.operands.blank.Goals as goal

pub returns-then-look-eq45 : goal.returns-then-look-eq45
returns-then-look-eq45 c =
    let s = c.args.s.now in
    blank_minus s c.spaces-j.result c.requires.0 c.requires.1 c.spaces-j.ensures.0 c.spaces-j.ensures.1
    (ap look (sym (rest_is c.spaces-j.result s)) ∙ sym c.look.ensures ∙ c.if-look-eq45.true)

pub returns : goal.returns
returns c =
    let s = c.args.s.now in (
      blank_other s c.spaces-j.result c.requires.0 c.requires.1 c.spaces-j.ensures.0 c.spaces-j.ensures.1
          (λ e. c.if-look-eq45.false (c.look.ensures ∙ ap look (rest_is c.spaces-j.result s) ∙ e)),
      c.spaces-j.ensures.0,
    )
