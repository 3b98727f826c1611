use mathlib.Core.Path.{◌≡◌, sym, ap, ◌∙◌}
use native.Mathlib.Omega.{arith}
use lib.ListN.{drop}
use Rattle.grammar.specs.Reading.{is_decimal, look}
use Rattle.grammar.specs.Going.{digits}
use Rattle.leaves.proofs.Leafs.{rest_is, valued_after, valued_takes}
use Rattle.laying.proofs.Speaking.{no_number, number_is}
use Rattle.phrases.proofs.ends.number.Goals as goal

-- src/ends.rt:37:9
pub returns-then-not-is_decimal : goal.returns-then-not-is_decimal
returns-then-not-is_decimal c =
    let a = c.args in
    let s = a.s.now in
    let z : is_decimal (look (drop a.k s)) ≡ c.is_decimal.result = ap is_decimal (sym (c.look.ensures ∙ ap look (rest_is a.k s)))
    ∙ sym c.is_decimal.ensures in
    no_number s a.k a.most c.requires.0 (z ∙ c.if-not-is_decimal.true)

pub after-requires : goal.after-requires
after-requires c = omega (arith, valued_takes _ _ _ c.digits.result c.digits.ensures)

pub returns : goal.returns
returns c =
    let a = c.args in
    let s = a.s.now in
    let z : is_decimal (look (drop a.k s)) ≡ c.is_decimal.result = ap is_decimal (sym (c.look.ensures ∙ ap look (rest_is a.k s)))
    ∙ sym c.is_decimal.ensures in
    number_is s a.k a.most c.after.result (z ∙ c.if-not-is_decimal.false)
    (valued_after a.k s (λ t. digits a.most 0 t) a.most c.digits.result c.after.result c.requires.0 c.digits.ensures c.after.ensures)
