use mathlib.Core.Path.{◌≡◌, sym, ap, ◌∙◌, subst}
use native.Mathlib.Omega.{arith}
use Prim.Native.Nat.{◌<◌}
use lib.ListN.{drop}
use Rattle.grammar.specs.Reading.{look}
use Rattle.leaves.proofs.Leafs.{rest_is}
use Rattle.marks.specs.Narrowing.{chosen}
use Rattle.arguing.specs.Answers.{Argued}
use Rattle.arguing.proofs.Arguing.{marked_as, is_hash_lem, is_at_lem, is_neither, not_so, hash_argued, plain_argued, at_argued}
use Rattle.arguing.proofs.argument.Goals as goal

pub returns-then-f-gt69 : goal.returns-then-f-gt69
returns-then-f-gt69 c =
    let a = c.args in
    let s = a.s.now in
    let w = marked_as (look (drop a.k s)) c.look.result c.mark_of-mark.result (c.look.ensures
    ∙ ap look (rest_is a.k s)) c.mark_of-mark.ensures.0 in
    not_so s a.k a.form a.j a.out.now a.out.now a.at c.requires.1 c.requires.2 c.requires.0 c.mark_of-mark.result w c.mark_of-mark.ensures.1
    (subst (λ x. 69 < x) c.narrowed-f.ensures c.if-f-gt69.true)

pub returns-then-mark-eq1 : goal.returns-then-mark-eq1
returns-then-mark-eq1 c =
    let a = c.args in
    let s = a.s.now in
    let w = marked_as (look (drop a.k s)) c.look.result c.mark_of-mark.result (c.look.ensures
    ∙ ap look (rest_is a.k s)) c.mark_of-mark.ensures.0 in
    at_argued s a.k a.form a.j a.out.now c.register.new.out a.at c.requires.1 c.requires.2 c.requires.0 c.narrowed-f.result
    c.register.result (c.narrowed-f.ensures ∙ ap (λ x. chosen a.form a.j x) c.if-mark-eq1.true)
    (omega (arith, c.if-f-gt69.false)) (is_at_lem w c.if-mark-eq1.true) c.register.ensures

pub returns-then-mark-eq0 : goal.returns-then-mark-eq0
returns-then-mark-eq0 c =
    let a = c.args in
    let s = a.s.now in
    let w = marked_as (look (drop a.k s)) c.look.result c.mark_of-mark.result (c.look.ensures
    ∙ ap look (rest_is a.k s)) c.mark_of-mark.ensures.0 in
    subst (λ r. Argued s a.k a.form a.j a.out.now c.term.new.out a.at r) (sym c.valued.ensures)
    (hash_argued s a.k a.form a.j a.out.now c.term.new.out a.at c.requires.1 c.requires.2 c.requires.0 c.narrowed-f.result c.term.result
    (c.narrowed-f.ensures ∙ ap (λ x. chosen a.form a.j x) c.if-mark-eq0.true)
    (omega (arith, c.if-f-gt69.false)) (is_hash_lem w c.if-mark-eq0.true) c.term.ensures)

pub returns : goal.returns
returns c =
    let a = c.args in
    let s = a.s.now in
    let w = marked_as (look (drop a.k s)) c.look.result c.mark_of-mark.result (c.look.ensures
    ∙ ap look (rest_is a.k s)) c.mark_of-mark.ensures.0 in
    let z : c.mark_of-mark.result ≡ 2 = omega (arith, c.mark_of-mark.ensures.1, c.if-mark-eq0.false, c.if-mark-eq1.false) in
    let q = is_neither w z in
    subst (λ r. Argued s a.k a.form a.j a.out.now c.term-2.new.out a.at r) (sym c.valued-2.ensures)
    (plain_argued s a.k a.form a.j a.out.now c.term-2.new.out a.at c.requires.1 c.requires.2 c.requires.0 c.narrowed-f.result
    c.term-2.result (c.narrowed-f.ensures ∙ ap (λ x. chosen a.form a.j x) z)
    (omega (arith, c.if-f-gt69.false)) q.0 q.1 c.term-2.ensures)
