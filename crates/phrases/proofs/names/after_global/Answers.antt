use mathlib.Core.Path.{sym, ap, ◌∙◌, subst}
use lib.ListN.{length}
use Rattle.grammar.specs.Reading.{look}
use Rattle.leaves.proofs.Leafs.{rest_is}
use mathlib.Core.Option.{none}
use mathlib.Core.Bool.{◌||◌}
use Prim.Native.Nat.{◌+◌}
use lib.Dec.{eqb}
use Rattle.rules.specs.Programs.{label}
use Rattle.plans.specs.Plans.{fork}
use Rattle.plans.specs.Lines.{after_global}
use Rattle.laying.specs.Speaking.{Spoken, ends_at}
use Rattle.laying.proofs.Speaking.{done_spoken, byte_there}
use Rattle.phrases.proofs.Named.{label_held, global_label, global_variable, global_wrong}
use Rattle.phrases.proofs.names.after_global.Goals as goal

-- src/names.rt:44:9
pub returns-then-c-eq58 : goal.returns-then-c-eq58
returns-then-c-eq58 c =
    let a = c.args in
    let s = a.s.now in
    let e = c.look-c.ensures ∙ ap look (rest_is a.k s) in
    let q = sym e ∙ c.if-c-eq58.true in
    let n = a.name in
    let P = fork none (λ c. eqb c 58 || eqb c 61) (after_global n) in
    subst (λ r. Spoken P s a.k c.put_head-at.new.out r) (sym c.ended.ensures)
    (global_label s a.k n c.put_head-at.new.out (ends_at (length s) (a.k + 1) c.put_head-at.result) q
    (done_spoken (label n) s (a.k + 1) c.put_head-at.new.out c.put_head-at.result (byte_there s a.k 57 q)
    (label_held c.put_head-at.new.out c.put_head-at.result n c.put_head-at.ensures)))

-- src/names.rt:48:9
pub returns-then-c-eq61 : goal.returns-then-c-eq61
returns-then-c-eq61 c =
    let a = c.args in
    let s = a.s.now in
    let e = c.look-c.ensures ∙ ap look (rest_is a.k s) in
    global_variable s a.k a.name c.bound.new.out c.bound.result (sym e
    ∙ c.if-c-eq61.true) (c.bound.ensures a.name c.put_head-at-then-c-eq61.ensures)

-- src/names.rt:37:1
pub returns : goal.returns
returns c =
    let a = c.args in
    let s = a.s.now in
    let e = c.look-c.ensures ∙ ap look (rest_is a.k s) in
    global_wrong s a.k a.name a.out.now c.requires.0 (λ z. c.if-c-eq58.false (e ∙ z)) (λ z. c.if-c-eq61.false (e ∙ z))
