use mathlib.Core.Path.{sym, ap, ◌∙◌, subst}
use lib.ListN.{length}
use Rattle.grammar.specs.Reading.{look}
use Rattle.leaves.proofs.Leafs.{rest_is}
use mathlib.Core.Option.{none}
use Prim.Native.Nat.{◌+◌}
use lib.Dec.{eqb}
use Rattle.rules.specs.Programs.{label}
use Rattle.plans.specs.Plans.{done, fork}
use Rattle.laying.specs.Speaking.{Spoken, ends_at}
use Rattle.laying.proofs.Speaking.{done_spoken, byte_there}
use Rattle.phrases.proofs.Named.{label_held, local_label, local_wrong}
use Rattle.phrases.proofs.names.after_local.Goals as goal

-- src/names.rt:60:9
pub returns-then-look-eq58 : goal.returns-then-look-eq58
returns-then-look-eq58 c =
    let a = c.args in
    let s = a.s.now in
    let e = c.look.ensures ∙ ap look (rest_is a.k s) in
    let q = sym e ∙ c.if-look-eq58.true in
    let n = 0x8000 + a.name in
    let P = fork none (λ c. eqb c 58) (λ c. done (label n)) in
    subst (λ r. Spoken P s a.k c.put_head-at.new.out r) (sym c.ended.ensures)
    (local_label s a.k n c.put_head-at.new.out (ends_at (length s) (a.k + 1) c.put_head-at.result) q
    (done_spoken (label n) s (a.k + 1) c.put_head-at.new.out c.put_head-at.result (byte_there s a.k 57 q)
    (label_held c.put_head-at.new.out c.put_head-at.result n c.put_head-at.ensures)))

-- src/names.rt:54:1
pub returns : goal.returns
returns c =
    let a = c.args in
    let s = a.s.now in
    let e = c.look.ensures ∙ ap look (rest_is a.k s) in
    local_wrong s a.k (0x8000 + a.name) a.out.now c.requires.0 (λ z. c.if-look-eq58.false (e ∙ z))
