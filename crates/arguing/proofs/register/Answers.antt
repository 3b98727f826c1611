use mathlib.Core.Path.{sym, ap, ◌∙◌}
use native.Mathlib.Omega.{arith}
use Prim.Native.Nat.{◌+◌}
use lib.ListN.{drop}
use Rattle.grammar.specs.Reading.{look}
use Rattle.leaves.proofs.Leafs.{rest_is}
use Rattle.laying.proofs.Speaking.{byte_there}
use Rattle.arguing.proofs.Arguing.{no_letter, no_digit, is_register, low_digit, high_digit, byte_past}
use Rattle.arguing.proofs.register.Goals as goal
use Rattle.arguing.proofs.register.Goals.{then-d-lt48-via-then-d-lt48, then-d-lt48-via-else-d-lt48+then-d-gt51}

pub returns-then-look-ne82 : goal.returns-then-look-ne82
returns-then-look-ne82 c =
    let a = c.args in
    let s = a.s.now in
    let e = c.look.ensures ∙ ap look (rest_is a.k s) in
    no_letter s a.k a.form a.out.now a.out.now a.at c.requires.0 (λ z. c.if-look-ne82.true (e ∙ z))

pub returns-then-d-lt48 : goal.returns-then-d-lt48
returns-then-d-lt48 c =
    let a = c.args in
    let s = a.s.now in
    let e = c.look.ensures ∙ ap look (rest_is a.k s) in
    let q = sym e ∙ c.if-look-ne82.false in
    let d = c.look-d.ensures ∙ ap look (rest_is (a.k + 1) s) in
    elim c.then-d-lt48.branch [
      | then-d-lt48-via-then-d-lt48 w ↦
          no_digit s a.k a.form a.out.now a.out.now a.at q (byte_there s a.k 81 q) (low_digit (look (drop (a.k + 1) s)) c.look-d.result d w.if-d-lt48.true)
      | then-d-lt48-via-else-d-lt48+then-d-gt51 w ↦
          no_digit s a.k a.form a.out.now a.out.now a.at q (byte_there s a.k 81 q)
          (high_digit (look (drop (a.k + 1) s)) c.look-d.result d w.if-d-gt51.true)
    ]

pub returns : goal.returns
returns c =
    let a = c.args in
    let s = a.s.now in
    let e = c.look.ensures ∙ ap look (rest_is a.k s) in
    let q = sym e ∙ c.if-look-ne82.false in
    let z = c.look-d.ensures ∙ ap look (rest_is (a.k + 1) s) in
    is_register s a.k a.form a.out.now c.put-to.new.out a.at q c.look-d.result c.put-to.result z (omega (arith, c.if-d-lt48.false))
    (omega (arith, c.if-d-gt51.false))
    (byte_past s (a.k + 1) c.look-d.result z (omega (arith, c.if-d-lt48.false))) c.put-to.ensures
