use Rattle.std.specs.Prelude.{Err}
use Rattle.std.proofs.lemmas.Result.{err_from_is_err_and}
use Rattle.laying.specs.Speaking.{Listed}
use mathlib.Core.Path.{sym, ap, ◌∙◌, subst}
use native.Mathlib.Omega.{arith}
use Prim.Native.Nat.{◌<◌}
use Rattle.grammar.specs.Reading.{look}
use Rattle.leaves.proofs.Leafs.{rest_is}
use Rattle.series.proofs.Itemized.{none_yet, item_stuck, item_last, item_other, item_full, item_next, term_room}
use Rattle.series.proofs.items.items.Goals as goal

-- src/items.rt:34:5
pub loop-n-init : goal.loop-n-init
loop-n-init c =
    let a = c.args in (
      omega arith,
      (
        omega arith,
        (
          c.put-at.ensures.size,
          (
            c.put-at.ensures.within,
            (
              c.requires.0,
              λ make.
                  none_yet make a.kind a.s.now a.k a.out.now c.put-a.new.out c.put-at.new.out c.put-a.result c.put-at.result c.requires.1
                  c.put-a.ensures c.put-at.ensures,
            ),
          ),
        ),
      ),
    )

-- src/items.rt:38:21
pub returns-then-e-s : goal.returns-then-e-s
returns-then-e-s c = λ make.
    let a = c.args in
    let s = a.s.now in
    let v = c.loop-n.invariant in
    item_last make a.kind s a.k c.loop-n.out c.term.new.out c.loop-n.at c.loop-n.i c.loop-n.n (v.1.1.1.1.1 make) c.term.result
    c.term.ensures c.in_ok-e.e c.in_ok-e.to c.in_ok-e.was c.count.new.out c.count.result v.0 (omega (arith, v.1.0)) c.if-e-s.true
    c.count.ensures

-- src/items.rt:41:21
pub returns-then-look-ne44 : goal.returns-then-look-ne44
returns-then-look-ne44 c = λ make.
    let a = c.args in
    let s = a.s.now in
    let v = c.loop-n.invariant in
    let e = c.look.ensures ∙ ap look (rest_is c.in_ok-e.e s) in
    item_other make a.kind s a.k c.loop-n.out c.term.new.out c.loop-n.at c.loop-n.i c.loop-n.n (v.1.1.1.1.1 make) c.term.result
    c.term.ensures c.in_ok-e.e c.in_ok-e.to c.in_ok-e.was v.0 (omega (arith, v.1.0)) (omega (arith, c.if-e-s.false))
    (λ z. c.if-look-ne44.true (e ∙ z))

-- src/items.rt:44:21
pub returns-then-n-eq16 : goal.returns-then-n-eq16
returns-then-n-eq16 c = λ make.
    let a = c.args in
    let s = a.s.now in
    let v = c.loop-n.invariant in
    item_full make a.kind s a.k c.loop-n.out c.term.new.out c.loop-n.at c.loop-n.i c.loop-n.n (v.1.1.1.1.1 make) c.term.result
    c.term.ensures c.in_ok-e.e c.in_ok-e.to c.in_ok-e.was c.if-n-eq16.true (omega (arith, c.if-e-s.false))

-- src/items.rt:50:17
pub returns-in_err-e : goal.returns-in_err-e
returns-in_err-e c = λ make.
    let a = c.args in
    let s = a.s.now in
    let v = c.loop-n.invariant in
    let p = err_from_is_err_and c.from_residual.result c.from_residual.ensures.1 in
    subst (λ r. Listed make a.kind s a.k c.term.new.out r) (sym (p.1 ∙ ap Err p.2))
    (item_stuck make a.kind s a.k c.loop-n.out c.term.new.out c.loop-n.at c.loop-n.i c.loop-n.n (v.1.1.1.1.1 make) c.term.result
    c.term.ensures c.in_err-e.field-0.0 (omega (arith, v.1.0)) v.0 c.in_err-e.was)

-- src/items.rt:34:5
pub loop-n-preserved : goal.loop-n-preserved
loop-n-preserved c =
    let a = c.args in
    let s = a.s.now in
    let v = c.loop-n.invariant in
    let e = c.look.ensures ∙ ap look (rest_is c.in_ok-e.e s) in
    let r = term_room s c.loop-n.i c.loop-n.out c.term.new.out c.loop-n.at c.term.result c.in_ok-e.e c.in_ok-e.to c.in_ok-e.was
    c.term.ensures in
    let h : c.loop-n.n < 16 = omega (arith, v.1.0, c.if-n-eq16.false) in (
      omega arith,
      (
        omega arith,
        (
          r.0,
          (
            r.1,
            (
              omega (arith, c.if-e-s.false),
              λ make.
                  item_next make a.kind s a.k c.loop-n.out c.term.new.out c.loop-n.at c.loop-n.i c.loop-n.n (v.1.1.1.1.1 make) c.term.result
                  c.term.ensures c.in_ok-e.e c.in_ok-e.to c.in_ok-e.was v.0 h (sym e ∙ c.if-look-ne44.false),
            ),
          ),
        ),
      ),
    )
