use mathlib.Core.Path.{◌≡◌, sym, subst}
use native.Mathlib.Omega.{arith}
use lib.ListN.{drop}
use Rattle.openings.specs.Fronting.{ended, Fronted}
use Rattle.openings.proofs.Fronting.{goes, ends_space, ends_full, parts_short, parts_other}
use Rattle.openings.proofs.along.Goals as goal
use Rattle.openings.proofs.along.Goals.{then-i-s-via-then-i-s, then-i-s-via-else-i-s+then-s-i}

-- src/lib.rt:49:13
pub returns-then-c-eq32 : goal.returns-then-c-eq32
returns-then-c-eq32 c =
    let a = c.args in
    subst (λ r. Fronted a.word.now a.opens a.s.now r) (sym c.end_at.ensures)
    (ends_space a.word.now a.s.now c.loop-i.i c.loop-i.invariant a.opens (omega arith) c.if-c-eq32.true)

pub returns-then-i-s : goal.returns-then-i-s
returns-then-i-s c =
    let a = c.args in
    elim c.then-i-s.branch [
      | then-i-s-via-then-i-s w ↦
          parts_short a.word.now a.s.now c.loop-i.i c.loop-i.invariant a.opens (omega arith) c.if-c-eq32.false (omega arith)
      | then-i-s-via-else-i-s+then-s-i w ↦
          parts_other a.word.now a.s.now c.loop-i.i c.loop-i.invariant a.opens (omega arith) c.if-c-eq32.false (omega arith) w.if-s-i.true
    ]

-- src/lib.rt:46:5
pub loop-i-preserved : goal.loop-i-preserved
loop-i-preserved c =
    let a = c.args in
    goes a.word.now a.s.now c.loop-i.i c.loop-i.invariant (omega arith) (omega arith) c.if-c-eq32.false c.if-s-i.false

-- src/lib.rt:41:1
pub returns : goal.returns
returns c =
    let a = c.args in
    let e : c.loop-i.i ≡ 8 = omega (arith, c.loop-i.invariant.fits) in
    subst (λ r. Fronted a.word.now a.opens a.s.now r) (sym c.end_at-2.ensures)
    (subst (λ i. Fronted a.word.now a.opens a.s.now (ended a.opens i (drop i a.s.now))) e
    (ends_full a.word.now a.s.now c.loop-i.i c.loop-i.invariant a.opens (omega arith)))
