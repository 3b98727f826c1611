-- `readback::walks::measure` meets its contract: what is counted and what is left make the whole. Assumes nothing.
use mathlib.Core.Path.{ap}
use native.Mathlib.Omega.{arith}
use lib.ListN.{length}
use Rattle.rules.specs.Programs.{Program}
use Rattle.readback.specs.ReadBack.{listing_of}
use Rattle.readback.proofs.Turns.{count_turn, length_turn, none_left, listing_none}
use Rattle.readback.proofs.walks.measure.Goals as goal

pub loop-q-preserved : goal.loop-q-preserved
loop-q-preserved c =
    let image = c.args.image.now in
    let e = c.step_at-step.ensures in
    let k = count_turn image c.loop-q.q c.step_at-step.result c.loop-q-test.true e in
    let n = length_turn image c.loop-q.q c.step_at-step.result c.loop-q-test.true e in (
      e.there,
      omega (arith, e.some),
      omega (arith, e.some, e.short),
      omega (arith, c.loop-q.invariant.3),
      omega (arith, c.loop-q.invariant.4),
    )

pub returns : goal.returns
returns c =
    let e = none_left c.args.image.now c.loop-q.q c.loop-q-test.false in
    let n = ap (λ (p : Program). length p) e in
    let m = ap (λ (p : Program). length (listing_of p)) e in (
      record {
        count = omega (arith, c.loop-q.invariant.3);
        length_is = omega (arith, c.loop-q.invariant.4, ap (λ t. length t) listing_none);
      },
      omega
          (arith, c.requires.1),
      omega (arith, c.requires.1),
    )
