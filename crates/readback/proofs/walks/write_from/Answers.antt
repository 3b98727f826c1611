-- `readback::walks::write_from` meets its contract: what is left, stored where the last line ended, makes the whole. Assumes nothing.
use mathlib.Core.Path.{sym, ap, ◌∙◌}
use mathlib.Core.List.{List}
use Prim.Native.Nat.{ℕ, ◌+◌, ◌*◌}
use native.Mathlib.Omega.{arith}
use Rattle.rules.specs.Output.{frame_of, line_of}
use Rattle.digits.specs.Digits.{laid}
use Rattle.digits.proofs.Rooms.{laid_more, laid_nothing}
use Rattle.readback.specs.ReadBack.{listing_of}
use Rattle.readback.specs.Walks.{first_on, all_on}
use Rattle.readback.proofs.Turns.{first_room, listing_turn, line_turn, length_turn, none_left, listing_none}
use Rattle.readback.proofs.walks.write_from.Goals as goal

pub write_at-step-requires : goal.write_at-step-requires
write_at-step-requires c = (
  c.loop-q-test.true,
  c.requires.1,
  omega
      (arith, first_room c.args.image.now c.loop-q.q c.loop-q-test.true, c.loop-q.invariant.2, c.loop-q.invariant.1),
)

pub loop-q-preserved : goal.loop-q-preserved
loop-q-preserved c =
    let image = c.args.image.now in
    let q = c.loop-q.q in
    let a = c.loop-q.a in
    let r = c.write_at-step.result in
    let e = c.write_at-step.ensures in
    let x = line_of (frame_of (first_on image q)) in
    let rest = listing_of (all_on image (q + r.0)) in
    let n = line_turn image q r c.loop-q-test.true e.0 in
    let m = length_turn image q r c.loop-q-test.true e.0 in (
      e.0.there,
      c.write_at-step.auto.out ∙ c.loop-q.invariant.1,
      omega (arith, c.loop-q.invariant.2),
      ap (λ (o : List ℕ). laid o (a + (2 * r.1 + 1)) rest) e.1
          ∙ laid_more c.loop-q.out x rest a (a + (2 * r.1 + 1)) (omega arith) (omega (arith, c.loop-q.invariant.2, c.loop-q.invariant.1))
          ∙ ap (laid c.loop-q.out a) (sym (listing_turn image q r c.loop-q-test.true e.0))
          ∙ c.loop-q.invariant.3,
    )

pub returns : goal.returns
returns c =
    let e = ap listing_of (none_left c.args.image.now c.loop-q.q c.loop-q-test.false) ∙ listing_none in
    sym (laid_nothing c.loop-q.out c.loop-q.a) ∙ ap (laid c.loop-q.out c.loop-q.a) (sym e) ∙ c.loop-q.invariant.3
