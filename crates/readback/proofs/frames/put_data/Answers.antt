-- `readback::frames::put_data` meets its contract: after k turns the first k bytes stand there. Assumes nothing.
use mathlib.Core.Path.{◌≡◌, refl, sym, ap, ◌∙◌}
use mathlib.Core.List.{List, ◌∷◌}
use Prim.Native.Nat.{ℕ, ◌+◌, ◌*◌}
use native.Mathlib.Omega.{arith}
use lib.ListN.{length, set, take, length-set}
use lib.Seq.{take_all}
use Rattle.laws.specs.Lists.{each}
use Rattle.rules.specs.Expressions.{bytes_of}
use Rattle.digits.specs.Digits.{laid}
use Rattle.decoding.specs.Operands.{plain}
use Rattle.readback.proofs.Pieces.{two_front, data_items, data_frame, data_more}
use Rattle.readback.proofs.frames.put_data.Goals as goal

pub loop-k-init : goal.loop-k-init
unfolding each
loop-k-init c =
    let a = c.args in
    (refl, two_front a.frame.now 6 (length a.s.now) (omega arith))

pub loop-k-preserved : goal.loop-k-preserved
loop-k-preserved c =
    let a = c.args in
    let n = length-set (set a.frame.now 0 6) 1 (length a.s.now) ∙ length-set a.frame.now 0 6 in (
      c.put_number.auto.frame ∙ c.loop-k.invariant.0,
      ap (take (2 + 5 * (c.loop-k.k + 1))) (c.put_number.ensures ∙ ap (λ (v : ℕ). laid c.loop-k.frame (2 + 5 * c.loop-k.k) (bytes_of (plain v))) c.from.ensures)
          ∙ data_more a.s.now c.loop-k.frame (length a.s.now) c.loop-k.k (omega arith) (omega (arith, n)) c.loop-k.invariant.1,
    )

pub returns : goal.returns
returns c =
    let a = c.args in
    let n = length a.s.now in
    let e : c.loop-k.k ≡ n = omega arith in (
      ap (λ (k : ℕ). take (2 + 5 * k) c.loop-k.frame) (sym e) ∙ c.loop-k.invariant.1
          ∙ ap (λ (t : List ℕ). 6 ∷ n ∷ data_items t) (take_all c.loop-k.k a.s.now (omega arith)) ∙ sym (data_frame a.s.now),
      omega arith,
    )
