-- `digits::put_bytes` meets its contract: after k turns the digits of the first k bytes stand there.
use mathlib.Core.Path.{refl, sym, ap, ◌∙◌}
use Prim.Native.Nat.{◌+◌, ◌*◌}
use native.Mathlib.Omega.{arith}
use lib.ListN.{length, take}
use lib.Seq.{length-take-le}
use Rattle.laws.specs.Lists.{each}
use Rattle.digits.specs.Digits.{hex_of}
use Rattle.digits.proofs.Rooms.{length_laid, laid_more, laid_nothing, length_hex, hex_more}
use Rattle.digits.proofs.put_bytes.Goals as goal

pub loop-k-init : goal.loop-k-init
unfolding each
loop-k-init c = (sym (laid_nothing _ _), refl)

pub loop-k-preserved : goal.loop-k-preserved
loop-k-preserved c =
    let l = c.loop-k in
    let a = c.args in
    let e = c.put_byte.ensures in
    let n = length_hex (take l.k a.s.now) in
    let m = length-take-le l.k a.s.now (omega arith) in (
      e ∙ rw (l.invariant.0, hex_more a.s.now l.k (omega arith))
          (laid_more a.out.now (hex_of (take l.k a.s.now)) _ a.at (a.at + 2 * l.k) (omega arith) (omega arith)),
      ap length e ∙ length_laid l.out (a.at + 2 * l.k) _ (omega arith) ∙ l.invariant.1,
    )
