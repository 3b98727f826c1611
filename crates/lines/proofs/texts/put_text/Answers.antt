-- `put_text` meets its contract: after k turns the first k bytes stand there. Assumes nothing.
use mathlib.Core.Path.{◌≡◌, refl, sym, ◌∙◌}
use mathlib.Core.List.{[], ◌∷◌, ◌++◌}
use Prim.Native.Nat.{◌+◌}
use native.Mathlib.Numerals.{add-one}
use native.Mathlib.Omega.{arith}
use lib.ListN.{get_or, take, length-set}
use lib.Seq.{take-suc, length-take-le}
use Rattle.digits.proofs.Rooms.{laid_more, laid_one, laid_nothing}
use Rattle.lines.proofs.texts.put_text.Goals as goal

pub loop-k-init : goal.loop-k-init
loop-k-init c = (sym (laid_nothing _ _), refl)

pub loop-k-preserved : goal.loop-k-preserved
loop-k-preserved c =
    let l = c.loop-k in
    let a = c.args in
    let t = a.s.now in
    let n = length-take-le l.k t (omega arith) in
    let x : take (l.k + 1) t ≡ take l.k t ++ (get_or t l.k 0 ∷ []) = rw (add-one l.k) (take-suc t l.k 0 (omega arith)) in
    let e = laid_one l.out (a.at + l.k) (get_or t l.k 0) (omega (arith, c.requires, l.invariant.1)) in (
      e ∙ rw (l.invariant.0, x) (laid_more a.out.now (take l.k t) (get_or t l.k 0 ∷ []) a.at (a.at + l.k) (omega arith)
          (omega (arith, c.requires))),
      simp length-set l.invariant.1,
    )
