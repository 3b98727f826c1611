-- `walks::measure` meets its contract: the statements so far and what is left make the whole. Assumes nothing.
use mathlib.Core.Path.{refl, sym, ap, ◌∙◌, subst}
use mathlib.Core.List.{[], ◌∷◌, ◌++◌}
use Prim.Native.Nat.{◌+◌, ◌*◌}
use native.Mathlib.Omega.{arith}
use lib.ListN.{drop}
use Rattle.std.specs.Prelude.{Err}
use Rattle.std.proofs.lemmas.Result.{err_from_is_err_and}
use Rattle.laws.proofs.Stores.{rest_is}
use Rattle.intake.specs.Turns.{Framed, Turned, Measured}
use Rattle.intake.proofs.Steps.{Upto, starts, refuses, step, counted}
use Rattle.intake.proofs.walks.measure.Goals as goal

-- the line at q is read
module _ (e : goal.In_ok-end) where
  read : Framed e.loop-q.i e.loop-q.sum (drop e.loop-q.q e.args.text.now) e.judge_line.new.room e.in_ok-end.end e.in_ok-end.n
  read =
      subst (λ x. Turned e.loop-q.i e.loop-q.sum (drop e.loop-q.q e.args.text.now) e.judge_line.new.room x) e.in_ok-end.was
      (subst (λ t. Turned e.loop-q.i e.loop-q.sum t e.judge_line.new.room e.judge_line.result) (rest_is e.loop-q.q e.args.text.now)
      e.judge_line.ensures)

  more : Upto e.args.text.now (e.loop-q.q + e.in_ok-end.end) (e.loop-q.i + 1) (e.loop-q.sum + 2 * e.in_ok-end.n)
      (e.loop-q.invariant.1.0 ++ (read.s ∷ []))
  more = step e.loop-q.invariant.1.1 (omega (arith, e.loop-q-test.true)) read

pub loop-q-init : goal.loop-q-init
loop-q-init c = (refl, ([], starts c.args.text.now))

pub returns-in_err-end : goal.returns-in_err-end
returns-in_err-end c =
    let t = c.args.text.now in
    let l = c.loop-q in
    let j = c.judge_line in
    let said = subst (λ t. Turned l.i l.sum t j.new.room j.result) (rest_is l.q t) j.ensures in
    let w = subst (λ x. Turned l.i l.sum (drop l.q t) j.new.room x) c.in_err-end.was said in
    let p = err_from_is_err_and c.from_residual.result c.from_residual.ensures.1 in
    subst (λ x. Measured t x) (sym (p.1 ∙ ap Err p.2)) (refuses l.invariant.1.1 (omega (arith, c.loop-q-test.true)) c.in_err-end.field-0.0 w)

pub loop-q-preserved : goal.loop-q-preserved
loop-q-preserved c = ((read c).room_size, (c.loop-q.invariant.1.0 ++ ((read c).s ∷ []), more c))

pub returns : goal.returns
returns c = counted c.loop-q.invariant.1.1 (omega (arith, c.loop-q-test.false))
