-- `exprs_end` meets its contract: after k turns a is where the first k expressions end, and what is left goes on from there. Assumes
-- nothing.
use mathlib.Core.Path.{sym, ap, ◌∙◌}
use Prim.Native.Nat.{◌-◌, ◌+◌}
use native.Mathlib.Omega.{arith}
use Rattle.expression.specs.declared.Unread.{Unread}
use Rattle.std.specs.Prelude.{ℕ, Err, Result}
use Rattle.std.proofs.lemmas.Result.{err_from_is_err_and}
use Rattle.listing.specs.Frames.{and_then, exprs_end}
use Rattle.listing.proofs.FrameParts.{expr_end_fits, exprs_more, exprs_done}
use Rattle.listing.proofs.frames.exprs_end.Goals as goal

pub returns-in_err-a : goal.returns-in_err-a
returns-in_err-a c =
    let next = exprs_end (c.args.n - (c.loop.counter + 1)) c.args.s.now in
    let p = err_from_is_err_and c.from_residual.result c.from_residual.ensures.1 in
    p.1 ∙ ap Err p.2
    ∙ sym (c.loop.invariant.1 ∙ exprs_more c.args.n c.loop.counter c.args.s.now c.loop.a (omega arith) ∙ ap (λ (r : Result ℕ Unread). and_then r next)
    (sym c.expr_end.ensures ∙ c.in_err-a.was))

pub loop-preserved : goal.loop-preserved
loop-preserved c =
    let next = exprs_end (c.args.n - (c.loop.counter + 1)) c.args.s.now in
    let read = sym c.expr_end.ensures ∙ c.in_ok-a.was in (
      expr_end_fits c.args.s.now c.loop.a c.in_ok-a.a c.loop.invariant.0 read,
      c.loop.invariant.1 ∙ exprs_more c.args.n c.loop.counter c.args.s.now c.loop.a (omega arith) ∙ ap (λ (r : Result ℕ Unread). and_then r next) read,
    )

pub returns : goal.returns
returns c =
    sym (c.loop.invariant.1 ∙ exprs_done c.args.n c.loop.counter c.args.s.now c.loop.a c.loop-test.false)
