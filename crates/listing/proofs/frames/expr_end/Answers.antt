-- `expr_end` meets its contract: the expression is read from the rest of the frame, and ends so many bytes behind its place. Assumes
-- nothing.
use mathlib.Core.Path.{sym, ap, ◌∙◌}
use native.Mathlib.Omega.{arith}
use Rattle.std.specs.Prelude.{Err}
use Rattle.std.proofs.lemmas.Result.{err_from_is_err_and}
use Rattle.expression.specs.Reading.{after_of}
use Rattle.listing.proofs.FrameParts.{expr_ends, expr_fits}
use Rattle.listing.proofs.frames.expr_end.Goals as goal

pub overflow_add-result : goal.overflow_add-result
overflow_add-result c =
    omega (arith, expr_fits c.args.s.now c.args.a c.in_ok-read_expr.field-0 c.requires (sym c.in_ok-read_expr.was ∙ c.read_expr.ensures))

pub returns : goal.returns
returns c =
    ap (after_of c.args.a) (sym c.in_ok-read_expr.was) ∙ expr_ends c.args.s.now c.args.a c.read_expr.result c.read_expr.ensures

pub returns-in_err-read_expr : goal.returns-in_err-read_expr
returns-in_err-read_expr c =
    let p = err_from_is_err_and c.from_residual.result c.from_residual.ensures.1 in
    p.1 ∙ ap Err p.2 ∙ ap (after_of c.args.a) (sym c.in_err-read_expr.was)
    ∙ expr_ends c.args.s.now c.args.a c.read_expr.result c.read_expr.ensures
