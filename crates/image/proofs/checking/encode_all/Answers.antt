-- `checking::encode_all` meets its contract. The invariant: the answer is that of the slots from i on.
use mathlib.Core.Path.{sym, ap, ◌∙◌}
use native.Mathlib.Numerals.{add-one}
use native.Mathlib.Omega.{arith}
use Rattle.std.specs.Prelude.{Err}
use Rattle.std.proofs.lemmas.Result.{err_from_is_err_and}
use Rattle.image.specs.Tables.{tables_of}
use Rattle.image.specs.Encoding.{checked_as}
use Rattle.image.proofs.Passes.{from_slot, from_start, from_end, slot_passes, slot_refused}
use Rattle.image.proofs.checking.encode_all.Goals as goal

pub loop-i-init : goal.loop-i-init
loop-i-init c = ap checked_as (from_start _)

pub returns-in_err-check_at : goal.returns-in_err-check_at
returns-in_err-check_at c =
    let l = c.loop-i in
    let p = err_from_is_err_and c.from_residual.result c.from_residual.ensures.1 in
    rw p.1
    (sym
    (l.invariant ∙ slot_refused _ l.i c.loop-i-test.true p.0 (sym c.check_at.ensures ∙ c.in_err-check_at.was ∙ ap Err (sym p.2))))

pub loop-i-preserved : goal.loop-i-preserved
loop-i-preserved c =
    let l = c.loop-i in
    let a = c.args in
    let d = tables_of a.frames.now a.state.now a.count a.links.now a.values.now a.positions.now in
    l.invariant ∙ slot_passes d l.i c.loop-i-test.true (sym c.check_at.ensures ∙ c.in_ok-check_at.was)
    ∙ ap (λ m. checked_as (from_slot d m)) (sym (add-one l.i))

pub returns : goal.returns
returns c =
    let l = c.loop-i in
    sym (l.invariant ∙ ap checked_as (from_end _ l.i (omega arith)))
