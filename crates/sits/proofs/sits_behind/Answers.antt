-- `sits_behind` meets its contract: the slots are as read, and laying them out says where n sits. Assumes nothing.
use mathlib.Core.Path.{◌≡◌, sym, ap, ◌∙◌}
use Prim.Native.Nat.{ℕ, ◌+◌}
use native.Mathlib.Omega.{arith}
use Rattle.std.specs.Prelude.{Ok, Err}
use Rattle.std.proofs.lemmas.Result.{err_from_is_err_and}
use Rattle.sits.specs.Sits.{sits_as}
use Rattle.sits.proofs.Laying.{begun, laid_refused, laid_absent, laid_at}
use Rattle.sits.proofs.sits_behind.Goals as goal

-- at offset 0
add_zero : (k : ℕ) → k + 0 ≡ k
add_zero k = omega arith

pub returns-in_err-lay_out : goal.returns-in_err-lay_out
returns-in_err-lay_out c =
    let f = c.args.frames.now in
    let s = c.args.starts.now in
    let filled = c.start_state-state.ensures f c.requires in
    let p = err_from_is_err_and c.from_residual.result c.from_residual.ensures.1 in
    rw p.1
    (sym (ap sits_as (laid_refused f s _ _ _ c.args.count c.requires filled.forms c.lay_out.result
    (begun f s c.args.count _ c.lay_out.result _ _ filled c.lay_out.ensures.laid) c.args.n p.0
    (c.in_err-lay_out.was ∙ ap Err (sym p.2)))))

pub returns-then-count-n : goal.returns-then-count-n
returns-then-count-n c =
    let f = c.args.frames.now in
    let s = c.args.starts.now in
    let filled = c.start_state-state.ensures f c.requires in
    sym (ap sits_as (laid_absent f s _ _ _ c.args.count c.requires filled.forms c.lay_out.result
    (begun f s c.args.count _ c.lay_out.result _ _ filled c.lay_out.ensures.laid) c.args.n c.in_ok-lay_out.was (omega arith)))

pub returns : goal.returns
returns c =
    let f = c.args.frames.now in
    let s = c.args.starts.now in
    let filled = c.start_state-state.ensures f c.requires in
    let at = laid_at f s _ _ _ c.args.count c.requires filled.forms c.lay_out.result
    (begun f s c.args.count _ c.lay_out.result _ _ filled c.lay_out.ensures.laid) c.args.n c.in_ok-lay_out.was (omega arith) in
    ap (λ (a : ℕ). Ok (record { 0 = a })) (c.address_of.ensures ∙ add_zero _) ∙ sym (ap sits_as at)
