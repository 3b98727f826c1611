-- `steps::entry::steps` meets its contract, on every input.
use native.Mathlib.Omega.{arith}
use Rattle.std.proofs.lemmas.Result.{err_from_is_err_and}
use Rattle.starting.specs.Begun.{accepted}
use Rattle.steps.proofs.Told.{counted_of, counted_no, told_refused, told_short, told_whole, lines_fit}
use Rattle.steps.proofs.entry.steps.Goals as goal

pub returns-then-out-rewrites : goal.returns-then-out-rewrites
returns-then-out-rewrites c =
    let h = counted_of c.args.asked (accepted c.args.listing.now) _ _ _ c.in_ok-count.was c.count_steps.ensures in
    told_short c.args.asked c.args.listing.now c.args.out.now h.0 h.1 _ h.3 _ h.2 (omega (arith, c.if-out-rewrites.true))

pub write_all-requires : goal.write_all-requires
write_all-requires c =
    let h = counted_of c.args.asked (accepted c.args.listing.now) _ _ _ c.in_ok-count.was c.count_steps.ensures in
    lines_fit c.args.asked c.args.listing.now c.args.out.now h.0 h.1 _ h.3 (omega (arith, c.if-out-rewrites.false))

pub returns-in_err-count : goal.returns-in_err-count
returns-in_err-count c =
    let p = err_from_is_err_and c.from_residual.result c.from_residual.ensures.1 in
    rw (p.1, p.2)
    (told_refused c.args.asked c.args.listing.now c.args.out.now _ (counted_no c.args.asked (accepted c.args.listing.now) _ _ c.in_err-count.was c.count_steps.ensures))

pub returns : goal.returns
returns c =
    let h = counted_of c.args.asked (accepted c.args.listing.now) _ _ _ c.in_ok-count.was c.count_steps.ensures in
    told_whole c.args.asked c.args.listing.now c.args.out.now h.0 h.1 _ h.3 _ (omega (arith, c.if-out-rewrites.false)) c.write_all.ensures
