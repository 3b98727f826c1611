-- `entries::optimizing::optimize_jumps` meets its contract, on every input: the list's room is never too short.
use mathlib.Core.Path.{sym, ap}
use Prim.Native.Nat.{ℕ}
use lib.ListN.{length-replicate}
use Rattle.std.proofs.lemmas.Result.{err_from_is_err_and}
use Rattle.entries.proofs.Listed.{answer_from, stems_answered}
use Rattle.entries.proofs.optimizing.optimize_jumps.Goals as goal

pub returns-in_err-sizes : goal.returns-in_err-sizes
returns-in_err-sizes c =
    let p = err_from_is_err_and c.from_residual.result c.from_residual.ensures.1 in
    rw (p.1, p.2)
    (stems_answered c.args.asked c.args.listing.now _ _ _ _ _ _ _ _ (length-replicate {A = ℕ} 2048 0) (sym (ap answer_from c.in_err-sizes.was))
    c.optimize_stems.ensures)

pub returns : goal.returns
returns c =
    stems_answered c.args.asked c.args.listing.now _ _ _ _ _ _ _ _ (length-replicate {A = ℕ} 2048 0) (sym (ap answer_from c.in_ok-sizes.was))
    c.optimize_stems.ensures
