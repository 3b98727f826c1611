-- `editions::optimize_under` meets its contract: what is asked of the store, then the run under it.
use mathlib.Core.Path.{◌≡◌, refl}
use Rattle.std.proofs.Common.{Ok, Err, rules}
use Rattle.std.proofs.lemmas.Result.{err_from_is_err_and}
use Rattle.store.specs.Rooms.{get_in, found_as}
use Rattle.editions.proofs.FoundFirst.{found_not, found_is, delivered}
use Rattle.editions.proofs.optimize_under.Goals as goal

-- what the store answers, by the answer that the code goes on with, however it comes to it
pub returns-in_err-found : goal.returns-in_err-found
returns-in_err-found c =
    let a = c.args in
    let x = get_in a.store.now a.family a.edition in
    let q : found_as x ≡ Err c.in_err-found.field-0.0 = search rules in
    let p = err_from_is_err_and c.from_residual.result c.from_residual.ensures.1 in
    rw (p.1, p.2) (delivered a.listing.now a.out.now a.image.now x (found_as x) _ _ _ refl
    (found_not a.listing.now a.out.now a.image.now _ _ q))

pub returns : goal.returns
returns c =
    let a = c.args in
    let x = get_in a.store.now a.family a.edition in
    let q : found_as x ≡ Ok c.in_ok-found.found = search rules in
    delivered a.listing.now a.out.now a.image.now x (found_as x) _ _ _ refl
    (found_is a.listing.now a.out.now a.image.now _ _ _ _ _ q c.optimize_jumps.ensures)
