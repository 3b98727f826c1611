-- `store::judging::none_holds` meets its contract: it tests each place from `from` on.
use Rattle.std.proofs.Common.{◌-◌, ◌≡◌, ℕ, true, false, refl, not, rules, arith, drop}
use Rattle.std.proofs.lemmas.Iterator.{cases_from_all, YieldsList-from_range}
use Rattle.laws.specs.Lists.{every}
use Rattle.store.specs.Store.{is_of, none_holds}
use Rattle.store.specs.Rooms.{setting_at, store_in}
use Rattle.store.proofs.PlaceByPlace.{none_left, holds_from}
use Rattle.store.proofs.Ranges.{decided}
use Rattle.store.proofs.judging.none_holds.Goals as goal

pub returns : goal.returns
unfolding none_holds every
returns c =
    let room = c.args.room.now in
    let t = λ (k : ℕ). not (is_of c.args.family c.args.edition (setting_at room k)) in
    let f = c.args.family in
    let e = c.args.edition in
    let n = c.args.from in
    decided (λ k. none_holds f e (drop k (store_in room))) t 32 (λ k l. holds_from room k l f e) (rw (none_left room 32 (omega arith)))
    n (omega arith) _
    (cases_from_all _ _ _ (λ k. t k ≡ true) (λ k. t k ≡ false) c.all.ensures.ran (YieldsList-from_range n 32 (32 - n) refl refl)
    (λ x q k. search rules) (λ x q k. search rules))
