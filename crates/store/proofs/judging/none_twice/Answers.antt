-- `store::judging::none_twice` meets its contract: it tests each place.
use Rattle.std.proofs.Common.{◌≡◌, ◌+◌, ℕ, true, false, refl, rules, arith, drop}
use Rattle.std.proofs.lemmas.Iterator.{cases_from_all, YieldsList-from_range}
use Rattle.store.specs.Store.{alone, none_twice}
use Rattle.store.specs.Rooms.{setting_at, store_in}
use Rattle.store.proofs.PlaceByPlace.{none_left, twice_from}
use Rattle.store.proofs.Ranges.{decided}
use Rattle.store.proofs.judging.none_twice.Goals as goal

pub returns : goal.returns
unfolding none_twice
returns c =
    let room = c.args.room.now in
    let t = λ (k : ℕ). alone (setting_at room k) (drop (k + 1) (store_in room)) in
    decided (λ k. none_twice (drop k (store_in room))) t 32 (λ k l. twice_from room k l) (rw (none_left room 32 (omega arith)))
    0 (omega arith) _
    (cases_from_all _ _ _ (λ k. t k ≡ true) (λ k. t k ≡ false) c.all.ensures.ran (YieldsList-from_range 0 32 32 refl refl)
    (λ x q k. search rules) (λ x q k. search rules))
