-- `store::judging::all_in_range` meets its contract: it tests each place.
use Rattle.std.proofs.Common.{◌≡◌, ℕ, true, false, refl, rules, arith, drop}
use Rattle.std.proofs.lemmas.Iterator.{cases_from_all, YieldsList-from_range}
use Rattle.laws.specs.Lists.{every}
use Rattle.store.specs.Store.{in_range}
use Rattle.store.specs.Rooms.{setting_at, store_in}
use Rattle.store.proofs.PlaceByPlace.{none_left, every_from}
use Rattle.store.proofs.Ranges.{decided}
use Rattle.store.proofs.judging.all_in_range.Goals as goal

pub returns : goal.returns
unfolding every
returns c =
    let room = c.args.room.now in
    let t = λ (k : ℕ). in_range (setting_at room k) in
    decided (λ k. every in_range (drop k (store_in room))) t 32 (λ k l. every_from room k l in_range) (rw (none_left room 32 (omega arith)))
    0 (omega arith) _
    (cases_from_all _ _ _ (λ k. t k ≡ true) (λ k. t k ≡ false) c.all.ensures.ran (YieldsList-from_range 0 32 32 refl refl)
    (λ x q k. search rules) (λ x q k. search rules))
