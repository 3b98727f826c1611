-- `store::dropping::clear_old` meets its contract: the places before k are cleared where they were old.
use mathlib.Core.Path.{refl, sym, ◌∙◌, ap}
use Prim.Native.Nat.{◌≤◌}
use native.Mathlib.Omega.{arith}
use borrow.Author.Rules.{rules}
use lib.ListN.{length}
use Rattle.store.specs.Store.{cleared}
use Rattle.store.specs.Rooms.{store_in, room_with}
use Rattle.store.proofs.Rewritten.{store_back, up_to_all, cleared_more}
use Rattle.store.proofs.RoomHolds.{length_store}
use Rattle.store.proofs.dropping.clear_old.Goals as goal

pub loop-k-init : goal.loop-k-init
loop-k-init c = (sym (store_back c.args.room.now (λ i. search rules) c.requires), refl)

pub loop-k-preserved : goal.loop-k-preserved
loop-k-preserved c =
    let l = c.loop-k in
    let e = cleared_more c.args.room.now c.args.family c.args.top l.k (omega arith) l.room l.invariant.0 in
    (c.clear_place.ensures ∙ e, c.clear_place.auto.room ∙ l.invariant.1)

pub returns : goal.returns
returns c =
    let l = c.loop-k in
    let a = c.args in
    let n : length (store_in a.room.now) ≤ l.k = omega (arith, length_store a.room.now) in
    l.invariant.0
    ∙ ap (room_with a.room.now) (up_to_all (λ s. cleared a.family a.top s) l.k (store_in a.room.now) n)
