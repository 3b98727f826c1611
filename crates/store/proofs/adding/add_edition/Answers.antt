-- `store::adding::add_edition` meets its contract: the store is judged, then changed.
use mathlib.Core.Path.{◌∙◌, ap}
use Prim.Native.Nat.{ℕ}
use Rattle.store.specs.Store.{add, added}
use Rattle.store.specs.Rooms.{store_in, room_after}
use Rattle.store.proofs.JudgedFirst.{long_enough, asked_then, refused_first}
use Rattle.std.proofs.lemmas.Result.{err_from_is_err_and}
use Rattle.std.specs.Prelude.{Err}
use Rattle.store.proofs.adding.add_edition.Goals as goal

pub add_to-requires : goal.add_to-requires
add_to-requires c =
    long_enough c.args.room.now c.judge.result c.judge.ensures c.in_ok-judge.was

pub returns-in_err-judge : goal.returns-in_err-judge
returns-in_err-judge c =
    let a = c.args in
    let p = err_from_is_err_and c.from_residual.result c.from_residual.ensures.1 in
    let e = refused_first a.room.now c.judge.result c.judge.ensures (λ ss. add a.family ss) _ c.in_err-judge.was in
    record { value = rw e (p.1 ∙ ap Err p.2); room_after = rw e }

pub returns : goal.returns
returns c =
    let a = c.args in
    let ss = store_in a.room.now in
    let e = asked_then a.room.now c.judge.result c.judge.ensures (λ ss. add a.family ss) c.in_ok-judge.was in
    let w = ap (λ (n : ℕ). room_after a.room.now (add a.family ss) (added a.family n ss)) c.switches_of.ensures in
    record { value = rw e c.add_to.ensures.answered; room_after = rw e (c.add_to.ensures.room_is ∙ w) }
