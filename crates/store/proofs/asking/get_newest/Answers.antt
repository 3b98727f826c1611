-- `store::asking::get_newest` meets its contract: the store is judged, then asked for the edition with the highest number.
use mathlib.Core.Path.{sym, ◌∙◌, ap}
use Prim.Native.Nat.{ℕ}
use Rattle.store.specs.Store.{get, get_newest}
use Rattle.store.specs.Rooms.{store_in, found_as}
use Rattle.store.proofs.JudgedFirst.{long_enough, asked_then, refused_first}
use Rattle.std.proofs.lemmas.Result.{err_from_is_err_and}
use Rattle.std.specs.Prelude.{Err}
use Rattle.store.proofs.asking.get_newest.Goals as goal

pub newest_of-requires : goal.newest_of-requires
newest_of-requires c =
    long_enough c.args.room.now c.judge.result c.judge.ensures c.in_ok-judge.was

pub ask-requires : goal.ask-requires
ask-requires c =
    long_enough c.args.room.now c.judge.result c.judge.ensures c.in_ok-judge.was

pub returns-in_err-judge : goal.returns-in_err-judge
returns-in_err-judge c =
    let a = c.args in
    let p = err_from_is_err_and c.from_residual.result c.from_residual.ensures.1 in
    let e =
    refused_first a.room.now c.judge.result c.judge.ensures (λ ss. get_newest a.family ss) _ c.in_err-judge.was in
    p.1 ∙ ap Err p.2 ∙ sym (ap found_as e)

pub returns : goal.returns
unfolding get_newest
returns c =
    let a = c.args in
    let e =
    asked_then a.room.now c.judge.result c.judge.ensures (λ ss. get_newest a.family ss) c.in_ok-judge.was in
    c.ask.ensures
    ∙ ap (λ (e : ℕ). found_as (get a.family e (store_in a.room.now))) c.newest_of.ensures
    ∙ sym (ap found_as e)
