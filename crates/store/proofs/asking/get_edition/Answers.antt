-- `store::asking::get_edition` meets its contract: the store is judged, then asked.
use mathlib.Core.Path.{sym, ◌∙◌, ap}
use Rattle.store.specs.Store.{get}
use Rattle.store.specs.Rooms.{found_as}
use Rattle.store.proofs.JudgedFirst.{long_enough, asked_then, refused_first}
use Rattle.std.proofs.lemmas.Result.{err_from_is_err_and}
use Rattle.std.specs.Prelude.{Err}
use Rattle.store.proofs.asking.get_edition.Goals as goal

pub ask-requires : goal.ask-requires
ask-requires c =
    long_enough c.args.room.now c.judge.result c.judge.ensures c.in_ok-judge.was

pub returns-in_err-judge : goal.returns-in_err-judge
returns-in_err-judge c =
    let a = c.args in
    let p = err_from_is_err_and c.from_residual.result c.from_residual.ensures.1 in
    let e =
    refused_first a.room.now c.judge.result c.judge.ensures (λ ss. get a.family a.edition ss) _ c.in_err-judge.was in
    p.1 ∙ ap Err p.2 ∙ sym (ap found_as e)

pub returns : goal.returns
returns c =
    let a = c.args in
    let e =
    asked_then a.room.now c.judge.result c.judge.ensures (λ ss. get a.family a.edition ss) c.in_ok-judge.was in
    c.ask.ensures
    ∙ sym (ap found_as e)
