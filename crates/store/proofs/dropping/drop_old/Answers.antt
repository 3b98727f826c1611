-- `store::dropping::drop_old` meets its contract: the store is judged, then changed.
use mathlib.Core.Path.{◌∙◌, ap}
use Rattle.store.specs.Store.{drop_old}
use Rattle.store.proofs.JudgedFirst.{long_enough, asked_then, refused_first}
use Rattle.std.proofs.lemmas.Result.{err_from_is_err_and}
use Rattle.std.specs.Prelude.{Err}
use Rattle.store.proofs.dropping.drop_old.Goals as goal

pub drop_from-requires : goal.drop_from-requires
drop_from-requires c =
    long_enough c.args.room.now c.judge.result c.judge.ensures c.in_ok-judge.was

pub returns-in_err-judge : goal.returns-in_err-judge
returns-in_err-judge c =
    let a = c.args in
    let p = err_from_is_err_and c.from_residual.result c.from_residual.ensures.1 in
    let e = refused_first a.room.now c.judge.result c.judge.ensures (λ ss. drop_old a.family ss) _ c.in_err-judge.was in
    record { value = rw e (p.1 ∙ ap Err p.2); room_after = rw e }

pub returns : goal.returns
returns c =
    let a = c.args in
    let g = c.in_ok-judge.was in
    let e = asked_then a.room.now c.judge.result c.judge.ensures (λ ss. drop_old a.family ss) g in
    record { value = rw e c.drop_from.ensures.answered; room_after = rw e c.drop_from.ensures.room_is }
