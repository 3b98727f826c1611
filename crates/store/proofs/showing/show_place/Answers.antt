-- `store::showing::show_place` meets its contract: the store is judged, then shown.
use mathlib.Core.Path.{sym, ◌∙◌, ap}
use Rattle.rules.specs.Answers.{ok}
use Rattle.store.specs.Store.{place_at}
use Rattle.store.specs.Rooms.{shown_as}
use Rattle.store.proofs.JudgedFirst.{long_enough, asked_then, refused_first}
use Rattle.std.proofs.lemmas.Result.{err_from_is_err_and}
use Rattle.std.specs.Prelude.{Err, Ok}
use Rattle.store.proofs.showing.show_place.Goals as goal

pub show_at-requires : goal.show_at-requires
show_at-requires c =
    long_enough c.args.room.now c.judge.result c.judge.ensures c.in_ok-judge.was

pub returns-in_err-judge : goal.returns-in_err-judge
returns-in_err-judge c =
    let a = c.args in
    let p = err_from_is_err_and c.from_residual.result c.from_residual.ensures.1 in
    let e = refused_first a.room.now c.judge.result c.judge.ensures (λ ss. ok (place_at a.k ss)) _ c.in_err-judge.was in
    p.1 ∙ ap Err p.2 ∙ sym (ap shown_as e)

pub returns : goal.returns
returns c =
    let a = c.args in
    let e =
    asked_then a.room.now c.judge.result c.judge.ensures (λ ss. ok (place_at a.k ss)) c.in_ok-judge.was in
    ap Ok c.show_at.ensures ∙ sym (ap shown_as e)
