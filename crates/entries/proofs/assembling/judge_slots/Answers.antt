-- `entries::assembling::judge_slots` meets its contract.
use mathlib.Core.Path.{sym, ap, ◌∙◌}
use lib.ListN.{length}
use Rattle.std.proofs.lemmas.Result.{err_from_is_err_and}
use Rattle.slots.specs.Slots.{program_of}
use Rattle.rules.specs.Answers.{is_ok}
use Rattle.rules.specs.Judging.{judge}
use Rattle.env.proofs.Programs.{length_program}
use Rattle.fitting.proofs.Rooms.{leaves_refused}
use Rattle.finishing.proofs.Ended.{good_ok, bad_no}
use Rattle.entries.proofs.Phases.{leaves_same}
use Rattle.slots.specs.State.{table_of}
use Rattle.entries.proofs.assembling.judge_slots.Goals as goal

pub finish-requires : goal.finish-requires
finish-requires c =
    let told = c.in_ok-judge.was in
    let v = c.judge.ensures.judged_as in
    let p = program_of (table_of c.args.frames.now c.args.state.now c.args.count) in
    (v.ready told, ap is_ok (sym (v.encodes told)) ∙ good_ok (judge p) (sym told ∙ v.answer))

pub returns-in_err-judge : goal.returns-in_err-judge
returns-in_err-judge c =
    let r = err_from_is_err_and c.from_residual.result c.from_residual.ensures.1 in
    let p = program_of (table_of c.args.frames.now c.args.state.now c.args.count) in
    rw (r.1, r.2)
    (leaves_refused (judge p) _ (length p) c.args.image.now (bad_no (judge p) _ (sym c.in_err-judge.was ∙ c.judge.ensures.judged_as.answer)))

pub returns : goal.returns
returns c =
    let t = table_of c.args.frames.now c.args.state.now c.args.count in
    leaves_same c.args.count (length (program_of t)) (length c.args.image.now) _ (judge (program_of t))
    (sym (length_program t)) (sym (c.judge.ensures.judged_as.encodes c.in_ok-judge.was)) c.finish.ensures
