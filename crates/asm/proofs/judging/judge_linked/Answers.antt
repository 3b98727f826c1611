-- `asm::judging::judge_linked` meets its contract: the refusal of positions or variables, or the encoding's verdict over the tables that
-- they filled.
use mathlib.Core.Path.{◌∙◌}
use Rattle.std.proofs.lemmas.Result.{err_from_is_err_and}
use Rattle.slots.specs.Slots.{Slots, slots}
use Rattle.asm.proofs.Ending.{ready_of, judged_refused, judged_last, as_verdict}
use Rattle.slots.specs.State.{starts_in, forms_in, carry_in, owners_in, offsets_in}
use Rattle.asm.proofs.judging.judge_linked.Goals as goal

pub encode_all-requires : goal.encode_all-requires
encode_all-requires c =
    let t : Slots =
    slots c.args.frames.now (starts_in c.args.state.now) c.args.count (forms_in c.args.state.now) (carry_in c.args.state.now)
    (owners_in c.args.state.now) (offsets_in c.args.state.now) in
    ready_of t _ _ _ c.requires.0 c.requires.1 (c.requires.6 (carry_in c.args.state.now) (owners_in c.args.state.now)
    (offsets_in c.args.state.now))
    ((c.lay_and_define.ensures (carry_in c.args.state.now) (owners_in c.args.state.now) (offsets_in c.args.state.now) c.requires.2).filled
    c.in_ok-lay_and_define.was)

pub returns-in_err-lay_and_define : goal.returns-in_err-lay_and_define
returns-in_err-lay_and_define c =
    let t : Slots =
    slots c.args.frames.now (starts_in c.args.state.now) c.args.count (forms_in c.args.state.now) (carry_in c.args.state.now)
    (owners_in c.args.state.now) (offsets_in c.args.state.now) in
    let p = err_from_is_err_and c.from_residual.result c.from_residual.ensures.1 in
    rw (p.1, p.2) (judged_refused t _ _ _ _ _ (c.lay_and_define.ensures (carry_in c.args.state.now) (owners_in c.args.state.now)
    (offsets_in c.args.state.now) c.requires.2) c.in_err-lay_and_define.was)

pub returns : goal.returns
returns c =
    let t : Slots =
    slots c.args.frames.now (starts_in c.args.state.now) c.args.count (forms_in c.args.state.now) (carry_in c.args.state.now)
    (owners_in c.args.state.now) (offsets_in c.args.state.now) in
    judged_last t _ _ _ _ c.requires.0 c.requires.1 (c.requires.6 (carry_in c.args.state.now) (owners_in c.args.state.now)
    (offsets_in c.args.state.now))
    ((c.lay_and_define.ensures (carry_in c.args.state.now) (owners_in c.args.state.now) (offsets_in c.args.state.now) c.requires.2).filled
    c.in_ok-lay_and_define.was)
    (c.encode_all.ensures ∙ as_verdict _)
