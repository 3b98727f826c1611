-- `asm::judging::judge` meets its contract: 3 comes before all else.
use mathlib.Core.Path.{refl, sym, ◌∙◌}
use Rattle.std.proofs.lemmas.Result.{err_from_is_err_and}
use Rattle.slots.specs.Slots.{Slots, slots, program_of}
use Rattle.asm.proofs.Finds.{whole_placed}
use Rattle.asm.proofs.Passing.{twice_refused, once_passes, prepared_refused}
use Rattle.asm.proofs.Ending.{judged_refused}
use Rattle.slots.specs.State.{starts_in, forms_in, carry_in, owners_in, offsets_in}
use Rattle.asm.proofs.judging.judge.Goals as goal

pub judge_linked-requires : goal.judge_linked-requires
judge_linked-requires c =
    let t : Slots =
    slots c.args.frames.now (starts_in c.args.state.now) c.args.count (forms_in c.args.state.now) (carry_in c.args.state.now)
    (owners_in c.args.state.now) (offsets_in c.args.state.now) in (
      c.requires.0,
      c.requires.1,
      once_passes (program_of t) (sym c.in_ok-find_names.was ∙ c.find_names.ensures.any (carry_in c.args.state.now)
          (owners_in c.args.state.now) (offsets_in c.args.state.now)),
      c.find_names.ensures.beside c.in_ok-find_names.was,
      c.requires.3,
      c.requires.4,
      λ carry owners offsets. whole_placed (slots c.args.frames.now (starts_in c.args.state.now) c.args.count (forms_in c.args.state.now)
          carry owners offsets) (c.requires.5 carry owners offsets).1,
    )

pub returns-in_err-find_names-clause-judged_as : goal.returns-in_err-find_names-clause-judged_as
returns-in_err-find_names-clause-judged_as c =
    let t : Slots =
    slots c.args.frames.now (starts_in c.args.state.now) c.args.count (forms_in c.args.state.now) (carry_in c.args.state.now)
    (owners_in c.args.state.now) (offsets_in c.args.state.now) in
    let p = err_from_is_err_and c.from_residual.result c.from_residual.ensures.1 in
    let r = c.in_err-find_names.field-0.0 in
    rw (p.1, p.2) (judged_refused t _ _ _ _ r
    (prepared_refused t _ _ _ r (twice_refused (program_of t) r
    (sym c.in_err-find_names.was ∙ c.find_names.ensures.any (carry_in c.args.state.now) (owners_in c.args.state.now)
    (offsets_in c.args.state.now))))
    refl)
