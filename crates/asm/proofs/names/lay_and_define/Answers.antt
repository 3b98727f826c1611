-- `asm::names::lay_and_define` meets its contract: the variables are judged where the positions fit.
use mathlib.Core.Path.{sym, ◌∙◌}
use Rattle.std.proofs.lemmas.Result.{err_from_is_err_and}
use Rattle.slots.specs.Slots.{Slots, slots, program_of}
use Rattle.env.proofs.Filled.{filled_laid}
use Rattle.env.proofs.Telling.{named_now}
use Rattle.asm.proofs.Passing.{fit_refused, prepared_refused, prepared_last}
use Rattle.slots.specs.State.{starts_in, forms_in}
use Rattle.asm.proofs.names.lay_and_define.Goals as goal

pub returns-in_err-lay_out : goal.returns-in_err-lay_out
returns-in_err-lay_out c carry owners offsets once =
    let t : Slots = slots c.args.frames.now (starts_in c.args.state.now) c.args.count (forms_in c.args.state.now) carry owners offsets in
    let p = err_from_is_err_and c.from_residual.result c.from_residual.ensures.1 in
    rw (p.1, p.2) (prepared_refused t _ _ _ _ (fit_refused (program_of t) once _
    (sym c.in_err-lay_out.was ∙ (c.lay_out.ensures.laid carry owners offsets).answer)))

pub define_all-requires : goal.define_all-requires
define_all-requires c =
    record {
      held = (c.requires.0, c.requires.2, c.requires.3);
      any = λ carry owners offsets.
          let t : Slots = slots c.args.frames.now (starts_in c.args.state.now) c.args.count (forms_in c.args.state.now) carry owners offsets in
          filled_laid t _ _ _ c.in_ok-lay_out.was _ _
          (named_now t c.requires.0 (λ i. (c.type_inv.frames i).fits) _ (c.requires.4 carry owners offsets).context)
          (c.lay_out.ensures.laid carry owners offsets);
    }

pub returns : goal.returns
returns c carry owners offsets once =
    let t : Slots = slots c.args.frames.now (starts_in c.args.state.now) c.args.count (forms_in c.args.state.now) carry owners offsets in
    prepared_last t _ _ _ _ _ _ _ c.requires.3 (c.requires.4 carry owners offsets) once c.in_ok-lay_out.was
    (c.lay_out.ensures.laid carry owners offsets)
    (c.define_all.ensures.defined carry owners offsets).0 (c.define_all.ensures.defined carry owners offsets).1
