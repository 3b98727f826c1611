-- `asm::names::find_names` meets its contract: names are found where none is defined twice.
use mathlib.Core.Path.{sym, ap, ◌∙◌}
use mathlib.Core.List.{[]}
use Rattle.std.specs.Prelude.{Err}
use Rattle.std.proofs.lemmas.Result.{err_from_is_err_and}
use Rattle.slots.specs.Slots.{Slots, slots, program_of}
use Rattle.env.specs.Tables.{Named}
use Rattle.env.proofs.Once.{one_at_most}
use Rattle.asm.proofs.Finds.{beside_of}
use Rattle.asm.proofs.Passing.{once_passes, named_of}
use Rattle.slots.specs.State.{starts_in, forms_in}
use Rattle.asm.proofs.names.find_names.Goals as goal

pub returns-in_err-no_name_twice-clause-any : goal.returns-in_err-no_name_twice-clause-any
returns-in_err-no_name_twice-clause-any c carry owners offsets =
    let t : Slots = slots c.args.frames.now (starts_in c.args.state.now) c.args.count (forms_in c.args.state.now) carry owners offsets in
    let p = err_from_is_err_and c.from_residual.result c.from_residual.ensures.1 in
    p.1 ∙ ap Err p.2 ∙ sym c.in_err-no_name_twice.was
    ∙ c.no_name_twice.ensures (program_of t) (named_of t _ _ _ (c.fill_names.ensures.filled carry owners offsets) (c.requires.2 carry owners offsets).0)

pub fill_links-requires : goal.fill_links-requires
fill_links-requires c =
    let t : Slots = slots c.args.frames.now (starts_in c.args.state.now) c.args.count (forms_in c.args.state.now) [] [] [] in
    let h : Named (program_of t) c.args.count c.fill_names.new.names c.args.contexts.now =
    named_of t _ _ _ (c.fill_names.ensures.filled [] [] []) (c.requires.2 [] [] []).0 in (
      c.requires.0,
      c.requires.1,
      one_at_most (program_of t) c.args.count _ _ h (once_passes (program_of t) (sym c.in_ok-no_name_twice.was
          ∙ c.no_name_twice.ensures (program_of t) h)),
    )

pub returns : goal.returns
returns c =
    record {
      any = λ carry owners offsets.
          let t : Slots = slots c.args.frames.now (starts_in c.args.state.now) c.args.count (forms_in c.args.state.now) carry owners offsets in
          sym c.in_ok-no_name_twice.was ∙ c.no_name_twice.ensures (program_of t) (named_of t _ _ _ (c.fill_names.ensures.filled carry owners offsets) (c.requires.2 carry owners offsets).0);
      beside = λ z. beside_of (slots c.args.frames.now (starts_in c.args.state.now) c.args.count (forms_in c.args.state.now) [] [] []) (c.requires.2 [] [] []).1 _ _ _ _ (c.fill_names.ensures.filled [] [] [])
          (c.requires.2 [] [] []).0 c.fill_links.ensures.room c.fill_links.ensures.by_index;
      links_len = c.fill_links.ensures.room;
    }
