-- `patterns::shapes::opening_at` meets its contract: where one of the three is missing, neither shape is there.
use mathlib.Core.Path.{sym, subst, ◌∙◌}
use mathlib.Core.List.{[]}
use Rattle.laws.proofs.Options.{said_none}
use Rattle.rules.specs.Rewriting.{branch}
use Rattle.slots.specs.Slots.{Slots, slots, program_of}
use Rattle.patterns.specs.Targets.{stands_at}
use Rattle.patterns.specs.Matches.{JumpFound, OpeningIs}
use Rattle.patterns.proofs.Folds.{transfer_known, branch_slot, jump_found, jump_none, landing_found, landing_none, inverted_no_branch, inverted_no_jump, inverted_no_label, trampoline_no_branch, trampoline_no_skip, trampoline_no_target}
use Rattle.slots.specs.State.{starts_in, forms_in}
use Rattle.patterns.proofs.shapes.opening_at.Goals as goal

pub branch_at-requires : goal.branch_at-requires
branch_at-requires c = (c.requires.0, transfer_known c.args.form c.requires.2)

pub returns-then-not-branch_at : goal.returns-then-not-branch_at
returns-then-not-branch_at c carry owners offsets =
    let t : Slots = slots c.args.frames.now (starts_in c.args.state.now) c.args.count (forms_in c.args.state.now) carry owners offsets in
    let p = program_of t in
    let e = said_none (branch c.args.form (stands_at t c.args.at.0))
    (sym (c.branch_at.ensures carry owners offsets) ∙ c.if-not-branch_at.true) in
    (λ to. inverted_no_branch c.args.form to p c.args.at.0 e, trampoline_no_branch c.args.form p c.args.at.0 e)

pub returns-in_err-jump : goal.returns-in_err-jump
returns-in_err-jump c carry owners offsets =
    let t : Slots = slots c.args.frames.now (starts_in c.args.state.now) c.args.count (forms_in c.args.state.now) carry owners offsets in
    let p = program_of t in
    let e = jump_none t c.args.at.0 c.in_err-jump.was (c.jump_after.ensures carry owners offsets) in
    subst (OpeningIs t c.args.form c.args.at.0) (sym c.from_residual.ensures)
    (λ to. inverted_no_jump c.args.form to p c.args.at.0 e, trampoline_no_skip c.args.form p c.args.at.0 e)

pub landing_after-requires : goal.landing_after-requires
landing_after-requires c =
    let t : Slots = slots c.args.frames.now (starts_in c.args.state.now) c.args.count (forms_in c.args.state.now) [] [] [] in
    let j : JumpFound t c.args.at.0 c.in_ok-jump.jump.0 = jump_found t c.args.at.0 c.in_ok-jump.was (c.jump_after.ensures [] [] []) in
    (c.requires.0, j.moves.inside)

pub returns-in_err-label : goal.returns-in_err-label
returns-in_err-label c carry owners offsets =
    let t : Slots = slots c.args.frames.now (starts_in c.args.state.now) c.args.count (forms_in c.args.state.now) carry owners offsets in
    let p = program_of t in
    let j = c.in_ok-jump.jump.0 in
    let jumps : JumpFound t c.args.at.0 j = jump_found t c.args.at.0 c.in_ok-jump.was (c.jump_after.ensures carry owners offsets) in
    let e = landing_none t j c.in_err-label.was (c.landing_after.ensures carry owners offsets) in
    subst (OpeningIs t c.args.form c.args.at.0) (sym c.from_residual-in_err-label.ensures) (
      λ to. inverted_no_label c.args.form to p c.args.at.0 j jumps.next_is e,
      trampoline_no_target c.args.form p c.args.at.0 j jumps.next_is e,
    )

pub returns : goal.returns
returns c carry owners offsets =
    let t : Slots = slots c.args.frames.now (starts_in c.args.state.now) c.args.count (forms_in c.args.state.now) carry owners offsets in
    let b =
    branch_slot t c.requires.0 c.args.at.0 c.requires.1 c.args.form c.requires.2
    (sym (c.branch_at.ensures carry owners offsets) ∙ c.if-not-branch_at.false) in
    record {
      branches = b.0;
      form = b.1;
      is = b.2;
      jumps = jump_found t c.args.at.0 c.in_ok-jump.was (c.jump_after.ensures carry owners offsets);
      lands = landing_found t c.in_ok-jump.jump.0 c.in_ok-label.was (c.landing_after.ensures carry owners offsets);
    }
