-- `patterns::shapes::trampoline_shape` meets its contract: each way out is a way in which the definition has none, or what its fold
-- leaves.
use mathlib.Core.Path.{◌≡◌, sym, subst, ap, ◌∙◌}
use mathlib.Core.Bool.{true, false}
use borrow.Author.Tests.{eqb-true, eqb-false}
use Rattle.std.specs.Bool.{then_some}
use Rattle.laws.proofs.Tests.{true_false}
use Rattle.rules.specs.declared.Place.{Place}
use Rattle.rules.specs.Names.{context_at}
use Rattle.rules.specs.Rewriting.{references}
use Rattle.slots.specs.Slots.{Slots, program_of}
use Rattle.patterns.specs.Matches.{JumpFound, LandingFound, OpeningFound, TrampolineBegins}
use Rattle.patterns.proofs.Instructions.{carried_target, sound_any}
use Rattle.patterns.proofs.Mentions.{means, references_by}
use Rattle.patterns.proofs.Naming.{refers_to}
use Rattle.patterns.proofs.Folds.{opening_found, jump_found, jump_none, landing_found, landing_none, trampoline_no_last, trampoline_no_label, told_by}
use Rattle.patterns.proofs.Trampolines.{no_branch_to_t, no_jump_to_s, not_once, branch_refers, skip_refers, all_found}
use Rattle.slots.specs.State.{forms_in, carry_in, owners_in, offsets_in, table_of}
use Rattle.patterns.proofs.shapes.trampoline_shape.Goals as goal
use Rattle.patterns.proofs.shapes.trampoline_shape.Goals.{then-names_bare, else-names_bare, then-names_bare-2, else-names_bare-2}

pub returns-in_err-last : goal.returns-in_err-last
returns-in_err-last c =
    let t : Slots = table_of c.args.frames.now c.args.state.now c.args.count in
    let f = c.in_ok-skip in
    let opens : OpeningFound t c.args.form c.args.at.0 f.skip.0 f.t.0 f.field-0-2 =
    opening_found t c.args.at.0 c.args.form c.in_ok-skip.was
    (c.opening_at.ensures (carry_in c.args.state.now) (owners_in c.args.state.now) (offsets_in c.args.state.now)) in
    subst (TrampolineBegins t c.args.form c.args.at.0) (sym c.from_residual-in_err-last.ensures)
    (trampoline_no_last c.args.form (program_of t) c.args.at.0 f.skip.0 opens.jumps.next_is f.t.0 opens.lands.next_is
    (jump_none t f.t.0 c.in_err-last.was
    (c.jump_after.ensures (carry_in c.args.state.now) (owners_in c.args.state.now) (offsets_in c.args.state.now))))

pub returns-in_err-s : goal.returns-in_err-s
returns-in_err-s c =
    let t : Slots = table_of c.args.frames.now c.args.state.now c.args.count in
    let f = c.in_ok-skip in
    let opens : OpeningFound t c.args.form c.args.at.0 f.skip.0 f.t.0 f.field-0-2 =
    opening_found t c.args.at.0 c.args.form c.in_ok-skip.was
    (c.opening_at.ensures (carry_in c.args.state.now) (owners_in c.args.state.now) (offsets_in c.args.state.now)) in
    let jumps : JumpFound t f.t.0 c.in_ok-last.last.0 =
    jump_found t f.t.0 c.in_ok-last.was
    (c.jump_after.ensures (carry_in c.args.state.now) (owners_in c.args.state.now) (offsets_in c.args.state.now)) in
    subst (TrampolineBegins t c.args.form c.args.at.0) (sym c.from_residual-in_err-s.ensures)
    (trampoline_no_label c.args.form (program_of t) c.args.at.0 f.skip.0 opens.jumps.next_is f.t.0 opens.lands.next_is
    c.in_ok-last.last.0 jumps.next_is
    (landing_none t c.in_ok-last.last.0 c.in_err-s.was
    (c.landing_after.ensures (carry_in c.args.state.now) (owners_in c.args.state.now) (offsets_in c.args.state.now))))

pub names_bare-requires : goal.names_bare-requires
names_bare-requires c =
    let t : Slots = table_of c.args.frames.now c.args.state.now c.args.count in
    let f = c.in_ok-skip in
    let opens : OpeningFound t c.args.form c.args.at.0 f.skip.0 f.t.0 f.field-0-2 =
    opening_found t c.args.at.0 c.args.form c.in_ok-skip.was
    (c.opening_at.ensures (carry_in c.args.state.now) (owners_in c.args.state.now) (offsets_in c.args.state.now)) in
    let m = opens.branches in
    (c.requires.0.held, c.requires.2, carried_target t c.requires.0 c.args.at.0 m.inside m.kind m.transfer, c.requires.1.beside.full)

pub names_bare-requires-then-names_bare : goal.names_bare-requires-then-names_bare
names_bare-requires-then-names_bare c =
    let t : Slots = table_of c.args.frames.now c.args.state.now c.args.count in
    let f = c.in_ok-skip in
    let opens : OpeningFound t c.args.form c.args.at.0 f.skip.0 f.t.0 f.field-0-2 =
    opening_found t c.args.at.0 c.args.form c.in_ok-skip.was
    (c.opening_at.ensures (carry_in c.args.state.now) (owners_in c.args.state.now) (offsets_in c.args.state.now)) in
    let m = opens.jumps.moves in
    (c.requires.0.held, m.inside, carried_target t c.requires.0 f.skip.0 m.inside m.kind m.transfer, c.requires.1.beside.full)

pub references-requires : goal.references-requires
references-requires c =
    (c.requires.1.beside.full, λ others. sound_any _ _ _ _ _ _ (offsets_in c.args.state.now) others c.requires.0)

-- a name that is not bare, a second reference, or all that is asked
pub returns : goal.returns
returns c =
    let t : Slots = table_of c.args.frames.now c.args.state.now c.args.count in
    let f = c.in_ok-skip in
    let opens : OpeningFound t c.args.form c.args.at.0 f.skip.0 f.t.0 f.field-0-2 =
    opening_found t c.args.at.0 c.args.form c.in_ok-skip.was
    (c.opening_at.ensures (carry_in c.args.state.now) (owners_in c.args.state.now) (offsets_in c.args.state.now)) in
    let jumps : JumpFound t f.t.0 c.in_ok-last.last.0 =
    jump_found t f.t.0 c.in_ok-last.was
    (c.jump_after.ensures (carry_in c.args.state.now) (owners_in c.args.state.now) (offsets_in c.args.state.now)) in
    let lands : LandingFound t c.in_ok-last.last.0 c.in_ok-s.s.0 c.in_ok-s.field-0-1 =
    landing_found t c.in_ok-last.last.0 c.in_ok-s.was
    (c.landing_after.ensures (carry_in c.args.state.now) (owners_in c.args.state.now) (offsets_in c.args.state.now)) in
    let found : Place × Place × Place × Place = (f.skip, f.t, c.in_ok-last.last, c.in_ok-s.s) in
    let to_t =
    c.names_bare.ensures f.field-0-2 (branch_refers opens jumps lands c.requires.0 (λ k. (c.type_inv.frames k).fits)
    c.args.links.now c.requires.1)
    (forms_in c.args.state.now) (offsets_in c.args.state.now) c.requires.0 opens.branches.kind opens.branches.transfer in
    elim c.if-names_bare.branch [
      | then-names_bare v ↦
          let to_s =
          v.names_bare-then-names_bare.ensures c.in_ok-s.field-0-1
          (skip_refers opens jumps lands c.requires.0 (λ k. (c.type_inv.frames k).fits) c.args.links.now c.requires.1)
          (forms_in c.args.state.now) (offsets_in c.args.state.now) c.requires.0 opens.jumps.moves.kind opens.jumps.moves.transfer in
          elim c.if-names_bare-2.branch [
            | then-names_bare-2 w ↦
                let here = context_at (program_of t) f.t.0 in
                let counted : w.references.result ≡ references here f.field-0-2 (program_of t) =
                w.references.ensures (means t here f.field-0-2) (offsets_in c.args.state.now)
                (refers_to t c.requires.0 (λ k. (c.type_inv.frames k).fits) c.args.links.now c.requires.1 f.t.0 f.field-0-2
                opens.lands.inside opens.lands.is)
                ∙ sym (references_by t here f.field-0-2) in
                told_by (TrampolineBegins t c.args.form c.args.at.0) c.if-names_bare-2.bare_once found c.then_some.ensures
                (λ (e : c.if-names_bare-2.bare_once ≡ true). all_found opens jumps lands c.requires.0.held (sym to_t ∙ v.if-names_bare.true)
                (sym to_s ∙ sym v.value-is ∙ w.if-names_bare-2.true) (sym counted ∙ eqb-true _ 1 (sym w.bare_once-is ∙ e)))
                (λ (e : c.if-names_bare-2.bare_once ≡ false). not_once opens jumps lands (λ q. eqb-false _ 1 (sym w.bare_once-is ∙ e) (counted ∙ q)))
            | else-names_bare-2 w ↦
                subst (TrampolineBegins t c.args.form c.args.at.0) (sym (c.then_some.ensures ∙ ap (λ b. then_some b found) (w.bare_once-is ∙ w.if-names_bare-2.false)))
                (no_jump_to_s opens jumps lands (sym to_s ∙ sym v.value-is ∙ w.if-names_bare-2.false))
          ]
      | else-names_bare v ↦
          elim c.if-names_bare-2.branch [
            | then-names_bare-2 w ↦ true_false (sym w.if-names_bare-2.true ∙ v.value-is ∙ v.if-names_bare.false)
            | else-names_bare-2 w ↦
                subst (TrampolineBegins t c.args.form c.args.at.0) (sym (c.then_some.ensures ∙ ap (λ b. then_some b found) (w.bare_once-is ∙ w.if-names_bare-2.false)))
                (no_branch_to_t opens jumps lands (sym to_t ∙ v.if-names_bare.false))
          ]
    ]
