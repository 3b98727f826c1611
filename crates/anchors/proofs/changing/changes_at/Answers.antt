-- `anchors::changing::changes_at` meets its contract: the form, then the operands' worth, then where the statement ends.
use mathlib.Core.Path.{◌≡◌, sym, ap, ◌∙◌}
use mathlib.Core.Bool.{Bool, ◌&&◌}
use Prim.Native.Nat.{suc}
use lib.Dec.{eqb}
use lib.ListN.{get_or}
use borrow.Author.Tests.{ne_eqb}
use Rattle.rules.specs.Forms.{not1}
use Rattle.image.specs.Tables.{tables_of}
use Rattle.patterns.specs.Targets.{stands_at, form_in}
use Rattle.anchors.proofs.Jumps.{changes_is}
use Rattle.slots.specs.State.{carry_in, owners_in, offsets_in}
use Rattle.anchors.proofs.changing.changes_at.Goals as goal
use Rattle.anchors.proofs.changing.changes_at.Goals.{then-form_at-eq-NOT1, else-form_at-eq-NOT1}
use Rattle.laws.proofs.Tests.{true_false}

pub returns-then-valued_at : goal.returns-then-valued_at
returns-then-valued_at c =
    let d = tables_of c.args.frames.now c.args.state.now c.args.count c.args.links.now c.args.values.now c.args.positions.now in
    let meeting = eqb (get_or c.args.positions.now (suc c.args.j.0) 0) (get_or c.args.positions.now c.args.at.0 0) in
    elim c.if-form_at-eq-NOT1.branch [
      | then-form_at-eq-NOT1 w ↦
          let is_not1 : form_in (stands_at d.slots c.args.j.0) ≡ not1 =
          sym (c.form_at.ensures (carry_in c.args.state.now) (owners_in c.args.state.now) (offsets_in c.args.state.now))
          ∙ w.if-form_at-eq-NOT1.true in
          c.meets.ensures
          ∙ sym
          (changes_is d c.requires.0 c.args.at.0 c.args.j.0 c.requires.1 c.requires.2 is_not1
          ∙ ap (λ (b : Bool). b && meeting) (sym w.valued_at.ensures ∙ sym w.value-is ∙ c.if-valued_at.true))
      | else-form_at-eq-NOT1 w ↦ true_false (sym c.if-valued_at.true ∙ w.value-is ∙ ne_eqb _ _ w.if-form_at-eq-NOT1.false)
    ]
