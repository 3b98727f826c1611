-- `layout::advance` meets its contract: an org by its location, an instruction by its form, any other statement by its bytes.
use mathlib.Core.Path.{sym, ap, ◌∙◌}
use mathlib.Core.List.{[], ◌∷◌}
use native.Mathlib.Omega.{arith}
use Rattle.rules.specs.Forms.{size_at}
use Rattle.rules.specs.Programs.{org}
use Rattle.slots.specs.declared.Slot.TheVariants.{Holds}
use Rattle.slots.proofs.Slots.{size_instr}
use Rattle.slots.proofs.Stands.{form_stands}
use Rattle.env.proofs.Standing.{not_kind, org_stands}
use Rattle.env.proofs.Positions.{org_back, org_on, size_moves}
use borrow.Enum.Refused.{opened}
use Rattle.env.proofs.layout.advance.Goals as goal

-- ---- a statement as it was read, but an org
pub returns-in_default : goal.returns-in_default
returns-in_default c =
    record {
      within = c.past-in_default.ensures.within;
      moved = λ carry owners offsets.
          c.past-in_default.ensures.moved
          ∙ size_moves c.args.at.0 c.args.from.0 c.size_at.result _ (c.size_at.ensures carry owners offsets) c.requires.2
          (not_kind (c.slot_at.ensures carry owners offsets) c.in-Holds.statement c.in-Holds.is (0 ∷ 1 ∷ 2 ∷ 3 ∷ 5 ∷ 6 ∷ 7 ∷ [])
          (opened c.in_default.in_default-own.keys2) 4 tt);
    }

-- ---- an org
pub returns-then-location-from : goal.returns-then-location-from
returns-then-location-from c =
    record {
      within = omega arith;
      moved = λ carry owners offsets.
          let is = org_stands (c.slot_at.ensures carry owners offsets) c.in-Org.l (c.in-Holds.is ∙ ap Holds c.in-Org.is) in
          sym
          (org_back c.args.at.0 c.args.from.0 c.from-location.result _ (is ∙ ap org (sym c.from-location.ensures)) c.if-location-from.true);
    }

pub returns-else-location-from : goal.returns-else-location-from
returns-else-location-from c =
    record {
      within = omega (arith, c.from-location.ensures);
      moved = λ carry owners offsets.
          let is = org_stands (c.slot_at.ensures carry owners offsets) c.in-Org.l (c.in-Holds.is ∙ ap Holds c.in-Org.is) in
          sym
          (org_on c.args.at.0 c.args.from.0 c.from-location.result _ (is ∙ ap org (sym c.from-location.ensures)) c.if-location-from.false);
    }

-- ---- an instruction
pub returns-in-Form : goal.returns-in-Form
returns-in-Form c =
    record {
      within = c.past.ensures.within;
      moved = λ carry owners offsets.
          let h = c.slot_at.ensures carry owners offsets in
          let one = form_stands _ c.args.at.0 c.slot_at.result h c.in-Form.form c.in-Form.is in
          let size = c.size.ensures ∙ ap size_at (h.form c.in-Form.form c.in-Form.is) ∙ sym (size_instr c.args.from.0 _ c.args.at.0 one) in
          c.past.ensures.moved ∙ size_moves c.args.at.0 c.args.from.0 c.size.result _ size c.requires.2 (λ e. omega arith);
    }
