-- `optimize::shrinking::try_br_then_jmp` meets its contract.
use mathlib.Core.Path.{refl, sym, subst, ap, ◌∙◌}
use lib.ListN.{get_or}
use Rattle.rules.specs.Forms.{br, jmp}
use Rattle.rules.specs.Programs.{kind_of}
use Rattle.slots.specs.Slots.{Slots, slot_at, Positioned}
use Rattle.slots.specs.State.{table_of}
use Rattle.attempts.specs.Shrinks.{shrunk}
use Rattle.optimize.proofs.Tries.{tried_first, tried_second, tried_missed, still_deep, still_beside}
use Rattle.optimize.proofs.Shorter.{jump_for, br_alone, jmp_alone}
use Rattle.optimize.proofs.shrinking.try_br_then_jmp.Goals as goal

pub try_form-requires : goal.try_form-requires
try_form-requires c = (
  c.requires.0,
  c.requires.1,
  c.requires.2,
  c.requires.3,
  jump_for _ _ refl c.requires.4,
  c.requires.5,
  c.requires.6,
  br_alone.0,
  br_alone.1,
)

pub returns-then-try_form : goal.returns-then-try_form
returns-then-try_form c =
    tried_first (shrunk (table_of c.args.frames.now c.args.state.now c.args.count) c.args.at.0 br) (shrunk (table_of c.args.frames.now c.args.state.now c.args.count) c.args.at.0 jmp) c.try_form.ensures c.if-try_form.true

pub try_form-requires-else-try_form : goal.try_form-requires-else-try_form
try_form-requires-else-try_form c =
    let e = c.try_form.ensures in
    let same = e.kept c.if-try_form.false in (
      e.stands,
      still_deep same c.requires.1,
      c.requires.2,
      ap (λ (t : Slots). kind_of (slot_at t c.args.at.0)) same ∙ c.requires.3,
      jump_for _ _ refl (ap (λ (t : Slots). get_or t.forms c.args.at.0 0) same ∙ c.requires.4),
      still_beside same c.requires.5,
      subst (λ (t : Slots). Positioned t c.args.positions.now) (sym same) c.requires.6,
      jmp_alone.0,
      jmp_alone.1,
    )

pub returns-else-try_form : goal.returns-else-try_form
returns-else-try_form c =
    let e = c.try_form.ensures in
    let x = shrunk (table_of c.args.frames.now c.args.state.now c.args.count) c.args.at.0 br in
    tried_second x (λ t. shrunk t c.args.at.0 jmp) (tried_missed x e c.if-try_form.false)
    (e.kept c.if-try_form.false) c.try_form-else-try_form.ensures
