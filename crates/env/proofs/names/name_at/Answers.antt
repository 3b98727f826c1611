-- `names::name_at` meets its contract: labels and variables define a name of two bytes, no other statement does.
use mathlib.Core.Path.{ap, ◌∙◌}
use mathlib.Core.Logic.{⊎_elim}
use Rattle.rules.specs.Programs.{as_name}
use Rattle.slots.specs.declared.Slot.TheVariants.{Holds}
use Rattle.env.proofs.Standing.{nameless, none_read, not_kind, label_stands, variable_stands}
use Rattle.env.proofs.Naming.{no_name, names_none, names_said}
use Rattle.env.proofs.Telling.{name_said_lem}
use borrow.Enum.Refused.{opened}
use Rattle.env.proofs.names.name_at.Goals as goal

pub returns-in_default : goal.returns-in_default
returns-in_default c carry owners offsets =
    let other = none_read (c.slot_at.ensures carry owners offsets) (opened c.in_default.in_default-own.keys2) in
    names_none _ (no_name _ (other 0) (other 1))

pub returns-in-Label : goal.returns-in-Label
unfolding as_name
returns-in-Label c carry owners offsets =
    let h = c.slot_at.ensures carry owners offsets in
    rw c.from.ensures
    (names_said _ c.in-Label.n
    (⊎_elim
    (λ is. ap as_name (label_stands h c.in-Label.n (c.in-Holds.is ∙ ap Holds is)))
    (λ v. ap as_name (variable_stands h c.requires.0 c.requires.1 c.in-Label.n v.0 (c.in-Holds.is ∙ ap Holds v.1)).is)
    c.in-Label.is)
    (name_said_lem _ c.requires.0 c.args.at.0 c.requires.1 (λ i. (c.type_inv.frames i).fits)))

pub returns-in-Instr : goal.returns-in-Instr
returns-in-Instr c carry owners offsets =
    let other = not_kind (c.slot_at.ensures carry owners offsets) c.in-Holds.statement c.in-Holds.is nameless
    (opened c.in-Instr.in-Instr-own.keys3) in
    names_none _ (no_name _ (other 1 tt) (other 2 tt))
