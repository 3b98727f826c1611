-- `contexts::context_at` meets its contract: only a global label opens a context.
use mathlib.Core.Path.{◌≡◌, sym, ap, ◌∙◌}
use mathlib.Core.List.{List}
use Prim.Native.Nat.{ℕ}
use Rattle.rules.specs.Programs.{Stmt, label}
use Rattle.slots.specs.Slots.{Slots, slots, slot_at}
use Rattle.slots.specs.State.{starts_in, forms_in}
use Rattle.slots.specs.Meaning.{Stands}
use Rattle.slots.specs.declared.Slot.TheVariants.{Holds}
use Rattle.env.proofs.Standing.{label_stands}
use Rattle.env.proofs.Entering.{enter_global, enter_local}
use Rattle.env.proofs.contexts.context_at.Goals as goal

-- behind the slot
module _ (c : goal.Then-name-lt-LOCAL) (carry owners offsets : List ℕ) where
  abbrev here : Slots
  here = slots c.args.frames.now (starts_in c.args.state.now) c.args.count (forms_in c.args.state.now) carry owners offsets

  abbrev slot : Stmt
  slot = slot_at here c.args.at.0

  stands : Stands here c.args.at.0 c.slot_at.result
  stands = c.slot_at.ensures carry owners offsets

-- behind the slot
module _ (c : goal.Else-name-lt-LOCAL) (carry owners offsets : List ℕ) where
  abbrev here_2 : Slots
  here_2 = slots c.args.frames.now (starts_in c.args.state.now) c.args.count (forms_in c.args.state.now) carry owners offsets

  abbrev slot_2 : Stmt
  slot_2 = slot_at here_2 c.args.at.0

  stands_2 : Stands here_2 c.args.at.0 c.slot_at.result
  stands_2 = c.slot_at.ensures carry owners offsets

-- past the second test there is a label
a_label : (c : goal.Then-name-lt-LOCAL) (carry owners offsets : List ℕ) → slot c carry owners offsets ≡ label c.in-Label.name
a_label c carry owners offsets =
    label_stands (stands c carry owners offsets) c.in-Label.name (c.in-Holds.is ∙ ap Holds c.in-Label.is)

-- past the second test there is a label
a_label_2 : (c : goal.Else-name-lt-LOCAL) (carry owners offsets : List ℕ) → slot_2 c carry owners offsets ≡ label c.in-Label.name
a_label_2 c carry owners offsets =
    label_stands (stands_2 c carry owners offsets) c.in-Label.name (c.in-Holds.is ∙ ap Holds c.in-Label.is)

pub returns-then-name-lt-LOCAL : goal.returns-then-name-lt-LOCAL
returns-then-name-lt-LOCAL c carry owners offsets =
    sym (enter_global c.args.before c.in-Label.name (slot c carry owners offsets) (a_label c carry owners offsets) c.if-name-lt-LOCAL.true)

pub returns-else-name-lt-LOCAL : goal.returns-else-name-lt-LOCAL
returns-else-name-lt-LOCAL c carry owners offsets =
    sym (enter_local c.args.before c.in-Label.name (slot_2 c carry owners offsets) (a_label_2 c carry owners offsets)
    c.if-name-lt-LOCAL.false)
