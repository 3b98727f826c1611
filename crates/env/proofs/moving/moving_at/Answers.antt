-- `moving::moving_at` meets its contract: a label's name, that of a variable that holds a name that moves, and none for any other
-- statement.
use mathlib.Core.Path.{◌≡◌, refl, sym, ap, ◌∙◌}
use mathlib.Core.List.{[]}
use Prim.Native.Nat.{◌≤◌}
use native.Mathlib.Omega.{arith}
use lib.ListN.{length, drop}
use Rattle.laws.proofs.Stores.{rest_is}
use Rattle.rules.specs.Expressions.{read_expr}
use Rattle.rules.specs.Programs.{as_name, kind_of}
use Rattle.slots.specs.declared.Slot.TheVariants.{Holds}
use Rattle.env.proofs.Standing.{label_stands, variable_stands}
use Rattle.env.proofs.Naming.{names_some}
use Rattle.env.proofs.Movings.{moves_other, moves_held, moves_not}
use Rattle.env.proofs.moving.moving_at.Goals as goal

-- the value stands in the frame
inside : (c : goal.After-frame_at-frame) → (c.in-Variable.value.0 ≡ 3) × (3 ≤ length c.frame_at-frame.result.now)
inside c =
    let v = variable_stands (c.slot_at.ensures [] [] []) c.requires.0 c.requires.1 c.in-Variable.n c.in-Variable.value
    (c.in-Holds.is ∙ ap Holds c.in-Variable.is) in
    (v.from, rw c.frame_at-frame.ensures v.long)

pub slice_bounds-holds_label-count : goal.slice_bounds-holds_label-count
slice_bounds-holds_label-count c = omega (arith, inside c)

pub slice_bounds-holds_label-start : goal.slice_bounds-holds_label-start
slice_bounds-holds_label-start c = omega (arith, inside c)

pub returns-in-Label : goal.returns-in-Label
unfolding as_name
returns-in-Label c carry owners offsets =
    let is = label_stands (c.slot_at.ensures carry owners offsets) c.in-Label.n (c.in-Holds.is ∙ ap Holds c.in-Label.is) in
    let two = names_some _ c.in-Label.n (ap as_name is) (omega arith) in
    moves_other _ _ _ c.from.result (rw c.from.ensures two.1) (λ e. omega (arith, ap kind_of is))

pub returns-then-holds_label : goal.returns-then-holds_label
unfolding as_name
returns-then-holds_label c carry owners offsets =
    let v = variable_stands (c.slot_at.ensures carry owners offsets) c.requires.0 c.requires.1 c.in-Variable.n c.in-Variable.value
    (c.in-Holds.is ∙ ap Holds c.in-Variable.is) in
    let a = c.in-Variable.value.0 in
    let part = rest_is a c.frame_at-frame.result.now ∙ ap (drop a) c.frame_at-frame.ensures in
    let tested = c.holds_label.ensures v.e v.reads.width (ap read_expr part ∙ v.reads.reads) in
    let two = names_some _ c.in-Variable.n (ap as_name v.is) (omega arith) in
    moves_held _ _ _ c.from-then-holds_label.result _ v.e v.is (rw c.from-then-holds_label.ensures two.1) (sym tested ∙ c.if-holds_label.true)

pub returns-else-holds_label : goal.returns-else-holds_label
returns-else-holds_label c carry owners offsets =
    let v = variable_stands (c.slot_at.ensures carry owners offsets) c.requires.0 c.requires.1 c.in-Variable.n c.in-Variable.value
    (c.in-Holds.is ∙ ap Holds c.in-Variable.is) in
    let a = c.in-Variable.value.0 in
    let part = rest_is a c.frame_at-frame.result.now ∙ ap (drop a) c.frame_at-frame.ensures in
    let tested = c.holds_label.ensures v.e v.reads.width (ap read_expr part ∙ v.reads.reads) in
    moves_not _ _ _ 65536 _ v.e v.is refl (sym tested ∙ c.if-holds_label.false)
