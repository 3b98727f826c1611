-- `variables::value_at` meets its contract: a label's position, a variable's worth by the places above it, 0 for any other statement.
use mathlib.Core.Path.{◌≡◌, sym, ap, ◌∙◌}
use mathlib.Core.List.{List, []}
use Prim.Native.Nat.{ℕ, ◌≤◌, ◌<◌}
use native.Mathlib.Omega.{arith}
use lib.ListN.{length, drop}
use lib.IntN.{ℤ, pos}
use borrow.Author.Rules.{rules}
use Rattle.rules.specs.declared.Unvalued.{Unvalued}
use Rattle.std.specs.Prelude.{Result, Ok}
use Rattle.laws.proofs.Stores.{rest_is}
use Rattle.rules.specs.Expressions.{read_expr}
use Rattle.rules.specs.Judging.{value_at}
use Rattle.rules.specs.Layout.{position}
use Rattle.rules.specs.Names.{lookup, key_of, context_at}
use Rattle.rules.specs.Programs.{Placeℕ, at, kind_of}
use Rattle.expression.specs.Environment.{entries_of}
use Rattle.expression.specs.Linked.{Linked}
use Rattle.expression.proofs.Signed.{at64}
use Rattle.slots.specs.declared.Slot.TheVariants.{Holds}
use Rattle.slots.specs.Links.{contexts_read, names_now}
use Rattle.slots.specs.Slots.{Slots, slots, slot_at, program_of}
use Rattle.slots.specs.State.{starts_in, forms_in}
use Rattle.slots.proofs.Stands.{form_stands}
use Rattle.slots.proofs.Linking.{spans, length_beside, part_linked, part_lengths}
use Rattle.env.specs.Answers.{valued_as}
use Rattle.env.specs.Tables.{meant_at, TellsIn}
use Rattle.env.proofs.Programs.{at_program}
use Rattle.env.proofs.Standing.{nameless, gone_stands, some_stands, not_kind, label_stands, variable_stands}
use Rattle.env.proofs.Meaning.{meant_gone, meant_label, meant_variable, meant_other}
use Rattle.env.proofs.Telling.{tells_value, tells_position, tells_zero, above_linked}
use borrow.Enum.Refused.{opened}
use Rattle.env.proofs.variables.value_at.Goals as goal

-- no name is defined there
zero : (t : Slots) (contexts : List ℕ) (values : List ℤ) (i : Placeℕ) → i < t.count → (kind_of (slot_at t i) ≡ 0 → ⊥) → (kind_of (slot_at t i) ≡ 2 → ⊥)
    → (kind_of (slot_at t i) ≡ 3 → ⊥)
    → (Ok (pos 0) ≡ valued_as (meant_at (names_now t) contexts values (program_of t) i)) × TellsIn (slot_at t i) (Ok (pos 0))
zero t contexts values i l none label variable =
    let k = sym (ap kind_of (at_program t i l)) in (
      sym (ap valued_as (meant_other _ i _ _ (at (program_of t) i) (λ e. none (k ∙ e)) (λ e. label (k ∙ e)) (λ e. variable (k ∙ e)))),
      tells_zero (slot_at t i) none,
    )

-- its value stands in the frame
inside : (c : goal.After-links_at-beside) → (c.in-Variable.value.0 ≡ 3) × (3 ≤ length c.frame_at-frame.result.now)
inside c =
    let v = variable_stands (c.slot_at.ensures [] [] []) c.requires.held.0 c.requires.held.1 c.in-Variable.field-0 c.in-Variable.value
    (c.in-Holds.is ∙ ap Holds c.in-Variable.is) in
    (v.from, rw c.frame_at-frame.ensures v.long)

-- as many links as bytes
linked : (c : goal.After-linked_worth-arg-1) → (c.in-Variable.value.0 ≡ 3) × (3 ≤ length c.links_at-beside.result.now)
linked c =
    let v = variable_stands (c.slot_at.ensures [] [] []) c.requires.held.0 c.requires.held.1 c.in-Variable.field-0 c.in-Variable.value
    (c.in-Holds.is ∙ ap Holds c.in-Variable.is) in
    let same = length_beside c.args.frames.now (starts_in c.args.state.now) c.args.count c.requires.held.0 c.args.links.now
    c.requires.held.2.full c.args.at.0 c.requires.held.1 in
    (v.from, rw c.links_at-beside.ensures (omega (arith, same, v.long)))

pub links_at-beside-requires : goal.links_at-beside-requires
links_at-beside-requires c =
    spans c.args.frames.now (starts_in c.args.state.now) c.args.count c.requires.held.0 c.args.links.now c.requires.held.2.full c.args.at.0
    c.requires.held.1

pub slice_bounds-linked_worth-count : goal.slice_bounds-linked_worth-count
slice_bounds-linked_worth-count c = omega (arith, inside c)

pub slice_bounds-linked_worth-start : goal.slice_bounds-linked_worth-start
slice_bounds-linked_worth-start c = omega (arith, inside c)

pub offset_bounds-beside-a : goal.offset_bounds-beside-a
offset_bounds-beside-a c = omega (arith, linked c)

pub slice_bounds-linked_worth-count-in-Variable : goal.slice_bounds-linked_worth-count-in-Variable
slice_bounds-linked_worth-count-in-Variable c = omega (arith, linked c)

pub slice_bounds-linked_worth-start-in-Variable : goal.slice_bounds-linked_worth-start-in-Variable
slice_bounds-linked_worth-start-in-Variable c = omega (arith, linked c)

pub linked_worth-requires : goal.linked_worth-requires
linked_worth-requires c = (
  omega (arith, c.requires.held.1, c.requires.held.0.few),
  part_lengths c.frame_at-frame.result.now c.links_at-beside.result.now c.in-Variable.value.0
      (rw (c.links_at-beside.ensures, c.frame_at-frame.ensures)
      (length_beside c.args.frames.now (starts_in c.args.state.now) c.args.count c.requires.held.0 c.args.links.now c.requires.held.2.full
      c.args.at.0 c.requires.held.1)),
)

pub returns-in-Gone : goal.returns-in-Gone
returns-in-Gone c carry owners offsets =
    let k = ap kind_of (gone_stands (c.slot_at.ensures carry owners offsets) c.in-Gone.is) in
    let t = slots c.args.frames.now (starts_in c.args.state.now) c.args.count (forms_in c.args.state.now) carry owners offsets in
    let m = meant_gone _ c.args.at.0 _ _ (at (program_of t) c.args.at.0) (ap kind_of (at_program t c.args.at.0 c.requires.held.1) ∙ k) in
    (sym (ap valued_as m), rw k)

pub returns-in-Form : goal.returns-in-Form
returns-in-Form c carry owners offsets =
    let k = form_stands _ c.args.at.0 c.slot_at.result (c.slot_at.ensures carry owners offsets) _ c.in-Form.is in
    zero _ _ c.args.values.now c.args.at.0 c.requires.held.1 (λ e. omega arith) (λ e. omega arith) (λ e. omega arith)

pub returns-in-Label : goal.returns-in-Label
returns-in-Label c carry owners offsets =
    let i = c.args.at.0 in
    let t = slots c.args.frames.now (starts_in c.args.state.now) c.args.count (forms_in c.args.state.now) carry owners offsets in
    let p = program_of t in
    let e : at64 c.from.result ≡ c.from.result = search rules in
    let f = label_stands (c.slot_at.ensures carry owners offsets) _ (c.in-Holds.is ∙ ap Holds c.in-Label.is) in
    let m = meant_label _ i _ (position p i) (at p i) _ (at_program t i c.requires.held.1 ∙ f) in
    let h = (c.requires.any carry owners offsets).0 in
    let is = e ∙ c.from.ensures ∙ ap pos h.held in
    (ap Ok is ∙ sym (ap valued_as m), rw is (tells_position (slot_at t i) 1 (ap kind_of f) (position p i) h.small))

pub returns-in-Variable : goal.returns-in-Variable
returns-in-Variable c carry owners offsets =
    let j = c.args.at.0 in
    let t = slots c.args.frames.now (starts_in c.args.state.now) c.args.count (forms_in c.args.state.now) carry owners offsets in
    let p = program_of t in
    let above = entries_of (names_now t) (contexts_read c.args.frames.now (starts_in c.args.state.now) c.args.count) c.args.values.now j in
    let v = variable_stands (c.slot_at.ensures carry owners offsets) c.requires.held.0 c.requires.held.1 c.in-Variable.field-0
    c.in-Variable.value (c.in-Holds.is ∙ ap Holds c.in-Variable.is) in
    let a = c.in-Variable.value.0 in
    let part = rest_is a c.frame_at-frame.result.now ∙ ap (drop a) c.frame_at-frame.ensures in
    let context = (c.requires.any carry owners offsets).0.context in
    let env : ℕ → Result ℤ Unvalued = (λ m. lookup above (key_of (context_at p j) m)) in
    let whole : Linked env c.frame_at-frame.result.now c.links_at-beside.result.now c.args.values.now j =
    simp (c.frame_at-frame.ensures, c.links_at-beside.ensures, ← context)
    (above_linked t c.args.links.now c.args.values.now j c.requires.held.1 c.requires.held.2 (c.requires.any carry owners offsets).1) in
    let worth_is = c.linked_worth.ensures env (part_linked env c.frame_at-frame.result.now c.links_at-beside.result.now c.args.values.now j a whole)
    v.e v.reads.width (ap read_expr part ∙ v.reads.reads) in
    let m = meant_variable above j (context_at p j) _ (at p j) _ v.e (at_program t j c.requires.held.1 ∙ v.is) in (
      c.judged.ensures.value ∙ ap (λ o. valued_as (value_at j o)) worth_is ∙ sym (ap valued_as m),
      tells_value (slot_at t j) 2 (ap kind_of v.is) c.judged.result c.judged.ensures.in_range,
    )

-- ---- any other statement
pub returns-in-Instr : goal.returns-in-Instr
returns-in-Instr c carry owners offsets =
    let h = c.slot_at.ensures carry owners offsets in
    let other = not_kind h c.in-Holds.statement c.in-Holds.is nameless (opened c.in-Instr.in-Instr-own.keys3) in
    zero _ _ c.args.values.now c.args.at.0 c.requires.held.1 (some_stands h c.in-Holds.statement c.in-Holds.is) (other 1 tt) (other 2 tt)
