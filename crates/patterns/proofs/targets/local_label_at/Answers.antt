-- `patterns::targets::local_label_at` meets its contract: "Names 8000 and up are local".
use borrow.Enum.Refused.{opened}
use mathlib.Core.Path.{◌≡◌, sym, ap, ◌∙◌}
use mathlib.Core.List.{List, [], ◌∷◌}
use Prim.Native.Nat.{ℕ}
use native.Mathlib.Omega.{arith}
use denote.Enum.Declared.{tag_of}
use types.Run.{OneOf, miss}
use Rattle.std.specs.Prelude.{None}
use Rattle.rules.specs.contracts.Statement.{the_type}
use Rattle.rules.specs.declared.Statement.{Statement}
use Rattle.rules.specs.declared.Statement.TheVariants.{Label}
use Rattle.rules.specs.Programs.{label}
use Rattle.rules.specs.Rewriting.{local_label}
use Rattle.rules.specs.Statements.{stmt_of}
use Rattle.slots.specs.Slots.{Slots, slots, slot_at}
use Rattle.slots.specs.State.{starts_in, forms_in}
use Rattle.slots.specs.declared.Slot.TheVariants.{Holds}
use Rattle.slots.specs.Meaning.{kind_for, kind_in}
use Rattle.slots.proofs.Stands.{none_tag, tag_kind}
use Rattle.patterns.specs.Targets.{label_as, stands_at}
use Rattle.patterns.proofs.Programs.{at_program, past_program}
use Rattle.patterns.proofs.Instructions.{no_label, low_label, high_label}
use Rattle.patterns.proofs.targets.local_label_at.Goals as goal

abbrev over : (c : goal.Then-count-i) (carry owners offsets : List ℕ) → Slots
over c carry owners offsets = slots c.args.frames.now (starts_in c.args.state.now) c.args.count (forms_in c.args.state.now) carry owners
    offsets

abbrev over_2 : (c : goal.In_default) (carry owners offsets : List ℕ) → Slots
over_2 c carry owners offsets = slots c.args.frames.now (starts_in c.args.state.now) c.args.count (forms_in c.args.state.now) carry owners
    offsets

abbrev over_3 : (c : goal.In_default-statement) (carry owners offsets : List ℕ) → Slots
over_3 c carry owners offsets = slots c.args.frames.now (starts_in c.args.state.now) c.args.count (forms_in c.args.state.now) carry owners
    offsets

abbrev over_4 : (c : goal.Then-name-lt32768) (carry owners offsets : List ℕ) → Slots
over_4 c carry owners offsets = slots c.args.frames.now (starts_in c.args.state.now) c.args.count (forms_in c.args.state.now) carry owners
    offsets

abbrev over_5 : (c : goal.Else-name-lt32768) (carry owners offsets : List ℕ) → Slots
over_5 c carry owners offsets = slots c.args.frames.now (starts_in c.args.state.now) c.args.count (forms_in c.args.state.now) carry owners
    offsets

-- behind the slot
module _ (c : goal.In_default) (carry owners offsets : List ℕ) where
  abbrev here : Slots
  here = over_2 c carry owners offsets

  abbrev place : ℕ
  place = c.args.at.0

  stands : stands_at here place ≡ slot_at here place
  stands = at_program here place c.if-count-i.false

  -- what is no label by its variant is none
  none : (kind_in c.slot_at.result ≡ 2 → ⊥) → label_as (local_label (stands_at here place)) ≡ None
  none n =
      ap (λ x. label_as (local_label x)) stands
      ∙ no_label (slot_at here place) (λ e. n (sym (c.slot_at.ensures carry owners offsets).kind ∙ e))

-- behind the slot
module _ (c : goal.In_default-statement) (carry owners offsets : List ℕ) where
  abbrev here_2 : Slots
  here_2 = over_3 c carry owners offsets

  abbrev place_2 : ℕ
  place_2 = c.args.at.0

  stands_2 : stands_at here_2 place_2 ≡ slot_at here_2 place_2
  stands_2 = at_program here_2 place_2 c.if-count-i.false

  -- what is no label by its variant is none
  none_2 : (kind_in c.slot_at.result ≡ 2 → ⊥) → label_as (local_label (stands_at here_2 place_2)) ≡ None
  none_2 n =
      ap (λ x. label_as (local_label x)) stands_2
      ∙ no_label (slot_at here_2 place_2) (λ e. n (sym (c.slot_at.ensures carry owners offsets).kind ∙ e))

-- behind the slot
module _ (c : goal.Then-name-lt32768) (carry owners offsets : List ℕ) where
  abbrev here_3 : Slots
  here_3 = over_4 c carry owners offsets

  abbrev place_3 : ℕ
  place_3 = c.args.at.0

  stands_3 : stands_at here_3 place_3 ≡ slot_at here_3 place_3
  stands_3 = at_program here_3 place_3 c.if-count-i.false

  -- the name, as the slot has it
  named_3 : (n : ℕ) → c.slot_at.result ≡ Holds (Label n) → stands_at here_3 place_3 ≡ label n
  unfolding stmt_of
  named_3 n e = stands_3 ∙ ((c.slot_at.ensures carry owners offsets).holds (Label n) e).means

-- behind the slot
module _ (c : goal.Else-name-lt32768) (carry owners offsets : List ℕ) where
  abbrev here_4 : Slots
  here_4 = over_5 c carry owners offsets

  abbrev place_4 : ℕ
  place_4 = c.args.at.0

  stands_4 : stands_at here_4 place_4 ≡ slot_at here_4 place_4
  stands_4 = at_program here_4 place_4 c.if-count-i.false

  -- the name, as the slot has it
  named_4 : (n : ℕ) → c.slot_at.result ≡ Holds (Label n) → stands_at here_4 place_4 ≡ label n
  unfolding stmt_of
  named_4 n e = stands_4 ∙ ((c.slot_at.ensures carry owners offsets).holds (Label n) e).means

-- a variant that is not the label's
other : (x : Statement) → OneOf (0 ∷ 2 ∷ 3 ∷ 4 ∷ 5 ∷ 6 ∷ 7 ∷ []) (tag_of the_type x) → kind_for x ≡ 2 → ⊥
other x k e =
    let t : tag_of the_type x ≡ 1 = omega (arith, tag_kind x) in
    miss (0 ∷ 2 ∷ 3 ∷ 4 ∷ 5 ∷ 6 ∷ 7 ∷ []) 1 tt (rw t at k)

is_label : (c : goal.Then-name-lt32768) →
    c.slot_at.result ≡ Holds (Label c.in-Label.name)
is_label c = c.in-Holds.is ∙ ap Holds c.in-Label.is

is_label_2 : (c : goal.Else-name-lt32768) →
    c.slot_at.result ≡ Holds (Label c.in-Label.name)
is_label_2 c = c.in-Holds.is ∙ ap Holds c.in-Label.is

pub returns-then-count-i : goal.returns-then-count-i
returns-then-count-i c carry owners offsets = sym (ap (λ x. label_as (local_label x)) (past_program (over c carry owners offsets)
    c.args.at.0 c.if-count-i.true) ∙ no_label _ (λ e. omega arith))

pub returns-in_default : goal.returns-in_default
returns-in_default c carry owners offsets =
    let low = none_tag c.slot_at.result (opened c.in_default.in_default-own.keys2) in
    sym (none c carry owners offsets (λ e. omega arith))

pub returns-in_default-statement : goal.returns-in_default-statement
returns-in_default-statement c carry owners offsets =
    sym (none_2 c carry owners offsets (λ e. other c.in-Holds.statement (opened c.in_default-statement.in_default-statement-own.keys2)
    (sym (ap kind_in c.in-Holds.is) ∙ e)))

pub returns-then-name-lt32768 : goal.returns-then-name-lt32768
returns-then-name-lt32768 c carry owners offsets =
    let e = named_3 c carry owners offsets _ (is_label c) in
    sym (ap (λ x. label_as (local_label x)) e ∙ low_label _ c.if-name-lt32768.true)

pub returns : goal.returns
returns c carry owners offsets =
    let e = named_4 c carry owners offsets _ (is_label_2 c) in
    sym (ap (λ x. label_as (local_label x)) e ∙ high_label _ c.if-name-lt32768.false)
