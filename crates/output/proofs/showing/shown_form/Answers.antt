-- `output::showing::shown_form` meets its contract: only a comment that stands there goes.
use borrow.Enum.Refused.{opened}
use mathlib.Core.Path.{◌≡◌, refl, sym, ap, ◌∙◌, subst}
use mathlib.Core.List.{List, [], ◌∷◌}
use mathlib.Core.Bool.{Bool, false, true, not, cond}
use Prim.Native.Nat.{ℕ}
use native.Mathlib.Omega.{arith}
use denote.Enum.Declared.{tag_of}
use types.Run.{OneOf, miss}
use borrow.Author.Tests.{eq-eqb, ne_eqb, not-true, not-false}
use Rattle.rules.specs.contracts.Statement.{the_type}
use Rattle.rules.specs.declared.Settings.{Settings}
use Rattle.rules.specs.declared.Statement.{Statement}
use Rattle.rules.specs.Programs.{kind_of}
use Rattle.slots.specs.Slots.{Slots, slots, slot_at}
use Rattle.slots.specs.State.{starts_in, forms_in}
use Rattle.slots.specs.Meaning.{kind_for, Stands}
use Rattle.slots.proofs.Stands.{kind_stands, none_tag, tag_kind}
use Rattle.output.specs.Showing.{shown_form}
use Rattle.output.proofs.showing.shown_form.Goals as goal
use Rattle.output.proofs.showing.shown_form.Goals.{After-slot_at, in_default-via-in-Holds-Comment+else-not-asked, in_default-via-in-Holds+in_default, in_default-via-in_default}

asked_for : (asked : Settings) (k f : ℕ) → not asked.comments ≡ false → f ≡ shown_form asked k f
unfolding shown_form
asked_for asked k f e = rw (not-false asked.comments e)

left : (asked : Settings) (k f : ℕ) → (k ≡ 4 → ⊥) → f ≡ shown_form asked k f
unfolding shown_form
left asked k f n = rw (ne_eqb k 4 n) (on asked.comments)
  where
    on : (b : Bool) → f ≡ cond b f f
    on true = refl
    on false = refl

-- another variant than the comment's
other : (x : Statement) → OneOf (0 ∷ 1 ∷ 2 ∷ 4 ∷ 5 ∷ 6 ∷ 7 ∷ []) (tag_of the_type x) → kind_for x ≡ 4 → ⊥
other x k e =
    let t = tag_kind x in
    let three : tag_of the_type x ≡ 3 = omega arith in
    miss (0 ∷ 1 ∷ 2 ∷ 4 ∷ 5 ∷ 6 ∷ 7 ∷ []) 3 tt (subst (λ m. OneOf (0 ∷ 1 ∷ 2 ∷ 4 ∷ 5 ∷ 6 ∷ 7 ∷ []) m) three k)

-- the tables, and what the code was told of the slot
module _ (s : After-slot_at) (carry owners offsets : List ℕ) where
  abbrev over : Slots
  over = slots s.args.frames.now (starts_in s.args.state.now) s.args.count (forms_in s.args.state.now) carry owners offsets

  stands : Stands over s.args.at.0 s.slot_at.result
  stands = s.slot_at.ensures carry owners offsets

pub returns-in-Holds-Comment : goal.returns-in-Holds-Comment
unfolding shown_form
returns-in-Holds-Comment c carry owners offsets =
    let s = (goal.at.returns-in-Holds-Comment c).After-slot_at in
    let k = kind_of (slot_at (over s carry owners offsets) c.args.at.0) in
    let w = c.in-Holds-Comment in
    let four : k ≡ 4 = kind_stands _ c.args.at.0 c.slot_at.result (stands s carry owners offsets) _ w.is ∙ ap kind_for w.field-0-is in
    rw (not-true c.args.asked.comments c.if-not-asked.true, eq-eqb k 4 four)

pub returns-in_default : goal.returns-in_default
returns-in_default c carry owners offsets =
    let s = (goal.at.returns-in_default c).After-slot_at in
    let k = kind_of (slot_at (over s carry owners offsets) c.args.at.0) in
    elim c.in_default.branch [
      | in_default-via-in-Holds-Comment+else-not-asked w ↦ c.form_in.ensures ∙ asked_for c.args.asked k _ w.if-not-asked.false
      | in_default-via-in-Holds+in_default w ↦
          let kind = kind_stands _ c.args.at.0 c.slot_at.result (stands s carry owners offsets) _ w.in_default.t6-1-given.1 in
          c.form_in.ensures ∙ left c.args.asked k _ (λ e. other _ (opened w.in_default.in-Instr-own.keys2) (sym kind ∙ e))
      | in_default-via-in_default w ↦
          let low = none_tag c.slot_at.result (opened w.in_default.in-Gone-own.keys2) in
          c.form_in.ensures ∙ left c.args.asked k _ (λ e. omega (arith, (stands s carry owners offsets).kind, low))
    ]
