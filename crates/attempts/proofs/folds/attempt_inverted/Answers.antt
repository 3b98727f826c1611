-- `attempts::folds::attempt_inverted` meets its contract: the edited state holds the candidate, and the old numbers put back are the old
-- slots.
use Prim.Native.Nat.{ℕ}
use mathlib.Core.Path.{◌≡◌, refl, ap₂, ◌∙◌}
use mathlib.Core.List.{List}
use lib.ListN.{set}
use Rattle.laws.proofs.Stores.{undone}
use Rattle.rules.specs.Programs.{Program}
use Rattle.slots.specs.Slots.{Slots}
use Rattle.slots.specs.State.{forms_in, carry_in, table_of}
use Rattle.slots.proofs.State.{kept_more}
use Rattle.attempts.specs.Folds.{inverted}
use Rattle.attempts.proofs.Attempts.{Holding, inverted_holds, held_kept, beside_kept, table_same, tried_kept, tried_none, tried_back, undone_two}
use Rattle.attempts.proofs.folds.attempt_inverted.Goals as goal

-- the candidate, in place
module _ (c : goal.After-put_two) where
  abbrev state : List (List ℕ)
  state = c.args.state.now

  abbrev edited : List (List ℕ)
  edited = c.put_two.new.state

  abbrev old : Slots
  old = table_of c.args.frames.now state c.args.count

  abbrev new : Slots
  new = table_of c.args.frames.now edited c.args.count

  abbrev folded : Program
  folded = inverted old c.args.to c.args.at.0 c.args.jump.0

  held : Holding new folded
  held =
      held_kept c.args.frames.now state edited c.args.count c.put_two.ensures.2 folded
      (inverted_holds _ _ _ _ _ _ _ c.requires.0 c.args.to c.args.at.0 c.args.jump.0 (forms_in edited) (carry_in edited) c.requires.1
      c.put_two.ensures.0 c.put_two.ensures.1)

-- the candidate, in place
module _ (c : goal.Then-acceptable) where
  abbrev state_2 : List (List ℕ)
  state_2 = c.args.state.now

  abbrev edited_2 : List (List ℕ)
  edited_2 = c.put_two.new.state

  abbrev old_2 : Slots
  old_2 = table_of c.args.frames.now state_2 c.args.count

  abbrev new_2 : Slots
  new_2 = table_of c.args.frames.now edited_2 c.args.count

  abbrev folded_2 : Program
  folded_2 = inverted old_2 c.args.to c.args.at.0 c.args.jump.0

  held_2 : Holding new_2 folded_2
  held_2 =
      held_kept c.args.frames.now state_2 edited_2 c.args.count c.put_two.ensures.2 folded_2
      (inverted_holds _ _ _ _ _ _ _ c.requires.0 c.args.to c.args.at.0 c.args.jump.0 (forms_in edited_2) (carry_in edited_2) c.requires.1
      c.put_two.ensures.0 c.put_two.ensures.1)

-- the candidate, in place
module _ (c : goal.After-put_two-2) where
  abbrev state_3 : List (List ℕ)
  state_3 = c.args.state.now

  abbrev edited_3 : List (List ℕ)
  edited_3 = c.put_two.new.state

  abbrev old_3 : Slots
  old_3 = table_of c.args.frames.now state_3 c.args.count

  abbrev new_3 : Slots
  new_3 = table_of c.args.frames.now edited_3 c.args.count

  abbrev folded_3 : Program
  folded_3 = inverted old_3 c.args.to c.args.at.0 c.args.jump.0

  held_3 : Holding new_3 folded_3
  held_3 =
      held_kept c.args.frames.now state_3 edited_3 c.args.count c.put_two.ensures.2 folded_3
      (inverted_holds _ _ _ _ _ _ _ c.requires.0 c.args.to c.args.at.0 c.args.jump.0 (forms_in edited_3) (carry_in edited_3) c.requires.1
      c.put_two.ensures.0 c.put_two.ensures.1)

pub acceptable-requires : goal.acceptable-requires
acceptable-requires c = (
  (held c).stands,
  c.requires.1.branches.inside,
  beside_kept c.args.frames.now (state c) (edited c) c.args.count c.put_two.ensures.2 _
      c.requires.2,
)

pub returns-then-acceptable : goal.returns-then-acceptable
returns-then-acceptable c =
    tried_kept (folded_2 c) (old_2 c) (new_2 c) (held_2 c) c.acceptable.result c.acceptable.ensures c.if-acceptable.true
    c.put_two.ensures.2.starts

pub returns : goal.returns
returns c =
    let i = c.args.at.0 in
    let j = c.args.jump.0 in
    let r = c.put_two-2.new.state in
    let back : forms_in r ≡ forms_in (state_3 c) =
    undone_two (forms_in (state_3 c)) (forms_in (edited_3 c)) (forms_in r) i j _ _ c.requires.1.rises c.put_two.ensures.0
    (c.put_two-2.ensures.0 ∙ ap₂ (λ (x y : ℕ). set (set (forms_in (edited_3 c)) i x) j y) c.form_in-form.ensures c.form_in-jumped.ensures)
    in
    tried_back _ (old_3 c) _ c.requires.0
    (tried_none (folded_3 c) (old_3 c) (new_3 c) (held_3 c) c.acceptable.result c.acceptable.ensures c.if-acceptable.false)
    (table_same c.args.frames.now (state_3 c) r c.args.count (kept_more (state_3 c) (edited_3 c) r c.put_two.ensures.2
    c.put_two-2.ensures.2) back
    (undone (carry_in (state_3 c)) (carry_in (edited_3 c)) (carry_in r) i _ _ 0 c.put_two.ensures.1 refl c.put_two-2.ensures.1))
