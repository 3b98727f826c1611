-- `attempts::folds::attempt_trampoline` meets its contract: the edited state holds the candidate, and the old numbers put back are the old
-- slots.
use Prim.Native.Nat.{ℕ}
use mathlib.Core.Path.{◌≡◌, refl, ap, ap₂, ◌∙◌}
use mathlib.Core.List.{List}
use lib.ListN.{get_or, set}
use Rattle.laws.proofs.Stores.{undone}
use Rattle.rules.specs.Programs.{Program}
use Rattle.slots.specs.Slots.{Slots}
use Rattle.slots.specs.State.{forms_in, carry_in, table_of, Kept}
use Rattle.slots.proofs.State.{kept_more}
use Rattle.attempts.specs.Folds.{bounced, Bounces}
use Rattle.attempts.specs.Standing.{Standing}
use Rattle.attempts.proofs.Attempts.{Holding, bounced_holds, held_kept, beside_kept, table_same, tried_kept, tried_none, tried_back, undone_three}
use Rattle.attempts.proofs.folds.attempt_trampoline.Goals as goal

-- the candidate, in place
module _ (c : goal.After-put_carry) where
  abbrev i : ℕ
  i = c.args.at.0

  abbrev skip : ℕ
  skip = c.args.skip.0

  abbrev target : ℕ
  target = c.args.target.0

  abbrev last : ℕ
  last = c.args.last.0

  abbrev state : List (List ℕ)
  state = c.args.state.now

  abbrev edited : List (List ℕ)
  edited = c.put_carry.new.state

  abbrev old : Slots
  old = table_of c.args.frames.now state c.args.count

  abbrev new : Slots
  new = table_of c.args.frames.now edited c.args.count

  abbrev folded : ℕ → Program
  folded f = bounced old f i skip target last

  kept : Kept state edited
  kept = kept_more state c.put_three.new.state edited c.put_three.ensures.2 c.put_carry.ensures.kept

  forms_are : forms_in edited ≡ set (set (set (forms_in state) skip 70) target 70) last 70
  forms_are = c.put_carry.ensures.forms ∙ c.put_three.ensures.0

  carry_is : carry_in edited ≡ set (carry_in state) i (get_or (carry_in state) last 0)
  carry_is = c.put_carry.ensures.carry ∙ ap (λ (l : List ℕ). set l i (get_or (carry_in state) last 0)) c.put_three.ensures.1

  held : (f : ℕ) → Bounces old f i skip target last → Holding new (folded f)
  held f b =
      held_kept c.args.frames.now state edited c.args.count kept (folded f)
      (bounced_holds _ _ _ _ _ _ _ c.requires.0 f i skip target last (forms_in edited) (carry_in edited) b forms_are carry_is)

  stands : Standing new
  stands = (held c.requires.1.0 c.requires.1.1).stands

-- the candidate, in place
module _ (c : goal.Then-acceptable) where
  abbrev i_2 : ℕ
  i_2 = c.args.at.0

  abbrev skip_2 : ℕ
  skip_2 = c.args.skip.0

  abbrev target_2 : ℕ
  target_2 = c.args.target.0

  abbrev last_2 : ℕ
  last_2 = c.args.last.0

  abbrev state_2 : List (List ℕ)
  state_2 = c.args.state.now

  abbrev edited_2 : List (List ℕ)
  edited_2 = c.put_carry.new.state

  abbrev old_2 : Slots
  old_2 = table_of c.args.frames.now state_2 c.args.count

  abbrev new_2 : Slots
  new_2 = table_of c.args.frames.now edited_2 c.args.count

  abbrev folded_2 : ℕ → Program
  folded_2 f = bounced old_2 f i_2 skip_2 target_2 last_2

  kept_2 : Kept state_2 edited_2
  kept_2 = kept_more state_2 c.put_three.new.state edited_2 c.put_three.ensures.2 c.put_carry.ensures.kept

  forms_are_2 : forms_in edited_2 ≡ set (set (set (forms_in state_2) skip_2 70) target_2 70) last_2 70
  forms_are_2 = c.put_carry.ensures.forms ∙ c.put_three.ensures.0

  carry_is_2 : carry_in edited_2 ≡ set (carry_in state_2) i_2 (get_or (carry_in state_2) last_2 0)
  carry_is_2 = c.put_carry.ensures.carry ∙ ap (λ (l : List ℕ). set l i_2 (get_or (carry_in state_2) last_2 0)) c.put_three.ensures.1

  held_2 : (f : ℕ) → Bounces old_2 f i_2 skip_2 target_2 last_2 → Holding new_2 (folded_2 f)
  held_2 f b =
      held_kept c.args.frames.now state_2 edited_2 c.args.count kept_2 (folded_2 f)
      (bounced_holds _ _ _ _ _ _ _ c.requires.0 f i_2 skip_2 target_2 last_2 (forms_in edited_2) (carry_in edited_2) b forms_are_2
      carry_is_2)

-- the candidate, in place
module _ (c : goal.After-put_carry-2) where
  abbrev i_3 : ℕ
  i_3 = c.args.at.0

  abbrev skip_3 : ℕ
  skip_3 = c.args.skip.0

  abbrev target_3 : ℕ
  target_3 = c.args.target.0

  abbrev last_3 : ℕ
  last_3 = c.args.last.0

  abbrev state_3 : List (List ℕ)
  state_3 = c.args.state.now

  abbrev edited_3 : List (List ℕ)
  edited_3 = c.put_carry.new.state

  abbrev old_3 : Slots
  old_3 = table_of c.args.frames.now state_3 c.args.count

  abbrev new_3 : Slots
  new_3 = table_of c.args.frames.now edited_3 c.args.count

  abbrev folded_3 : ℕ → Program
  folded_3 f = bounced old_3 f i_3 skip_3 target_3 last_3

  kept_3 : Kept state_3 edited_3
  kept_3 = kept_more state_3 c.put_three.new.state edited_3 c.put_three.ensures.2 c.put_carry.ensures.kept

  forms_are_3 : forms_in edited_3 ≡ set (set (set (forms_in state_3) skip_3 70) target_3 70) last_3 70
  forms_are_3 = c.put_carry.ensures.forms ∙ c.put_three.ensures.0

  carry_is_3 : carry_in edited_3 ≡ set (carry_in state_3) i_3 (get_or (carry_in state_3) last_3 0)
  carry_is_3 = c.put_carry.ensures.carry ∙ ap (λ (l : List ℕ). set l i_3 (get_or (carry_in state_3) last_3 0)) c.put_three.ensures.1

  held_3 : (f : ℕ) → Bounces old_3 f i_3 skip_3 target_3 last_3 → Holding new_3 (folded_3 f)
  held_3 f b =
      held_kept c.args.frames.now state_3 edited_3 c.args.count kept_3 (folded_3 f)
      (bounced_holds _ _ _ _ _ _ _ c.requires.0 f i_3 skip_3 target_3 last_3 (forms_in edited_3) (carry_in edited_3) b forms_are_3
      carry_is_3)

pub acceptable-requires : goal.acceptable-requires
acceptable-requires c =
    (stands c, c.requires.1.1.branches.inside, beside_kept c.args.frames.now (state c) (edited c) c.args.count (kept c) _ c.requires.2)

pub returns-then-acceptable : goal.returns-then-acceptable
returns-then-acceptable c f b =
    tried_kept (folded_2 c f) (old_2 c) (new_2 c) (held_2 c f b) c.acceptable.result c.acceptable.ensures c.if-acceptable.true
    (kept_2 c).starts

pub returns : goal.returns
returns c n o =
    let b = c.requires.1.1 in
    let r = c.put_carry-2.new.state in
    let back : forms_in r ≡ forms_in (state_3 c) =
    undone_three (forms_in (state_3 c)) (forms_in (edited_3 c)) (forms_in r) (skip_3 c) (target_3 c) (last_3 c) _ _ _ b.target_rises
    b.last_rises (forms_are_3 c)
    (c.put_carry-2.ensures.forms ∙ c.put_three-2.ensures.0
    ∙ ap (λ (x : ℕ). set (set (set (forms_in (edited_3 c)) (skip_3 c) x) (target_3 c) c.form_in-label.result) (last_3 c)
    c.form_in-jumped.result) c.form_in-skipped.ensures
    ∙ ap₂ (λ (x y : ℕ). set (set (set (forms_in (edited_3 c)) (skip_3 c) (get_or (forms_in (state_3 c)) (skip_3 c) 0)) (target_3 c) x)
    (last_3 c) y) c.form_in-label.ensures c.form_in-jumped.ensures) in
    tried_back _ (old_3 c) _ c.requires.0
    (tried_none (folded_3 c n) (old_3 c) (new_3 c) (held_3 c n o) c.acceptable.result c.acceptable.ensures c.if-acceptable.false)
    (table_same c.args.frames.now (state_3 c) r c.args.count
    (kept_more (state_3 c) (edited_3 c) r (kept_3 c) (kept_more (edited_3 c) c.put_three-2.new.state r c.put_three-2.ensures.2
    c.put_carry-2.ensures.kept)) back
    (undone (carry_in (state_3 c)) (carry_in (edited_3 c)) (carry_in r) (i_3 c) _ _ 0 (carry_is_3 c) refl
    (c.put_carry-2.ensures.carry ∙ ap (λ (l : List ℕ). set l (i_3 c) (get_or (carry_in (state_3 c)) (i_3 c) 0)) c.put_three-2.ensures.1)))
