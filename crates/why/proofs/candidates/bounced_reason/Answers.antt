-- `why::candidates::bounced_reason` meets its contract: the copy holds the program with the fold done.
use Prim.Native.Nat.{ℕ}
use mathlib.Core.Path.{◌≡◌, ap, ◌∙◌}
use mathlib.Core.List.{List}
use lib.ListN.{get_or, set}
use Rattle.rules.specs.Programs.{Program}
use Rattle.slots.specs.State.{forms_in, carry_in, table_of, Kept}
use Rattle.slots.proofs.State.{kept_more}
use Rattle.attempts.specs.Folds.{bounced}
use Rattle.attempts.proofs.Attempts.{Holding, bounced_holds, held_kept, beside_kept}
use Rattle.staying.specs.Reasons.{reason_of}
use Rattle.why.proofs.candidates.bounced_reason.Goals as goal

-- the candidate, in the copy
module _ (c : goal.After-tried-4-1) where
  abbrev i : ℕ
  i = c.args.at.0

  abbrev skip : ℕ
  skip = c.args.skip.0

  abbrev target : ℕ
  target = c.args.target.0

  abbrev last : ℕ
  last = c.args.last.0

  abbrev state : List (List ℕ)
  state = c.args.state.now

  abbrev edited : List (List ℕ)
  edited = c.put_carry.new.state

  abbrev folded : Program
  folded = bounced (table_of c.args.frames.now state c.args.count) c.args.form i skip target last

  kept : Kept state edited
  kept = kept_more state c.put_three.new.state edited c.put_three.ensures.2 c.put_carry.ensures.kept

  forms_are : forms_in edited ≡ set (set (set (forms_in state) skip 70) target 70) last 70
  forms_are = c.put_carry.ensures.forms ∙ c.put_three.ensures.0

  carry_is : carry_in edited ≡ set (carry_in state) i (get_or (carry_in state) last 0)
  carry_is = c.put_carry.ensures.carry ∙ ap (λ (l : List ℕ). set l i (get_or (carry_in state) last 0)) c.put_three.ensures.1

  held : Holding (table_of c.args.frames.now edited c.args.count) folded
  held =
      held_kept c.args.frames.now state edited c.args.count kept folded
      (bounced_holds _ _ _ _ _ _ _ c.requires.0 c.args.form i skip target last (forms_in edited) (carry_in edited) c.requires.1 forms_are
      carry_is)

-- the candidate, in the copy
module _ (c : goal.After-reason_of) where
  abbrev i_2 : ℕ
  i_2 = c.args.at.0

  abbrev skip_2 : ℕ
  skip_2 = c.args.skip.0

  abbrev target_2 : ℕ
  target_2 = c.args.target.0

  abbrev last_2 : ℕ
  last_2 = c.args.last.0

  abbrev state_2 : List (List ℕ)
  state_2 = c.args.state.now

  abbrev edited_2 : List (List ℕ)
  edited_2 = c.put_carry.new.state

  abbrev folded_2 : Program
  folded_2 = bounced (table_of c.args.frames.now state_2 c.args.count) c.args.form i_2 skip_2 target_2 last_2

  kept_2 : Kept state_2 edited_2
  kept_2 = kept_more state_2 c.put_three.new.state edited_2 c.put_three.ensures.2 c.put_carry.ensures.kept

  forms_are_2 : forms_in edited_2 ≡ set (set (set (forms_in state_2) skip_2 70) target_2 70) last_2 70
  forms_are_2 = c.put_carry.ensures.forms ∙ c.put_three.ensures.0

  carry_is_2 : carry_in edited_2 ≡ set (carry_in state_2) i_2 (get_or (carry_in state_2) last_2 0)
  carry_is_2 = c.put_carry.ensures.carry ∙ ap (λ (l : List ℕ). set l i_2 (get_or (carry_in state_2) last_2 0)) c.put_three.ensures.1

  held_2 : Holding (table_of c.args.frames.now edited_2 c.args.count) folded_2
  held_2 =
      held_kept c.args.frames.now state_2 edited_2 c.args.count kept_2 folded_2
      (bounced_holds _ _ _ _ _ _ _ c.requires.0 c.args.form i_2 skip_2 target_2 last_2 (forms_in edited_2) (carry_in edited_2) c.requires.1
      forms_are_2 carry_is_2)

pub reason_of-requires : goal.reason_of-requires
reason_of-requires c =
    ((held c).stands, beside_kept c.args.frames.now (state c) (edited c) c.args.count (kept c) _ c.requires.2)

pub returns : goal.returns
returns c = c.reason_of.ensures ∙ ap reason_of (held_2 c).is
