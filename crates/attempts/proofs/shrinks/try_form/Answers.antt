-- `attempts::shrinks::try_form` meets its contract: an inner label in the way, or the candidate that counts, or the old form put back.
use Prim.Native.Nat.{ℕ, ◌≤◌, ◌<◌}
use native.Mathlib.Omega.{arith}
use lib.Dec.{ltb}
use mathlib.Core.Path.{◌≡◌, subst, ◌∙◌}
use mathlib.Core.List.{List}
use mathlib.Core.Option.{none}
use lib.ListN.{get_or, set}
use borrow.Author.Tests.{lt-ltb, le-ltb}
use Rattle.laws.proofs.Options.{given_true, given_false}
use Rattle.laws.proofs.Stores.{undone}
use Rattle.rules.specs.Programs.{instr, args_of, Program}
use Rattle.rules.specs.Rewriting.{candidate, no_interior_label_at}
use Rattle.slots.specs.Slots.{Slots, slots, slot_at, program_of}
use Rattle.slots.specs.State.{starts_in, forms_in, carry_in, owners_in, offsets_in, table_of}
use Rattle.slots.proofs.State.{kept_more}
use Rattle.attempts.specs.Shrinks.{shrunk}
use Rattle.attempts.proofs.Attempts.{Holding, formed_holds, held_kept, beside_kept, table_same, tried_as, tried_not, tried_kept, tried_none, tried_back}
use Rattle.attempts.specs.Reach.{OutOfReach}
use Rattle.attempts.proofs.Depths.{deepest_says}
use Rattle.attempts.proofs.Missed.{out_of_reach}
use Rattle.attempts.proofs.shrinks.try_form.Goals as goal
use Rattle.attempts.proofs.shrinks.try_form.Goals.{Joined-then-deepest-at-gt1, then-deepest-at-gt1-via-then-deepest-at-gt1, then-deepest-at-gt1-via-else-deepest-at-gt1+then-misses}

-- the slots as they were
module _ (s : Joined-then-deepest-at-gt1) where
  abbrev state : List (List ℕ)
  state = s.args.state.now

  abbrev i : ℕ
  i = s.args.at.0

  abbrev old : Slots
  old = table_of s.args.frames.now state s.args.count

  abbrev formed : Program
  formed = set (program_of old) i (instr s.args.form (args_of (slot_at old i)) (get_or (carry_in state) i 0))

  abbrev deep : ℕ
  deep = get_or s.args.deepest.now i 0

  says : no_interior_label_at (program_of old) i ≡ ltb deep 2
  says = deepest_says old s.args.deepest.now s.requires.0.sound s.requires.1 i s.requires.2

  blocked : 1 < deep → shrunk old i s.args.form ≡ none
  unfolding shrunk
  blocked l = given_false (no_interior_label_at (program_of old) i) (candidate formed) (says ∙ le-ltb deep 2 (omega arith))

  -- with a form in place
  abbrev with : (forms : List ℕ) → Slots
  with forms = slots s.args.frames.now (starts_in state) s.args.count forms (carry_in state) (owners_in state) (offsets_in state)

  far : OutOfReach (with (set (forms_in state) i s.args.form)) (get_or s.args.positions.now i 0) s.args.form i → shrunk old i s.args.form
      ≡ none
  far o =
      out_of_reach s.args.frames.now (starts_in state) s.args.count (forms_in state) (carry_in state) (owners_in state)
      (offsets_in state)
      s.requires.0 s.args.form i s.requires.2 s.requires.3 s.requires.4 s.requires.7 s.requires.8
      (subst (λ (q : ℕ). OutOfReach (with (set (forms_in state) i s.args.form)) q s.args.form i)
      (s.requires.6 i (omega (arith, s.requires.2))) o)

-- the slots as they were
module _ (s : goal.After-put_form) where
  abbrev state_3 : List (List ℕ)
  state_3 = s.args.state.now

  abbrev i_3 : ℕ
  i_3 = s.args.at.0

  abbrev old_3 : Slots
  old_3 = table_of s.args.frames.now state_3 s.args.count

  abbrev formed_3 : Program
  formed_3 = set (program_of old_3) i_3 (instr s.args.form (args_of (slot_at old_3 i_3)) (get_or (carry_in state_3) i_3 0))

-- the slots as they were
module _ (s : goal.Then-acceptable) where
  abbrev state_4 : List (List ℕ)
  state_4 = s.args.state.now

  abbrev i_4 : ℕ
  i_4 = s.args.at.0

  abbrev old_4 : Slots
  old_4 = table_of s.args.frames.now state_4 s.args.count

  abbrev formed_4 : Program
  formed_4 = set (program_of old_4) i_4 (instr s.args.form (args_of (slot_at old_4 i_4)) (get_or (carry_in state_4) i_4 0))

  abbrev deep_4 : ℕ
  deep_4 = get_or s.args.deepest.now i_4 0

  says_4 : no_interior_label_at (program_of old_4) i_4 ≡ ltb deep_4 2
  says_4 = deepest_says old_4 s.args.deepest.now s.requires.0.sound s.requires.1 i_4 s.requires.2

  free_4 : deep_4 ≤ 1 → shrunk old_4 i_4 s.args.form ≡ candidate formed_4
  unfolding shrunk
  free_4 l = given_true (no_interior_label_at (program_of old_4) i_4) (candidate formed_4) (says_4 ∙ lt-ltb deep_4 2 (omega arith))

-- the slots as they were
module _ (s : goal.After-put_form-2) where
  abbrev state_5 : List (List ℕ)
  state_5 = s.args.state.now

  abbrev i_5 : ℕ
  i_5 = s.args.at.0

  abbrev old_5 : Slots
  old_5 = table_of s.args.frames.now state_5 s.args.count

  abbrev formed_5 : Program
  formed_5 = set (program_of old_5) i_5 (instr s.args.form (args_of (slot_at old_5 i_5)) (get_or (carry_in state_5) i_5 0))

  abbrev deep_5 : ℕ
  deep_5 = get_or s.args.deepest.now i_5 0

  says_5 : no_interior_label_at (program_of old_5) i_5 ≡ ltb deep_5 2
  says_5 = deepest_says old_5 s.args.deepest.now s.requires.0.sound s.requires.1 i_5 s.requires.2

  free_5 : deep_5 ≤ 1 → shrunk old_5 i_5 s.args.form ≡ candidate formed_5
  unfolding shrunk
  free_5 l = given_true (no_interior_label_at (program_of old_5) i_5) (candidate formed_5) (says_5 ∙ lt-ltb deep_5 2 (omega arith))

-- with the form in place
module _ (c : goal.After-put_form) where
  abbrev edited : List (List ℕ)
  edited = c.put_form.new.state

  abbrev new : Slots
  new = table_of c.args.frames.now edited c.args.count

  held : Holding new (formed_3 c)
  held =
      held_kept c.args.frames.now (state_3 c) edited c.args.count c.put_form.ensures.kept (formed_3 c)
      (formed_holds _ _ _ _ _ _ _ c.requires.0 c.args.form (i_3 c) (forms_in edited) (carry_in edited) c.requires.2 c.requires.3
      c.requires.4
      c.put_form.ensures.forms c.put_form.ensures.carry)

-- with the form in place
module _ (c : goal.Then-acceptable) where
  abbrev edited_2 : List (List ℕ)
  edited_2 = c.put_form.new.state

  abbrev new_2 : Slots
  new_2 = table_of c.args.frames.now edited_2 c.args.count

  held_2 : Holding new_2 (formed_4 c)
  held_2 =
      held_kept c.args.frames.now (state_4 c) edited_2 c.args.count c.put_form.ensures.kept (formed_4 c)
      (formed_holds _ _ _ _ _ _ _ c.requires.0 c.args.form (i_4 c) (forms_in edited_2) (carry_in edited_2) c.requires.2 c.requires.3
      c.requires.4
      c.put_form.ensures.forms c.put_form.ensures.carry)

-- with the form in place
module _ (c : goal.After-put_form-2) where
  abbrev edited_3 : List (List ℕ)
  edited_3 = c.put_form.new.state

  abbrev new_3 : Slots
  new_3 = table_of c.args.frames.now edited_3 c.args.count

  held_3 : Holding new_3 (formed_5 c)
  held_3 =
      held_kept c.args.frames.now (state_5 c) edited_3 c.args.count c.put_form.ensures.kept (formed_5 c)
      (formed_holds _ _ _ _ _ _ _ c.requires.0 c.args.form (i_5 c) (forms_in edited_3) (carry_in edited_3) c.requires.2 c.requires.3
      c.requires.4
      c.put_form.ensures.forms c.put_form.ensures.carry)

-- an inner label in the way, or a target out of reach
pub returns-then-deepest-at-gt1 : goal.returns-then-deepest-at-gt1
returns-then-deepest-at-gt1 c =
    let none_there : shrunk (old c) (i c) c.args.form ≡ none =
    elim c.then-deepest-at-gt1.branch [
      | then-deepest-at-gt1-via-then-deepest-at-gt1 w ↦ blocked c w.if-deepest-at-gt1.true
      | then-deepest-at-gt1-via-else-deepest-at-gt1+then-misses w ↦ far c (w.misses.ensures w.if-misses.true _ _)
    ] in
    tried_not (shrunk (old c) (i c) c.args.form) (old c) c.requires.0 none_there

pub acceptable-requires : goal.acceptable-requires
acceptable-requires c = (
  (held c).stands,
  c.requires.2,
  beside_kept c.args.frames.now (state_3 c) (edited c) c.args.count c.put_form.ensures.kept _
      c.requires.5,
)

pub returns-then-acceptable : goal.returns-then-acceptable
returns-then-acceptable c =
    tried_as (shrunk (old_4 c) (i_4 c) c.args.form) (candidate (formed_4 c)) (old_4 c) (new_2 c) _ (free_4 c c.if-deepest-at-gt1.false)
    (tried_kept (formed_4 c) (old_4 c) (new_2 c) (held_2 c) c.acceptable.result c.acceptable.ensures c.if-acceptable.true
    c.put_form.ensures.kept.starts)

pub returns : goal.returns
returns c =
    let r = c.put_form-2.new.state in
    let back : forms_in r ≡ forms_in (state_5 c) =
    undone (forms_in (state_5 c)) (forms_in (edited_3 c)) (forms_in r) (i_5 c) _ _ 0 c.put_form.ensures.forms c.form_in-old.ensures
    c.put_form-2.ensures.forms in
    tried_back (shrunk (old_5 c) (i_5 c) c.args.form) (old_5 c) _ c.requires.0
    (free_5 c c.if-deepest-at-gt1.false ∙ tried_none (formed_5 c) (old_5 c) (new_3 c) (held_3 c) c.acceptable.result c.acceptable.ensures
    c.if-acceptable.false)
    (table_same c.args.frames.now (state_5 c) r c.args.count (kept_more (state_5 c) (edited_3 c) r c.put_form.ensures.kept
    c.put_form-2.ensures.kept) back
    (c.put_form-2.ensures.carry ∙ c.put_form.ensures.carry))
