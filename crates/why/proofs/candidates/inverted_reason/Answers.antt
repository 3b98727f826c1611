-- `why::candidates::inverted_reason` meets its contract: the copy holds the program with the fold done.
use Prim.Native.Nat.{ℕ}
use mathlib.Core.Path.{ap, ◌∙◌}
use mathlib.Core.List.{List}
use Rattle.rules.specs.Programs.{Program}
use Rattle.slots.specs.Slots.{Slots}
use Rattle.slots.specs.State.{forms_in, carry_in, table_of}
use Rattle.attempts.specs.Folds.{inverted}
use Rattle.attempts.proofs.Attempts.{Holding, inverted_holds, held_kept, beside_kept}
use Rattle.staying.specs.Reasons.{reason_of}
use Rattle.why.proofs.candidates.inverted_reason.Goals as goal

-- the candidate, in the copy
module _ (c : goal.After-tried-3-1) where
  abbrev state : List (List ℕ)
  state = c.args.state.now

  abbrev edited : List (List ℕ)
  edited = c.put_two.new.state

  abbrev old : Slots
  old = table_of c.args.frames.now state c.args.count

  abbrev folded : Program
  folded = inverted old c.args.to c.args.at.0 c.args.jump.0

  held : Holding (table_of c.args.frames.now edited c.args.count) folded
  held =
      held_kept c.args.frames.now state edited c.args.count c.put_two.ensures.2 folded
      (inverted_holds _ _ _ _ _ _ _ c.requires.0 c.args.to c.args.at.0 c.args.jump.0 (forms_in edited) (carry_in edited) c.requires.1
      c.put_two.ensures.0 c.put_two.ensures.1)

-- the candidate, in the copy
module _ (c : goal.After-reason_of) where
  abbrev state_2 : List (List ℕ)
  state_2 = c.args.state.now

  abbrev edited_2 : List (List ℕ)
  edited_2 = c.put_two.new.state

  abbrev old_2 : Slots
  old_2 = table_of c.args.frames.now state_2 c.args.count

  abbrev folded_2 : Program
  folded_2 = inverted old_2 c.args.to c.args.at.0 c.args.jump.0

  held_2 : Holding (table_of c.args.frames.now edited_2 c.args.count) folded_2
  held_2 =
      held_kept c.args.frames.now state_2 edited_2 c.args.count c.put_two.ensures.2 folded_2
      (inverted_holds _ _ _ _ _ _ _ c.requires.0 c.args.to c.args.at.0 c.args.jump.0 (forms_in edited_2) (carry_in edited_2) c.requires.1
      c.put_two.ensures.0 c.put_two.ensures.1)

pub reason_of-requires : goal.reason_of-requires
reason_of-requires c =
    ((held c).stands, beside_kept c.args.frames.now (state c) (edited c) c.args.count c.put_two.ensures.2 _ c.requires.2)

pub returns : goal.returns
returns c = c.reason_of.ensures ∙ ap reason_of (held_2 c).is
