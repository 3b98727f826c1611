-- `why::tries::try_shorter` meets its contract: another form, a change jump, an inner label in the way, or what is said of the candidate.
use Prim.Native.Nat.{ℕ}
use mathlib.Core.Path.{◌≡◌, sym, ◌∙◌, subst}
use mathlib.Core.Bool.{true}
use mathlib.Core.Option.{some}
use lib.ListN.{get_or}
use Rattle.laws.specs.Options.{is_some}
use Rattle.laws.proofs.Options.{said_none}
use Rattle.rules.specs.Judging.{names_of}
use Rattle.rules.specs.Programs.{Program}
use Rattle.rules.specs.Rewriting.{branch}
use Rattle.slots.specs.Slots.{Slots, program_of, Agree}
use Rattle.slots.specs.State.{forms_in, carry_in, owners_in, offsets_in, table_of}
use Rattle.patterns.specs.Targets.{stands_at, instr_at}
use Rattle.patterns.specs.Matches.{Moves}
use Rattle.patterns.proofs.Folds.{transfer_known, branch_slot}
use Rattle.why.proofs.Said.{form_untried, form_change, form_inside, form_said}
use Rattle.why.proofs.tries.try_shorter.Goals as goal

module _ (s : goal.Then-not-branch_at) where
  abbrev old : Slots
  old = table_of s.args.frames.now s.args.state.now s.args.count

  abbrev program : Program
  program = program_of old

  abbrev i : ℕ
  i = s.args.at.0

module _ (s : goal.Then-is_change_jump) where
  abbrev old_2 : Slots
  old_2 = table_of s.args.frames.now s.args.state.now s.args.count

  abbrev program_2 : Program
  program_2 = program_of old_2

  abbrev i_2 : ℕ
  i_2 = s.args.at.0

module _ (s : goal.Then-not-no_interior_label_at) where
  abbrev old_3 : Slots
  old_3 = table_of s.args.frames.now s.args.state.now s.args.count

  abbrev program_3 : Program
  program_3 = program_of old_3

  abbrev i_3 : ℕ
  i_3 = s.args.at.0

module _ (s : goal.Else-not-no_interior_label_at) where
  abbrev old_4 : Slots
  old_4 = table_of s.args.frames.now s.args.state.now s.args.count

  abbrev i_4 : ℕ
  i_4 = s.args.at.0

module _ (s : goal.After-form_reason) where
  abbrev old_5 : Slots
  old_5 = table_of s.args.frames.now s.args.state.now s.args.count

  abbrev program_5 : Program
  program_5 = program_of old_5

  abbrev i_5 : ℕ
  i_5 = s.args.at.0

-- whether the long form stands there
module _ (c : goal.Then-not-branch_at) where
  stands : c.branch_at.result ≡ is_some (branch c.args.long (stands_at (old c) (i c)))
  stands = c.branch_at.ensures (carry_in c.args.state.now) (owners_in c.args.state.now) (offsets_in c.args.state.now)

-- whether the long form stands there
module _ (c : goal.Then-is_change_jump) where
  stands_2 : c.branch_at.result ≡ is_some (branch c.args.long (stands_at (old_2 c) (i_2 c)))
  stands_2 = c.branch_at.ensures (carry_in c.args.state.now) (owners_in c.args.state.now) (offsets_in c.args.state.now)

  slot_2 : c.branch_at.result ≡ true → Moves (old_2 c) (i_2 c) × (get_or (forms_in c.args.state.now) (i_2 c) 0 ≡ c.args.long)
      × (branch c.args.long (stands_at (old_2 c) (i_2 c)) ≡ some (instr_at (old_2 c) (i_2 c)))
  slot_2 e = branch_slot (old_2 c) c.requires.0.sound.held (i_2 c) c.requires.3 c.args.long c.requires.4 (sym stands_2 ∙ e)

-- whether the long form stands there
module _ (c : goal.Then-not-no_interior_label_at) where
  stands_3 : c.branch_at.result ≡ is_some (branch c.args.long (stands_at (old_3 c) (i_3 c)))
  stands_3 = c.branch_at.ensures (carry_in c.args.state.now) (owners_in c.args.state.now) (offsets_in c.args.state.now)

  slot_3 : c.branch_at.result ≡ true → Moves (old_3 c) (i_3 c) × (get_or (forms_in c.args.state.now) (i_3 c) 0 ≡ c.args.long)
      × (branch c.args.long (stands_at (old_3 c) (i_3 c)) ≡ some (instr_at (old_3 c) (i_3 c)))
  slot_3 e = branch_slot (old_3 c) c.requires.0.sound.held (i_3 c) c.requires.3 c.args.long c.requires.4 (sym stands_3 ∙ e)

-- whether the long form stands there
module _ (c : goal.Else-not-no_interior_label_at) where
  stands_4 : c.branch_at.result ≡ is_some (branch c.args.long (stands_at (old_4 c) (i_4 c)))
  stands_4 = c.branch_at.ensures (carry_in c.args.state.now) (owners_in c.args.state.now) (offsets_in c.args.state.now)

  slot_4 : c.branch_at.result ≡ true → Moves (old_4 c) (i_4 c) × (get_or (forms_in c.args.state.now) (i_4 c) 0 ≡ c.args.long)
      × (branch c.args.long (stands_at (old_4 c) (i_4 c)) ≡ some (instr_at (old_4 c) (i_4 c)))
  slot_4 e = branch_slot (old_4 c) c.requires.0.sound.held (i_4 c) c.requires.3 c.args.long c.requires.4 (sym stands_4 ∙ e)

-- whether the long form stands there
module _ (c : goal.After-form_reason) where
  stands_5 : c.branch_at.result ≡ is_some (branch c.args.long (stands_at (old_5 c) (i_5 c)))
  stands_5 = c.branch_at.ensures (carry_in c.args.state.now) (owners_in c.args.state.now) (offsets_in c.args.state.now)

  slot_5 : c.branch_at.result ≡ true → Moves (old_5 c) (i_5 c) × (get_or (forms_in c.args.state.now) (i_5 c) 0 ≡ c.args.long)
      × (branch c.args.long (stands_at (old_5 c) (i_5 c)) ≡ some (instr_at (old_5 c) (i_5 c)))
  slot_5 e = branch_slot (old_5 c) c.requires.0.sound.held (i_5 c) c.requires.3 c.args.long c.requires.4 (sym stands_5 ∙ e)

pub branch_at-requires : goal.branch_at-requires
branch_at-requires c = (c.requires.0.sound.held, transfer_known c.args.long c.requires.4)

pub returns-then-not-branch_at : goal.returns-then-not-branch_at
returns-then-not-branch_at c =
    form_untried (names_of (program c)) (program c) c.args.form c.args.long (i c)
    (said_none (branch c.args.long (stands_at (old c) (i c))) (sym (stands c) ∙ c.if-not-branch_at.true))

pub returns-then-is_change_jump : goal.returns-then-is_change_jump
returns-then-is_change_jump c =
    form_change (names_of (program_2 c)) (program_2 c) c.args.form c.args.long (i_2 c) (instr_at (old_2 c) (i_2 c))
    (slot_2 c (c.if-not-branch_at.false)).2
    (sym c.is_change_jump.ensures ∙ c.if-is_change_jump.true)

pub returns-then-not-no_interior_label_at : goal.returns-then-not-no_interior_label_at
returns-then-not-no_interior_label_at c =
    form_inside (names_of (program_3 c)) (program_3 c) c.args.form c.args.long (i_3 c) (instr_at (old_3 c) (i_3 c))
    (slot_3 c (c.if-not-branch_at.false)).2
    (sym c.is_change_jump.ensures ∙ c.if-is_change_jump.false) (sym c.no_interior_label_at.ensures ∙ c.if-not-no_interior_label_at.true)

pub form_reason-requires : goal.form_reason-requires
form_reason-requires c =
    let h = slot_4 c (c.if-not-branch_at.false) in
    (c.requires.0, c.requires.3, h.0.kind, subst (λ (f : ℕ). Agree c.args.form f) (sym h.1) c.requires.5, c.requires.2)

pub returns : goal.returns
returns c =
    form_said (names_of (program_5 c)) (program_5 c) c.args.form c.args.long (i_5 c) (instr_at (old_5 c) (i_5 c))
    (slot_5 c (c.if-not-branch_at.false)).2
    (sym c.is_change_jump.ensures ∙ c.if-is_change_jump.false) (sym c.no_interior_label_at.ensures ∙ c.if-not-no_interior_label_at.false)
    c.form_reason.result c.form_reason.ensures
