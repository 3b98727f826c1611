-- `why::tries::try_trampoline` meets its contract: no shape, an inner label in the way, or what is said of the candidate.
use Prim.Native.Nat.{ℕ}
use mathlib.Core.Path.{sym, ap, ◌∙◌, subst}
use Rattle.rules.specs.Rewriting.{trampoline}
use Rattle.slots.specs.Slots.{Slots, program_of}
use Rattle.slots.specs.State.{table_of}
use Rattle.patterns.specs.Matches.{TrampolineShaped, TrampolineBegins}
use Rattle.staying.specs.Reasons.{reason_of}
use Rattle.why.proofs.Said.{fold_untried, fold_between, fold_inside, fold_said}
use Rattle.why.proofs.Found.{bounced_left}
use Rattle.why.proofs.tries.try_trampoline.Goals as goal

module _ (s : goal.After-from_residual) where
  abbrev old : Slots
  old = table_of s.args.frames.now s.args.state.now s.args.count

  abbrev i : ℕ
  i = s.args.at.0

module _ (s : goal.Then-not-no_inner_label_between) where
  abbrev old_2 : Slots
  old_2 = table_of s.args.frames.now s.args.state.now s.args.count

  abbrev i_2 : ℕ
  i_2 = s.args.at.0

module _ (s : goal.Then-not-no_interior_label_at) where
  abbrev old_3 : Slots
  old_3 = table_of s.args.frames.now s.args.state.now s.args.count

  abbrev i_3 : ℕ
  i_3 = s.args.at.0

module _ (s : goal.After-bounced_reason) where
  abbrev old_4 : Slots
  old_4 = table_of s.args.frames.now s.args.state.now s.args.count

  abbrev i_4 : ℕ
  i_4 = s.args.at.0

-- the shape that stands
module _ (c : goal.Then-not-no_inner_label_between) where
  abbrev skip : ℕ
  skip = c.in_ok-skip.skip.0

  abbrev target : ℕ
  target = c.in_ok-skip.t.0

  abbrev last : ℕ
  last = c.in_ok-skip.last.0

  abbrev label : ℕ
  label = c.in_ok-skip.s.0

  found : TrampolineShaped (old_2 c) c.args.form (i_2 c) skip target last label
  found = subst (TrampolineBegins (old_2 c) c.args.form (i_2 c)) c.in_ok-skip.was c.trampoline_shape.ensures

-- the shape that stands
module _ (c : goal.Then-not-no_interior_label_at) where
  abbrev skip_2 : ℕ
  skip_2 = c.in_ok-skip.skip.0

  abbrev target_2 : ℕ
  target_2 = c.in_ok-skip.t.0

  abbrev last_2 : ℕ
  last_2 = c.in_ok-skip.last.0

  abbrev label_2 : ℕ
  label_2 = c.in_ok-skip.s.0

  found_2 : TrampolineShaped (old_3 c) c.args.form (i_3 c) skip_2 target_2 last_2 label_2
  found_2 = subst (TrampolineBegins (old_3 c) c.args.form (i_3 c)) c.in_ok-skip.was c.trampoline_shape.ensures

-- the shape that stands
module _ (c : goal.After-bounced_reason) where
  abbrev skip_3 : ℕ
  skip_3 = c.in_ok-skip.skip.0

  abbrev target_3 : ℕ
  target_3 = c.in_ok-skip.t.0

  abbrev last_3 : ℕ
  last_3 = c.in_ok-skip.last.0

  abbrev label_3 : ℕ
  label_3 = c.in_ok-skip.s.0

  found_3 : TrampolineShaped (old_4 c) c.args.form (i_4 c) skip_3 target_3 last_3 label_3
  found_3 = subst (TrampolineBegins (old_4 c) c.args.form (i_4 c)) c.in_ok-skip.was c.trampoline_shape.ensures

pub returns-in_err-skip : goal.returns-in_err-skip
returns-in_err-skip c =
    c.from_residual.ensures
    ∙ fold_untried (program_of (old c)) (trampoline c.args.form) (i c)
    (subst (TrampolineBegins (old c) c.args.form (i c)) c.in_err-skip.was c.trampoline_shape.ensures)

pub returns-then-not-no_inner_label_between : goal.returns-then-not-no_inner_label_between
returns-then-not-no_inner_label_between c =
    fold_between (program_of (old_2 c)) (trampoline c.args.form) (i_2 c) _ (found c).shape (sym c.no_inner_label_between.ensures
    ∙ c.if-not-no_inner_label_between.true)

pub returns-then-not-no_interior_label_at : goal.returns-then-not-no_interior_label_at
returns-then-not-no_interior_label_at c =
    fold_inside (program_of (old_3 c)) (trampoline c.args.form) (i_3 c) _ (found_2 c).shape
    (sym c.no_inner_label_between.ensures ∙ c.if-not-no_inner_label_between.false)
    (sym c.no_interior_label_at.ensures ∙ c.if-not-no_interior_label_at.true)

pub returns : goal.returns
returns c =
    fold_said (program_of (old_4 c)) (trampoline c.args.form) (i_4 c) _ (found_3 c).shape
    (sym c.no_inner_label_between.ensures ∙ c.if-not-no_inner_label_between.false)
    (sym c.no_interior_label_at.ensures ∙ c.if-not-no_interior_label_at.false)
    c.bounced_reason.result (c.bounced_reason.ensures ∙ ap reason_of (bounced_left (old_4 c) c.args.form (i_4 c) (skip_3 c) (target_3 c)
    (last_3 c)))
