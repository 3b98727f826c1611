-- `why::tries::try_inverted` meets its contract: no shape, an inner label in the way, or what is said of the candidate.
use Prim.Native.Nat.{ℕ}
use mathlib.Core.Path.{sym, ap, ◌∙◌, subst}
use Rattle.rules.specs.Rewriting.{inverted}
use Rattle.slots.specs.Slots.{Slots, program_of}
use Rattle.slots.specs.State.{table_of}
use Rattle.patterns.specs.Matches.{InvertedShaped, InvertedBegins}
use Rattle.staying.specs.Reasons.{reason_of}
use Rattle.why.proofs.Said.{fold_untried, fold_between, fold_inside, fold_said}
use Rattle.why.proofs.Found.{inverted_left}
use Rattle.why.proofs.tries.try_inverted.Goals as goal

module _ (s : goal.After-from_residual) where
  abbrev old : Slots
  old = table_of s.args.frames.now s.args.state.now s.args.count

  abbrev i : ℕ
  i = s.args.at.0

module _ (s : goal.Then-not-no_inner_label_between) where
  abbrev old_2 : Slots
  old_2 = table_of s.args.frames.now s.args.state.now s.args.count

  abbrev i_2 : ℕ
  i_2 = s.args.at.0

module _ (s : goal.Then-not-no_interior_label_at) where
  abbrev old_3 : Slots
  old_3 = table_of s.args.frames.now s.args.state.now s.args.count

  abbrev i_3 : ℕ
  i_3 = s.args.at.0

module _ (s : goal.After-inverted_reason) where
  abbrev old_4 : Slots
  old_4 = table_of s.args.frames.now s.args.state.now s.args.count

  abbrev i_4 : ℕ
  i_4 = s.args.at.0

-- the shape that stands
module _ (c : goal.Then-not-no_inner_label_between) where
  abbrev jump : ℕ
  jump = c.in_ok-jump.jump.0

  abbrev label : ℕ
  label = c.in_ok-jump.m.0

  found : InvertedShaped (old_2 c) c.args.from (i_2 c) jump label
  found = subst (InvertedBegins (old_2 c) c.args.from (i_2 c)) c.in_ok-jump.was c.inverted_shape.ensures

-- the shape that stands
module _ (c : goal.Then-not-no_interior_label_at) where
  abbrev jump_2 : ℕ
  jump_2 = c.in_ok-jump.jump.0

  abbrev label_2 : ℕ
  label_2 = c.in_ok-jump.m.0

  found_2 : InvertedShaped (old_3 c) c.args.from (i_3 c) jump_2 label_2
  found_2 = subst (InvertedBegins (old_3 c) c.args.from (i_3 c)) c.in_ok-jump.was c.inverted_shape.ensures

-- the shape that stands
module _ (c : goal.After-inverted_reason) where
  abbrev jump_3 : ℕ
  jump_3 = c.in_ok-jump.jump.0

  abbrev label_3 : ℕ
  label_3 = c.in_ok-jump.m.0

  found_3 : InvertedShaped (old_4 c) c.args.from (i_4 c) jump_3 label_3
  found_3 = subst (InvertedBegins (old_4 c) c.args.from (i_4 c)) c.in_ok-jump.was c.inverted_shape.ensures

pub returns-in_err-jump : goal.returns-in_err-jump
returns-in_err-jump c =
    c.from_residual.ensures
    ∙ fold_untried (program_of (old c)) (inverted c.args.from c.args.to) (i c)
    (subst (InvertedBegins (old c) c.args.from (i c)) c.in_err-jump.was c.inverted_shape.ensures c.args.to)

pub returns-then-not-no_inner_label_between : goal.returns-then-not-no_inner_label_between
returns-then-not-no_inner_label_between c =
    fold_between (program_of (old_2 c)) (inverted c.args.from c.args.to) (i_2 c) _ ((found c).shape c.args.to)
    (sym c.no_inner_label_between.ensures ∙ c.if-not-no_inner_label_between.true)

pub returns-then-not-no_interior_label_at : goal.returns-then-not-no_interior_label_at
returns-then-not-no_interior_label_at c =
    fold_inside (program_of (old_3 c)) (inverted c.args.from c.args.to) (i_3 c) _ ((found_2 c).shape c.args.to)
    (sym c.no_inner_label_between.ensures ∙ c.if-not-no_inner_label_between.false)
    (sym c.no_interior_label_at.ensures ∙ c.if-not-no_interior_label_at.true)

pub returns : goal.returns
returns c =
    fold_said (program_of (old_4 c)) (inverted c.args.from c.args.to) (i_4 c) _ ((found_3 c).shape c.args.to)
    (sym c.no_inner_label_between.ensures ∙ c.if-not-no_inner_label_between.false)
    (sym c.no_interior_label_at.ensures ∙ c.if-not-no_interior_label_at.false)
    c.inverted_reason.result (c.inverted_reason.ensures ∙ ap reason_of (inverted_left (old_4 c) c.args.to (i_4 c) (jump_3 c)))
