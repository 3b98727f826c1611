-- `attempts::folds::try_trampoline` meets its contract: no pattern, or the attempt at the fold of the one that is found.
use Prim.Native.Nat.{ℕ}
use Rattle.rules.specs.Rewriting.{candidate, trampoline_at}
use Rattle.slots.specs.Slots.{Slots, program_of}
use Rattle.patterns.specs.Matches.{TrampolineFound}
use Rattle.attempts.specs.Folds.{bounced}
use Rattle.attempts.proofs.Attempts.{tried_as}
use Rattle.attempts.proofs.Found.{trampoline_found, bounces, bounced_is}
use Rattle.slots.specs.State.{table_of}
use Rattle.attempts.proofs.folds.try_trampoline.Goals as goal

module _ (s : goal.After-attempt_trampoline) where
  abbrev old : Slots
  old = table_of s.args.frames.now s.args.state.now s.args.count

  abbrev i : ℕ
  i = s.args.at.0

-- the pattern that is found
module _ (c : goal.After-attempt_trampoline) where
  abbrev skip : ℕ
  skip = c.in-Some.skip.0

  abbrev target : ℕ
  target = c.in-Some.target.0

  abbrev last : ℕ
  last = c.in-Some.last.0

  abbrev label : ℕ
  label = c.in-Some.field-0-3.0

  found : TrampolineFound (old c) c.args.form (i c) skip target last label
  found = trampoline_found (old c) c.args.form (i c) c.in-Some.is c.trampoline_at.ensures

pub returns : goal.returns
returns c =
    tried_as (trampoline_at c.args.form (program_of (old c)) (i c))
    (candidate (bounced (old c) c.args.form (i c) (skip c) (target c) (last c))) (old c)
    _ c.attempt_trampoline.result
    (bounced_is (old c) c.args.form (i c) (skip c) (target c) (last c) (label c) (found c))
    (c.attempt_trampoline.ensures c.args.form (bounces (old c) c.args.form (i c) (skip c) (target c) (last c) (label c) (found c)))
