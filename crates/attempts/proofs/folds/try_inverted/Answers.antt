-- `attempts::folds::try_inverted` meets its contract: no pattern, or the attempt at the fold of the one that is found.
use Prim.Native.Nat.{ℕ}
use Rattle.rules.specs.Rewriting.{candidate, inverted_at}
use Rattle.slots.specs.Slots.{Slots, program_of}
use Rattle.patterns.specs.Matches.{InvertedFound}
use Rattle.attempts.specs.Folds.{inverted}
use Rattle.attempts.proofs.Attempts.{tried_as}
use Rattle.attempts.proofs.Found.{inverted_found, inverted_is}
use Rattle.slots.specs.State.{table_of}
use Rattle.attempts.proofs.folds.try_inverted.Goals as goal

module _ (s : goal.After-attempt_inverted) where
  abbrev old : Slots
  old = table_of s.args.frames.now s.args.state.now s.args.count

  abbrev i : ℕ
  i = s.args.at.0

-- the pattern that is found
module _ (c : goal.After-attempt_inverted) where
  abbrev jump : ℕ
  jump = c.in-Some.jump.0

  abbrev label : ℕ
  label = c.in-Some.field-0-1.0

  found : InvertedFound (old c) c.args.from (i c) jump label
  found = inverted_found (old c) c.args.from (i c) c.in-Some.is c.inverted_at.ensures

pub returns : goal.returns
returns c =
    tried_as (inverted_at c.args.from c.args.to (program_of (old c)) (i c)) (candidate (inverted (old c) c.args.to (i c) (jump c))) (old c)
    _ c.attempt_inverted.result
    (inverted_is (old c) c.args.from (i c) (jump c) (label c) (found c) c.args.to) c.attempt_inverted.ensures
