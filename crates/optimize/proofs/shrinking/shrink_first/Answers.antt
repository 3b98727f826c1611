-- `optimize::shrinking::shrink_first` meets its contract. The loop's invariant: the tables are what they were, and nothing was found so
-- far.
use mathlib.Core.Path.{◌∙◌}
use mathlib.Core.Option.{Option}
use Rattle.rules.specs.Programs.{Placeℕ, Program}
use Rattle.rules.specs.declared.Settings.{Settings}
use Rattle.rules.specs.Judging.{names_of}
use Rattle.rules.specs.Rewriting.{shrink_at, anywhere}
use Rattle.slots.specs.Slots.{Slots, program_of}
use Rattle.slots.specs.State.{table_of}
use Rattle.optimize.proofs.Tries.{tried_as, found, missed, ended, anywhere_is}
use Rattle.optimize.proofs.shrinking.shrink_first.Goals as goal

-- what is tried
abbrev tries : Settings → Slots → (i : Placeℕ) → Option Program
tries asked t i = shrink_at asked (names_of (program_of t)) (program_of t) i

abbrev here : (c : goal.Then-shrink_at) → Slots
here c =
    table_of c.args.frames.now c.args.state.now c.args.count

abbrev here_2 : (c : goal.After-loop-i) → Slots
here_2 c =
    table_of c.args.frames.now c.args.state.now c.args.count

pub returns-then-shrink_at : goal.returns-then-shrink_at
returns-then-shrink_at c =
    tried_as _ (anywhere (tries c.args.asked (here c)) (program_of (here c))) (anywhere_is (tries c.args.asked (here c)) (here c))
    (found (tries c.args.asked) c.args.count c.loop-i.i c.loop-i.invariant.0 c.loop-i.invariant.1 c.loop-i-test.true c.shrink_at.ensures
    c.if-shrink_at.true)

pub loop-i-preserved : goal.loop-i-preserved
loop-i-preserved c =
    let e = c.shrink_at.ensures in (
      e.kept c.if-shrink_at.false ∙ c.loop-i.invariant.0,
      missed (tries c.args.asked) c.args.count c.loop-i.i c.loop-i.invariant.0 c.loop-i.invariant.1 c.loop-i-test.true e
          c.if-shrink_at.false,
    )

pub returns : goal.returns
returns c =
    tried_as _ (anywhere (tries c.args.asked (here_2 c)) (program_of (here_2 c))) (anywhere_is (tries c.args.asked (here_2 c)) (here_2 c))
    (ended (tries c.args.asked) c.args.count c.loop-i.i c.loop-i.invariant.0 c.loop-i.invariant.1 c.loop-i-test.false c.requires.0)
