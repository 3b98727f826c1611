-- `optimize::rewriting::rewrite` meets its contract: a fold, or, over the tables as they were, a shrink.
use mathlib.Core.Option.{Option}
use Rattle.laws.specs.Options.{first_of}
use Rattle.rules.specs.declared.Settings.{Settings}
use Rattle.rules.specs.Programs.{Program}
use Rattle.rules.specs.Judging.{names_of}
use Rattle.rules.specs.Rewriting.{patterns_for, pattern_at, shrink_at, anywhere, step}
use Rattle.slots.specs.Slots.{Slots, program_of}
use Rattle.slots.specs.State.{table_of}
use Rattle.optimize.proofs.Tries.{tried_first, tried_second, tried_missed}
use Rattle.optimize.proofs.rewriting.rewrite.Goals as goal

abbrev folds : Settings → Slots → Option Program
folds asked t = first_of (λ x. anywhere (pattern_at (program_of t) x) (program_of t)) (patterns_for asked)

abbrev shrinks : Settings → Slots → Option Program
shrinks asked t = anywhere (shrink_at asked (names_of (program_of t)) (program_of t)) (program_of t)

pub returns-then-fold_asked : goal.returns-then-fold_asked
unfolding step
returns-then-fold_asked c =
    let t = table_of c.args.frames.now c.args.state.now c.args.count in
    tried_first (folds c.args.asked t) (shrinks c.args.asked t) c.fold_asked.ensures c.if-fold_asked.true

pub returns-else-fold_asked : goal.returns-else-fold_asked
unfolding step
returns-else-fold_asked c =
    let t = table_of c.args.frames.now c.args.state.now c.args.count in
    let e = c.fold_asked.ensures in
    tried_second (folds c.args.asked t) (shrinks c.args.asked) (tried_missed (folds c.args.asked t) e c.if-fold_asked.false)
    (e.kept c.if-fold_asked.false) c.shrink.ensures
