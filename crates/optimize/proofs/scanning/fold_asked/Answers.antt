-- `optimize::scanning::fold_asked` meets its contract: no pattern is tried where folds are not asked for.
use mathlib.Core.Path.{◌≡◌}
use mathlib.Core.List.{List}
use mathlib.Core.Option.{Option, none}
use mathlib.Core.Bool.{false}
use Rattle.laws.specs.Options.{first_of}
use Rattle.rules.specs.declared.Settings.{Settings}
use Rattle.rules.specs.Programs.{Program}
use Rattle.rules.specs.Rewriting.{Pattern, patterns_for, pattern_at, anywhere}
use Rattle.slots.specs.Slots.{Slots, program_of}
use Rattle.slots.specs.State.{table_of}
use Rattle.optimize.proofs.Tries.{tried_is, tried_none}
use Rattle.optimize.proofs.scanning.fold_asked.Goals as goal

abbrev folds : Slots → List Pattern → Option Program
folds t xs = first_of (λ x. anywhere (pattern_at (program_of t) x) (program_of t)) xs

-- which patterns are tried
off : (asked : Settings) (t : Slots) → asked.folds ≡ false → folds t (patterns_for asked) ≡ none
unfolding first_of
off asked t e = rw e

pub returns-else-asked : goal.returns-else-asked
returns-else-asked c =
    let t = table_of c.args.frames.now c.args.state.now c.args.count in
    tried_is (folds t (patterns_for c.args.asked)) c.if-asked.false
    (tried_none (folds t (patterns_for c.args.asked)) (off c.args.asked t c.if-asked.false) c.requires.0)
