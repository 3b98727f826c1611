-- `patterns::list::pattern` meets its contract: the table is the list.
use mathlib.Core.Path.{sym, subst}
use Rattle.patterns.specs.declared.Pattern.TheVariants.{Inverted}
use Rattle.patterns.specs.Order.{Known}
use Rattle.patterns.proofs.Order.{pattern_known, pattern_at_lem}
use Rattle.patterns.proofs.list.pattern.Goals as goal

pub returns : goal.returns
returns c =
    let e = pattern_at_lem c.args.k (Inverted 0 0) c.requires in
    (e, subst Known (sym e) (pattern_known c.args.k c.requires))
