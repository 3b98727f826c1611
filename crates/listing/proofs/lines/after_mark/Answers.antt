-- `after_mark` meets its contract: the rest begins behind the five characters, if they are there. Assumes nothing.
use mathlib.Core.Path.{sym, ◌∙◌}
use native.Mathlib.Omega.{arith}
use Rattle.laws.proofs.Stores.{rest_is}
use Rattle.listing.specs.Form.{after_mark}
use Rattle.listing.proofs.Forms.{marked_long}
use Rattle.listing.proofs.lines.after_mark.Goals as goal

pub slice_bounds-result-count : goal.slice_bounds-result-count
slice_bounds-result-count c = omega (arith, marked_long c.args.text.now (sym c.is_marked.ensures ∙ c.if-is_marked.true))

pub slice_bounds-result-start : goal.slice_bounds-result-start
slice_bounds-result-start c = omega (arith, marked_long c.args.text.now (sym c.is_marked.ensures ∙ c.if-is_marked.true))

pub returns-then-is_marked : goal.returns-then-is_marked
unfolding after_mark
returns-then-is_marked c = rest_is 5 c.args.text.now ∙ rw (← c.is_marked.ensures, c.if-is_marked.true)

pub returns-else-is_marked : goal.returns-else-is_marked
unfolding after_mark
returns-else-is_marked c = rw (← c.is_marked.ensures, c.if-is_marked.false)
