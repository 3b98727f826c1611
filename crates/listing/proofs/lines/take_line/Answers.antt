-- `take_line` meets its contract: the rest begins behind the line's feed, or is empty where there is none. Assumes nothing.
use mathlib.Core.Path.{◌∙◌}
use Prim.Native.Nat.{◌+◌}
use native.Mathlib.Numerals.{add-one}
use native.Mathlib.Omega.{arith}
use Rattle.laws.proofs.Stores.{rest_is}
use Rattle.listing.proofs.FirstLine.{line_within, rest_ended, rest_unended}
use Rattle.listing.proofs.lines.take_line.Goals as goal

pub returns-then-n-text : goal.returns-then-n-text
returns-then-n-text c =
    let t = c.args.text.now in
    let e = c.line_length-n.ensures in
    rest_is (c.line_length-n.result + 1) t ∙ rw (e, add-one) (rest_ended t (rw e at c.if-n-text.true))

pub slice_bounds-result-count-2 : goal.slice_bounds-result-count-2
slice_bounds-result-count-2 c = omega (arith, c.line_length-n.ensures, line_within c.args.text.now)

pub slice_bounds-result-start-2 : goal.slice_bounds-result-start-2
slice_bounds-result-start-2 c = omega (arith, c.line_length-n.ensures, line_within c.args.text.now)

pub returns : goal.returns
returns c =
    let t = c.args.text.now in
    let e = c.line_length-n.ensures in
    rest_is c.line_length-n.result t ∙ rw e (rest_unended t (rw e at c.if-n-text.false))
