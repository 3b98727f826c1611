-- `first_line` meets its contract: behind the mark, if it is there. Assumes nothing.
use mathlib.Core.Path.{sym, ◌∙◌}
use native.Mathlib.Omega.{arith}
use Rattle.laws.proofs.Tests.{cond_true, cond_false}
use Rattle.listing.specs.Form.{is_marked, after_mark}
use Rattle.listing.proofs.Forms.{marked_long}
use Rattle.pairing.proofs.lines.first_line.Goals as goal

pub returns-then-new_form : goal.returns-then-new_form
unfolding after_mark
returns-then-new_form c =
    let t = c.args.text.now in
    let e = sym c.new_form.ensures.0 ∙ c.if-new_form.true in
    (sym (cond_true (is_marked t) _ _ e), marked_long t e, omega arith)

pub returns-else-new_form : goal.returns-else-new_form
unfolding after_mark
returns-else-new_form c =
    let t = c.args.text.now in
    let e = sym c.new_form.ensures.0 ∙ c.if-new_form.false in
    (sym (cond_false (is_marked t) _ _ e), omega arith, omega arith)
