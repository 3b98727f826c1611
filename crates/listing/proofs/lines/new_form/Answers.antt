-- `new_form` meets its contract: the form is the first line's. Assumes nothing.
use mathlib.Core.Path.{sym, ap, ◌∙◌}
use Rattle.listing.specs.Form.{form_of}
use Rattle.listing.proofs.Forms.{form_is}
use Rattle.listing.proofs.lines.new_form.Goals as goal

pub returns : goal.returns
returns c = (c.is_marked.ensures, form_is c.args.text.now ∙ ap form_of (sym c.is_marked.ensures))
