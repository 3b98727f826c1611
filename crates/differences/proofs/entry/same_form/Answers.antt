-- `same_form` meets its contract. Assumes nothing.
use mathlib.Core.Path.{◌≡◌, refl}
use mathlib.Core.Bool.{Bool, true, false, beq}
use Rattle.listing.specs.Form.{form_of}
use Rattle.listing.proofs.Forms.{mark_form}
use Rattle.differences.specs.Differences.{same_form}
use Rattle.differences.proofs.entry.same_form.Goals as goal

both : (a b : Bool) → beq a b ≡ same_form (form_of a) (form_of b)
both true true = refl
both true false = refl
both false true = refl
both false false = refl

pub returns : goal.returns
returns c =
    let t = c.args.first.now in
    let u = c.args.second.now in
    rw (mark_form t, mark_form u, ← c.new_form-lined.ensures.0, ← c.new_form.ensures.0) (both c.new_form-lined.result c.new_form.result)
