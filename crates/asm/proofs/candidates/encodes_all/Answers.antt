-- `asm::candidates::encodes_all` meets its contract: where the hint does not encode, the whole does not.
use mathlib.Core.Path.{◌≡◌, refl, sym, ap, ◌∙◌}
use Rattle.std.specs.Prelude.{is_ok as is_Ok}
use Rattle.rules.specs.Answers.{Judged, ok, no, is_ok}
use Rattle.image.specs.Encoding.{checked_as}
use Rattle.image.proofs.Passes.{slot_fails}
use Rattle.asm.proofs.candidates.encodes_all.Goals as goal

passes : {A : Type 0} (x : Judged A) → is_Ok (checked_as x) ≡ is_ok x
unfolding is_ok
passes (ok a) = refl
passes (no r) = refl

pub returns-then-encodes_at : goal.returns-then-encodes_at
returns-then-encodes_at c = c.is_ok.ensures.value ∙ ap is_Ok c.encode_all.ensures ∙ passes _

pub returns-else-encodes_at : goal.returns-else-encodes_at
returns-else-encodes_at c =
    c.if-encodes_at.false ∙ sym (slot_fails _ c.args.hint.0 c.requires.1 (sym c.encodes_at.ensures ∙ c.if-encodes_at.false))
