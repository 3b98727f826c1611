-- `asm::start::start_state` meets its contract: the rows that reading found are copied, and so are the forms.
use mathlib.Core.Path.{refl, ◌∙◌}
use Rattle.slots.proofs.State.{length_bytes}
use Rattle.asm.proofs.Started.{stripes_are, forms_are}
use Rattle.asm.proofs.start.start_state.Goals as goal

pub returns : goal.returns
returns c frames h =
    record {
      begins = stripes_are _ c.column-first.result c.column-second.result c.column-third.result c.column-written.result _ h.size
          c.column-first.ensures c.column-second.ensures c.column-third.ensures c.column-written.ensures;
      forms = forms_are frames _ c.column-written.result _ h c.column-written.ensures;
      full = length_bytes c.column-written.result ∙ c.column-written.ensures.0;
      carry = c.start_carry.ensures;
      owners = refl;
      offsets = refl;
    }
