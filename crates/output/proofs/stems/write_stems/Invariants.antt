-- `output::stems::write_stems` meets its contract: after i turns the list begins with the places below i that are left.
use mathlib.Core.Path.{◌≡◌}
use lib.ListN.{length}
use Rattle.digits.specs.Digits.{laid}
use Rattle.slots.specs.State.{forms_in}
use Rattle.output.specs.Stems.{kept_to, list_of}
use Rattle.output.proofs.stems.write_stems.Given as goal

abbrev pub invariant-loop-i : goal.invariant-loop-i
invariant-loop-i l =
    (l.n ≡ length (kept_to (forms_in l.state) l.i))
    × (l.list ≡ laid l.initial.list 0 (list_of (kept_to (forms_in l.state) l.i)))
