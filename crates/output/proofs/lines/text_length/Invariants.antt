-- `output::lines::text_length` meets its contract: after i turns n is the length of the mark and the first i lines.
use mathlib.Core.Path.{◌≡◌}
use mathlib.Core.List.{List}
use Prim.Native.Nat.{ℕ, ◌+◌, ◌*◌, ◌≤◌}
use lib.ListN.{length}
use Rattle.listing.specs.Form.{form_of}
use Rattle.slots.specs.Slots.{slots, Sound}
use Rattle.output.specs.Lines.{lines_to}
use Rattle.slots.specs.State.{starts_in, forms_in, carry_in, owners_in}
use Rattle.output.proofs.lines.text_length.Given as goal

abbrev pub invariant-loop-i : goal.invariant-loop-i
invariant-loop-i l =
    (l.n ≤ 5 + 114697 * l.i)
    × ((lines offsets : List ℕ) → Sound (slots l.frames (starts_in l.state) l.count (forms_in l.state) (carry_in l.state)
    (owners_in l.state) offsets) → l.n ≡ length (lines_to (form_of l.marked) lines (slots l.frames (starts_in l.state) l.count
    (forms_in l.state) (carry_in l.state) (owners_in l.state) offsets) l.i))
