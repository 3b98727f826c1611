-- `output::text::write_text` meets its contract: after i turns the mark and the first i lines stand at the front.
use mathlib.Core.Path.{◌≡◌}
use mathlib.Core.List.{List}
use Prim.Native.Nat.{ℕ, ◌≤◌}
use lib.ListN.{length, take}
use Rattle.listing.specs.Form.{form_of}
use Rattle.digits.specs.Digits.{laid}
use Rattle.output.specs.Lines.{lines_to}
use Rattle.slots.specs.State.{table_of}
use Rattle.output.proofs.text.write_text.Given as goal

abbrev pub invariant-loop-i : goal.invariant-loop-i
invariant-loop-i l =
    (l.at ≡ length (lines_to (form_of l.marked) (take l.count l.lines) (table_of l.frames l.state l.count) l.i))
    × ((d : List ℕ) → l.initial.out ≡ laid d 0 (lines_to (form_of l.marked) (take l.count l.lines) (table_of l.frames l.state l.count) 0)
    → length l.initial.out ≡ length d
    → length (lines_to (form_of l.marked) (take l.count l.lines) (table_of l.frames l.state l.count) l.i) ≤ length d
    → l.out ≡ laid d 0 (lines_to (form_of l.marked) (take l.count l.lines) (table_of l.frames l.state l.count) l.i))
