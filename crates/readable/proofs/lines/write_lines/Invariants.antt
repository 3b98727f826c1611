-- `readable::lines::write_lines` meets its contract: after i turns the lines before i stand there.
use mathlib.Core.Path.{◌≡◌}
use lib.ListN.{length}
use Rattle.listing.specs.Tables.{input_of}
use Rattle.digits.specs.Digits.{laid}
use Rattle.readable.specs.Readable.{text_of}
use Rattle.readable.proofs.lines.write_lines.Given as goal

abbrev pub invariant-loop-i : goal.invariant-loop-i
invariant-loop-i l =
    (l.out ≡ laid l.initial.out 0 (text_of (input_of l.frames l.starts l.i)))
    × (l.at ≡ length (text_of (input_of l.frames l.starts l.i)))
    × (length l.out ≡ length l.initial.out)
