-- `readable::lines::text_length` meets its contract: after i turns the lines before i are counted.
use mathlib.Core.Path.{◌≡◌}
use Prim.Native.Nat.{◌*◌, ◌≤◌}
use lib.ListN.{length}
use Rattle.listing.specs.Tables.{input_of}
use Rattle.readable.specs.Readable.{text_of}
use Rattle.readable.proofs.lines.text_length.Given as goal

abbrev pub invariant-loop-i : goal.invariant-loop-i
invariant-loop-i l =
    (l.sum ≡ length (text_of (input_of l.frames l.starts l.i))) × (l.sum ≤ 356 * l.i)
    × (length l.room ≡ 1024)
