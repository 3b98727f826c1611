-- A room of 49,152 characters and 1,024 line feeds is never too short for a listing that was read. Assumes nothing.
use mathlib.Core.List.{List}
use Prim.Native.Nat.{ℕ, ◌+◌, ◌≤◌}
use native.Mathlib.Omega.{arith}
use lib.ListN.{length}
use Rattle.rules.specs.Answers.{ok}
use Rattle.rules.specs.Programs.{Program}
use Rattle.rules.specs.Listing.{Line, lines_of}
use Rattle.rules.specs.Output.{text_of, lines_in}
use Rattle.intake.specs.Intake as intake
use Rattle.intake.specs.Intake.{Takes, listing_of}
use Rattle.intake.proofs.Steps.{kept, length_front}

from : {i sum : ℕ} {ls : List Line} {p : Program} → Takes i sum ls (ok p) → i ≤ 1024 → sum ≤ 49152 → sum + i + length (listing_of p) ≤ 50176
unfolding text_of lines_in
from intake.none h k = omega arith
from {i} {sum} (intake.next {s = s} {p = p} j t) h k =
    let b = kept j in
    omega (arith, b.0, b.1, from t (omega (arith, b.0)) b.1, length_front s p)

pub never_short : (text : List ℕ) (p : Program) → Takes 0 0 (lines_of text) (ok p) → length (listing_of p) ≤ 50176
never_short text p t = omega (arith, from t (omega arith) (omega arith))
