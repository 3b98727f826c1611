-- The 7E line of two refusals that no run gives, 13 of a pairing and 15 of a text for people: it is the one that C-12 asks for, nothing of it cut.
use mathlib.Core.Path.{◌≡◌, ap}
use Prim.Native.Nat.{ℕ, ◌<◌}
use native.Mathlib.Omega.{arith}
use lib.IntN.{ℤ}
use Rattle.rules.specs.declared.Refusal.TheVariants.{Pairing, Column}
use Rattle.rules.specs.Refusals.{fault_of}
use Rattle.rules.specs.Answers.{at_place}
use Rattle.rules.specs.Programs.{Placeℕ}
use Rattle.rules.specs.Output.{refused_line}
use Rattle.printing.specs.Page.{refusal_line}
use Rattle.printing.proofs.Lines.{low_bytes_lem}

-- line-of-13: the index of an entry; no pairing has more than 1,024 good ones
pub line_of_13 : (k : ℕ) → k < 65536 → refusal_line (Pairing k) ≡ refused_line (fault_of (Pairing k))
line_of_13 k l = ap refused_line (low_bytes_lem (fault_of (Pairing k)) l (omega arith))

-- line-of-15: the line's place, which is below 1,024 (`Judges` of crate intake), and the column
pub line_of_15 : (i : Placeℕ) (c : ℤ) → i < 65536 → refusal_line (Column (at_place i) c) ≡ refused_line (fault_of (Column (at_place i) c))
line_of_15 i c l = ap refused_line (low_bytes_lem (fault_of (Column (at_place i) c)) l (omega arith))
