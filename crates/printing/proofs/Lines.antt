-- The 7E line: it has 19 characters, and for every refusal of a run it is the one that document 01 and C-12 ask for.
use mathlib.Core.Path.{◌≡◌, ◌∙◌, ap}
use mathlib.Core.List.{List, ◌∷◌, ◌++◌, append-nil}
use Prim.Native.Nat.{ℕ, ◌%◌, ◌<◌}
use native.Mathlib.Nat.{mod-eq_of_lt}
use native.Mathlib.Omega.{arith}
use lib.ListN.{length, drop_of_length-le}
use lib.IntN.{ℤ}
use mir.Syntax.{w32}
use mir.Val.{of_z}
use Rattle.rules.specs.declared.Refusal.{Refusal}
use Rattle.rules.specs.declared.Settings.{Settings}
use Rattle.rules.specs.Refusals.{Fault, fault_of}
use Rattle.rules.specs.Answers.{no}
use Rattle.rules.specs.Expressions.{pair, four}
use Rattle.rules.specs.Output.{refused_line}
use Rattle.rules.specs.Run.{run, front}
use Rattle.digits.proofs.Rooms.{length_line}
use Rattle.printing.specs.Page.{low_bytes, refusal_line}
use Rattle.printing.proofs.Places.{refused_early, refused_argument}

pub length_refused : (f : Fault) → length (refused_line f) ≡ 19
unfolding refused_line
length_refused f = length_line (0x7E ∷ f.number ∷ (pair f.place ++ (f.argument ∷ four (of_z w32 f.amount))))

-- it fills a room of 19 bytes
pub line_fills : (f : Fault) (room : List ℕ) → length room ≡ 19 → front (refused_line f) room ≡ refused_line f
line_fills f room h = rw (drop_of_length-le room {i = length (refused_line f)} (omega (arith, h, length_refused f)), append-nil)

-- a place and an argument that have room there are not cut
fault : (number place argument : ℕ) → ℤ → Fault
fault n i j v = record { number = n; place = i; argument = j; amount = v }

pub low_bytes_lem : (f : Fault) → f.place < 65536 → f.argument < 256 → low_bytes f ≡ f
unfolding fault
low_bytes_lem f h k =
    ap (λ (i : ℕ). fault f.number i (f.argument % 256) f.amount) (mod-eq_of_lt h)
    ∙ ap (λ (j : ℕ). fault f.number f.place j f.amount) (mod-eq_of_lt k)

-- and those of a run have
pub line_of_run : (asked : Settings) (text : List ℕ) (listing_room image_room : ℕ) (r : Refusal) → run asked text listing_room image_room ≡ no r
    → refusal_line r ≡ refused_line (fault_of r)
line_of_run asked text listing_room image_room r e =
    ap refused_line
    (low_bytes_lem (fault_of r) (omega (arith, refused_early asked text listing_room image_room r e)) (refused_argument asked text listing_room image_room r e))
