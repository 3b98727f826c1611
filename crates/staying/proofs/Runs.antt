-- Runs computed from the definitions: why forms stay, on both sides of each edge. The table is one statement. Forms: Jmp 2A, Jmpf 2B, Br 2C, Bz 2E,
-- Bnz 2F, Dbnz 33, Call 3B, Callf 3C, Not1 42, Nop 43.
use mathlib.Core.List.{List, [], ◌∷◌}
use mathlib.Core.Bool.{Bool, true, false}
use Prim.Native.Nat.{ℕ}
use Prim.Native.String.{String}
use lib.Dec.{T}
use Rattle.laws.specs.Lists.{same}
use Rattle.laws.specs.Counts.{tab}
use Rattle.rules.specs.declared.Settings.{Settings}
use Rattle.rules.specs.Answers.{Judged, ok, no}
use Rattle.rules.specs.Programs.{Program}
use Rattle.rules.specs.Listing.{read_listing}
use Rattle.rules.specs.Rewriting.{optimized}
use Rattle.rules.proofs.Computed.{lines, all, freely}
use Rattle.patterns.specs.Shapes.{inverted_shape, trampoline_shape}
use Rattle.staying.specs.Reasons.{reason_of, fold_reason, shrink_reason, attempt_at, attempted_at, whys_in, whys}
use Rattle.staying.specs.Lines.{why_line, why_lines}

unfoldable told : Settings → Judged Program → List ℕ
unfolding freely tab inverted_shape trampoline_shape reason_of fold_reason shrink_reason attempt_at attempted_at whys_in whys why_line why_lines
told asked (ok p) = why_lines (whys asked (optimized asked p).program)
told asked (no r) = []

-- the lines of a listing's end form
unfoldable tells : (callf folds : Bool) → String → String → Bool
unfolding told same
tells callf folds text expected = same (told (record { comments = true; callf = callf; folds = folds }) (read_listing (lines text))) (lines expected)

unfoldable computed : List Bool → Bool
unfolding all tells
computed table = all table

reasons : List Bool
reasons =
    -- nothing to tell: no statement, no jump, and a jump that shrank
    tells true true "" "" ∷
    tells true true "0143" "" ∷
    tells true true "012B0000000000" "" ∷
    -- Br at 0F80 reaches 1001; at 1002 the difference is 128, and Jmp crosses the edge of 4,096 bytes
    tells true true "050F80 012B010001 051001 020001" "" ∷
    tells true true "050F80 012B010001 051002 020001" "752C0001050A00010000000080 752A0001050B00010000001002" ∷
    -- Jmp reaches the last byte before the edge, and not the one behind it
    tells true true "012B010001 050FFF 020001" "" ∷
    tells true true "012B010001 051000 020001" "752C0000050A00000000000FFE 752A0000050B00000000001000" ∷
    -- a call, and none that is not to shrink
    tells true true "013C010001 050FFF 020001" "" ∷
    tells true true "013C010001 051000 020001" "753B0000050B00000000001000" ∷
    tells false true "013C010001 051000 020001" "" ∷
    -- the refusal may be another statement's: a jump behind it would cross the edge. The difference is -3,837
    tells true true "050100 020001 050FFB 012B010001 012A010002 051345 020002" "752C0003050A000300FFFFF103 752A0003050B00040000001345" ∷
    -- a change jump, and one whose bit is another
    tells true true "0142000000010D0000000000 012B0000000000" "752C0001010000000000000000 752A0001010000000000000000" ∷
    tells true true "0142000000010D0000000001 012B0000000000" "" ∷
    -- an inner label on offset 2 of a Jmpf, and one on offset 0
    tells true true "012B0000000000 012C0000000002" "752C0000020000000000000000 752A0000020000000000000000" ∷
    tells true true "012B0000000000 012C0000000000" "" ∷
    -- a pad that would be too short for a number's offset, and one that would not
    tells true true "0143 0143 012B0000000007 08000004 0143" "752C0002040000000000000000 752A0002040000000000000000" ∷
    tells true true "0143 0143 012B0000000008 08000004 0143" "" ∷
    -- an inverted fold that is out of reach, and none where folds are off: Bnz at 0 to 0200. The far jump became a Jmp
    tells true true "012E018001 012B010001 028001 050200 020001" "75800000050A000000000001FE" ∷
    tells true false "012E018001 012B010001 028001 050200 020001" "" ∷
    tells true true "012E018001 012B010001 028001 050081 020001" "" ∷
    tells true true "012E018001 012B010001 028001 050082 020001" "75800000050A00000000000080" ∷
    -- an inner label between the statements of the pattern, inside its branch, and right before it
    tells true true "012E018001 012B010001 028001 0143 020001 012C0000000002" "75800000030000000000000000" ∷
    tells true true "012E018001 012B010001 028001 0143 020001 012C0000000001" "75800000020000000000000000" ∷
    tells true true "012E018001 012B010001 028001 0143 020001 012C0000000000" "" ∷
    -- no pattern begins there: the label is another, and T has two references
    tells true true "012E018001 012C010001 028002 028001 020001" "" ∷
    tells true true "01330000000010018001 012C018002 028001 012C010001 028002 012C018001 020001" "" ∷
    -- a trampoline out of reach: argument 1 of a Dbnz at 0
    tells true true "01330000000010018001 012C018002 028001 012C010001 028002 050082 020001" "" ∷
    tells true true "01330000000010018001 012C018002 028001 012B010001 028002 050200 020001" "758F0000050A000001000001FD" ∷
    -- both patterns of one branch, in their order
    tells true true "012E018001 012C018002 028001 012B010001 028002 012C0000000002 050200 020001" "75800000030000000000000000 758A0000030000000000000000" ∷
    []

reasons_hold : T (computed reasons)
unfolding computed reasons
reasons_hold = tt
