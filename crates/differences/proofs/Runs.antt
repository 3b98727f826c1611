-- Runs computed from the definitions: C-13. Each table is one statement. Nop 43, Ldf 44, Stf 45, Bz 2E, Bnz 2F, Jmpf 2B, Br 2C.
use mathlib.Core.List.{List, [], ◌∷◌, ◌++◌}
use mathlib.Core.Option.{Option, none, some}
use mathlib.Core.Bool.{Bool, false, ◌&&◌}
use Prim.Native.Nat.{ℕ}
use Prim.Native.String.{String}
use lib.Dec.{T, eqb}
use Rattle.laws.specs.Lists.{same}
use Rattle.rules.specs.Refusals.{fault_of}
use Rattle.rules.proofs.Computed.{chars, lines, all, freely}
use Rattle.pairing.specs.Pairings.{Pair, frames_of, entries_of, pairs_from, good_from, good_entries, common, run_of, default_pairs}
use Rattle.differences.specs.Changes.{removed_from, added_from, between, changes_of, text_of}
use Rattle.differences.specs.Differences.{Differing, text, of_first, of_second, of_both, read_second, compared, differences}

-- what the pairs are made of, and the changes
unfoldable pairs : List ℕ → List ℕ → List Pair
unfolding freely same frames_of good_from good_entries entries_of pairs_from common run_of default_pairs
pairs first second = default_pairs (frames_of first) (frames_of second)

unfoldable answer : (first second : List ℕ) → Option (List ℕ) → (room : ℕ) → Differing
unfolding pairs removed_from added_from between changes_of text_of read_second compared differences
answer first second pairing room = differences first second pairing room

abbrev text_is : List ℕ → Differing → Bool
text_is t (text x) = same x t
text_is t (of_first r) = false
text_is t (of_second r) = false
text_is t (of_both r) = false

-- whose refusal it is: 1 the first listing's, 2 the second's, 3 of both
abbrev fault_is : (whose number place : ℕ) → Differing → Bool
fault_is w m i (text x) = false
fault_is w m i (of_first r) = eqb w 1 && (eqb (fault_of r).number m && eqb (fault_of r).place i)
fault_is w m i (of_second r) = eqb w 2 && (eqb (fault_of r).number m && eqb (fault_of r).place i)
fault_is w m i (of_both r) = eqb w 3 && (eqb (fault_of r).number m && eqb (fault_of r).place i)

unfoldable differ : (first second : String) → Option (List ℕ) → String → Bool
unfolding answer
differ first second pairing t = text_is (lines t) (answer (lines first) (lines second) pairing 262144)

-- document 01's whole run, input and output; the text comes in two parts
input : String
input = "012E018001 012B010001 028001 0143 020001 012B0000000005"

output : String
output = "012F010001 028001 0143 020001 012C0000000002"

unfoldable run_differs : Option (List ℕ) → String → String → Bool
unfolding answer input output
run_differs pairing t u = text_is (lines t ++ lines u) (answer (lines input) (lines output) pairing 262144)

unfoldable refuses : (first second : String) → Option (List ℕ) → (room whose number place : ℕ) → Bool
unfolding answer
refuses first second pairing room w m i = fault_is w m i (answer (lines first) (lines second) pairing room)

unfoldable refuses_in : (first second : List ℕ) → (room whose number place : ℕ) → Bool
unfolding answer
refuses_in first second room w m i = fault_is w m i (answer first second none room)

-- a room of so many bytes holds it
unfoldable holds : (first second : String) → (room : ℕ) → String → Bool
unfolding answer
holds first second room t = text_is (lines t) (answer (lines first) (lines second) none room)

unfoldable computed : List Bool → Bool
unfolding all differ run_differs refuses refuses_in holds
computed table = all table

texts : List Bool
texts =
    -- nothing; the same
    differ "" "" none "" ∷
    differ "" "" (some []) "" ∷
    differ "0143 0144" "0143 0144" none "70000000000143 70000100010144" ∷
    differ "" "0143" none "7200000143" ∷
    differ "0143" "" none "7100000143" ∷
    -- a common beginning and end; the middle is removed, then added
    differ "0143 0144 0145 0143" "0143 0410 0143" none "70000000000143 7100010144 7100020145 7200010410 70000300020143" ∷
    -- the beginning is taken first: of two equal statements the first is kept, and the end does not reach into it
    differ "0143 0143" "0143" none "70000000000143 7100010143" ∷
    differ "0143" "0143 0143" none "70000000000143 7200010143" ∷
    differ "0143 0144 0143" "0143 0143" none "70000000000143 7100010144 70000200010143" ∷
    -- document 01's run with its stems: a changed branch, a dropped jump, a changed jump
    run_differs (some (0 ∷ 0 ∷ 0 ∷ 2 ∷ 0 ∷ 3 ∷ 0 ∷ 4 ∷ 0 ∷ 5 ∷ []))
    "730000000005012E018001012F010001 710001012B010001 7000020001028001"
    "70000300020143 7000040003020001 730005000407012B0000000005012C0000000002" ∷
    -- a list that is shorter than the second listing; an empty list; a list that pairs the first with the last
    differ "0143" "0143 0144" (some (0 ∷ 0 ∷ [])) "70000000000143 7200010144" ∷
    differ "0143" "0143" (some []) "7100000143 7200000143" ∷
    differ "0143 0144" "0144" (some (0 ∷ 1 ∷ [])) "7100000143 70000100000144" ∷
    -- with source lines; a frame that differs in its line alone is changed
    differ "7D02 010000000143" "7D02 010000000143" none "7000000000010000000143" ∷
    differ "7D02 010000000143" "7D02 010000000243" (some (0 ∷ 0 ∷ [])) "730000000006010000000143010000000243" ∷
    differ "7D02" "7D02" none "" ∷
    []

texts_hold : T (computed texts)
unfolding computed texts
texts_hold = tt

refusals : List Bool
refusals =
    -- 13: not above the one before, below it, beyond the first listing, more than the second has, cut short
    refuses "0143 0144" "0143 0144" (some (0 ∷ 1 ∷ 0 ∷ 1 ∷ [])) 262144 3 13 1 ∷
    refuses "0143 0144" "0143 0144" (some (0 ∷ 1 ∷ 0 ∷ 0 ∷ [])) 262144 3 13 1 ∷
    refuses "0143 0144" "0143 0144" (some (0 ∷ 0 ∷ 0 ∷ 2 ∷ [])) 262144 3 13 1 ∷
    refuses "0143 0144" "0143 0144" (some (1 ∷ 0 ∷ [])) 262144 3 13 0 ∷
    refuses "0143 0144" "0143" (some (0 ∷ 0 ∷ 0 ∷ 1 ∷ [])) 262144 3 13 1 ∷
    refuses "" "" (some (0 ∷ 0 ∷ [])) 262144 3 13 0 ∷
    refuses "0143 0144" "0143 0144" (some (0 ∷ 0 ∷ 0 ∷ [])) 262144 3 13 1 ∷
    refuses "0143" "0143" (some (0 ∷ [])) 262144 3 13 0 ∷
    -- 1 and 2, the first listing first; the second's form; then 13; then 12
    refuses "0143 01" "99" (some (5 ∷ [])) 262144 1 1 1 ∷
    refuses "0143" "99" (some (5 ∷ [])) 262144 2 1 0 ∷
    refuses "7D02 010000000143" "0143" (some (5 ∷ [])) 262144 2 1 0 ∷
    refuses "0143" "7D02 010000000143" none 262144 2 1 0 ∷
    refuses "" "7D02" none 262144 2 1 0 ∷
    refuses "7D02" "" none 262144 2 1 0 ∷
    -- before its own lines
    refuses "0143" "7D02 010000000143 99" none 262144 2 1 0 ∷
    refuses "0143" "0143" (some (5 ∷ [])) 0 3 13 0 ∷
    refuses_in (chars "0143") (chars "0143\n") 262144 1 1 0 ∷
    refuses_in (chars "0143\n") (chars "0143") 262144 2 1 0 ∷
    -- 12: the room exact, and one short of it, with the first's count
    holds "0143" "0143" 15 "70000000000143" ∷
    refuses "0143" "0143" none 14 3 12 1 ∷
    refuses "0143 0144 0145" "0410" none 10 3 12 3 ∷
    refuses "" "0143" none 10 3 12 0 ∷
    holds "" "" 0 "" ∷
    []

refusals_hold : T (computed refusals)
unfolding computed refusals
refusals_hold = tt
