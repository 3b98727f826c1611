-- Runs computed from the definitions: C-17. The table is one statement. Form number: Nop 43.
use mathlib.Core.List.{List, [], ◌∷◌, ◌++◌}
use mathlib.Core.Bool.{Bool, false, ◌&&◌}
use Prim.Native.Nat.{ℕ, zero, suc}
use Prim.Native.String.{String}
use lib.Dec.{T, eqb}
use lib.ListN.{replicate}
use Rattle.rules.specs.Refusals.{fault_of}
use Rattle.rules.specs.Answers.{Judged, ok, no}
use Rattle.rules.proofs.Computed.{chars, lines, all, freely}
use Rattle.sits.specs.Sits.{lines_before, read_before, sits_among, sits}

unfoldable answer : (text : List ℕ) (n : ℕ) → Judged ℕ
unfolding freely lines_before read_before sits_among sits
answer text n = sits text n

abbrev is_at : ℕ → Judged ℕ → Bool
is_at a (ok x) = eqb x a
is_at a (no r) = false

abbrev fault_is : (number place : ℕ) → Judged ℕ → Bool
fault_is m i (ok x) = false
fault_is m i (no r) = eqb (fault_of r).number m && eqb (fault_of r).place i

-- statement n of these lines sits at a; it is refused so; and the same of a text as it is
unfoldable lies : String → (n a : ℕ) → Bool
unfolding answer
lies text n a = is_at a (answer (lines text) n)

unfoldable refuses : String → (n number place : ℕ) → Bool
unfolding answer
refuses text n m i = fault_is m i (answer (lines text) n)

unfoldable lies_in : List ℕ → (n a : ℕ) → Bool
unfolding answer
lies_in text n a = is_at a (answer text n)

unfoldable refuses_in : List ℕ → (n number place : ℕ) → Bool
unfolding answer
refuses_in text n m i = fault_is m i (answer text n)

-- k comment lines of w characters and two more
unfoldable wide : (w k : ℕ) → List ℕ
wide w zero = []
wide w (suc k) = 48 ∷ 52 ∷ replicate w 48 ++ (10 ∷ wide w k)

abbrev marked : List ℕ → List ℕ
marked text = chars "7D02\n" ++ text

unfoldable computed : List Bool → Bool
unfolding all lies refuses lies_in refuses_in wide
computed table = all table

-- where statements sit, and 14
places : List Bool
places =
    -- statement 0 sits at 0, also of no text; the next is not there
    lies "" 0 0 ∷
    refuses "" 1 14 0 ∷
    lies "0143" 0 0 ∷
    lies "0143" 1 1 ∷
    refuses "0143" 2 14 0 ∷
    refuses "0143" 18446744073709551615 14 0 ∷
    -- before its own org; the end position counts a trailing org
    lies "0143 050010 0143" 1 1 ∷
    lies "0143 050010 0143" 2 16 ∷
    lies "0143 050010 0143" 3 17 ∷
    refuses "0143 050010 0143" 4 14 0 ∷
    lies "0143 050010" 2 16 ∷
    -- before its own pad, and behind it
    lies "0143 08010004 0143" 1 1 ∷
    lies "0143 08010004 0143" 2 5 ∷
    lies "0143 08010004 0143" 3 6 ∷
    lies "0143 08000001 0143" 2 1 ∷
    -- labels, variables and comments have no bytes; data and instructions have
    lies "020001 0300020000000001 04AA 060200000000010000000001 07010000000001 0143" 1 0 ∷
    lies "020001 0300020000000001 04AA 060200000000010000000001 07010000000001 0143" 2 0 ∷
    lies "020001 0300020000000001 04AA 060200000000010000000001 07010000000001 0143" 3 0 ∷
    lies "020001 0300020000000001 04AA 060200000000010000000001 07010000000001 0143" 4 2 ∷
    lies "020001 0300020000000001 04AA 060200000000010000000001 07010000000001 0143" 5 4 ∷
    lies "020001 0300020000000001 04AA 060200000000010000000001 07010000000001 0143" 6 5 ∷
    []

places_hold : T (computed places)
unfolding computed places
places_hold = tt

-- what is judged before n, in which order, and that nothing else is
refusals : List Bool
refusals =
    -- a bad line at n, and before it
    lies "0143 99" 1 1 ∷
    refuses "0143 99" 2 1 1 ∷
    refuses "99 0143" 1 1 0 ∷
    lies "99 0143" 0 0 ∷
    -- without its line feed
    lies_in (chars "0143\n0143") 1 1 ∷
    refuses_in (chars "0143\n0143") 2 1 1 ∷
    lies_in (chars "0143\n") 1 1 ∷
    refuses_in (chars "0143\n") 2 14 0 ∷
    -- an org below the position at n, and before it
    lies "0143 050000 0143" 1 1 ∷
    refuses "0143 050000 0143" 2 5 1 ∷
    lies "0143 050001 0143" 2 1 ∷
    -- 65,536 is reached and not passed
    lies "05FFFF 0143 0143" 2 65536 ∷
    refuses "05FFFF 0143 0143" 3 6 2 ∷
    lies "05FF01 08000100" 2 65536 ∷
    lies "05FF01 08010100" 1 65281 ∷
    refuses "05FF01 08010100" 2 6 1 ∷
    -- 1 and 2 of all lines before n come before 5 and 6, and these before 14
    refuses "0143 050000 99" 3 1 2 ∷
    refuses "0143 050000 99" 2 5 1 ∷
    refuses "0143 050000" 9 5 1 ∷
    refuses "05FFFF 0143 0143 050000" 9 6 2 ∷
    refuses "0143 99" 9 1 1 ∷
    -- 3, 4 and 7 to 11 are not judged
    lies "020001 020001 0143" 3 1 ∷
    lies "012C010001" 1 2 ∷
    lies "012C0000000082" 1 2 ∷
    []

refusals_hold : T (computed refusals)
unfolding computed refusals
refusals_hold = tt

-- the limits count what comes before n only
limits : List Bool
limits =
    -- statement 1,025
    lies_in (wide 0 1025) 1024 0 ∷
    refuses_in (wide 0 1025) 1025 2 1024 ∷
    refuses_in (wide 0 1024) 1025 14 0 ∷
    -- a line of 240 characters, and of 242; of 248 and 250 in the new form
    lies_in (wide 238 1) 1 0 ∷
    refuses_in (wide 240 1) 1 2 0 ∷
    lies_in (wide 240 1) 0 0 ∷
    lies_in (marked (wide 246 1)) 1 0 ∷
    refuses_in (marked (wide 248 1)) 1 2 0 ∷
    -- 49,152 characters in all, and two more; 57,344 in the new form
    lies_in (wide 238 204 ++ wide 190 1) 205 0 ∷
    refuses_in (wide 238 204 ++ wide 192 1) 205 2 204 ∷
    lies_in (wide 238 204 ++ wide 192 1) 204 0 ∷
    lies_in (marked (wide 246 231 ++ wide 54 1)) 232 0 ∷
    refuses_in (marked (wide 246 231 ++ wide 56 1)) 232 2 231 ∷
    lies_in (marked (wide 246 231 ++ wide 56 1)) 231 0 ∷
    []

limits_hold : T (computed limits)
unfolding computed limits
limits_hold = tt

-- C-20: the new form
forms : List Bool
forms =
    -- the mark is no statement, and is under no limit
    lies "7D02" 0 0 ∷
    refuses "7D02" 1 14 0 ∷
    lies "7D02 010000000143" 0 0 ∷
    lies "7D02 010000000143" 1 1 ∷
    refuses "7D02 010000000143" 2 14 0 ∷
    -- it marks the lines before n, and is a bad line anywhere else
    lies "7D02 0143" 0 0 ∷
    refuses "7D02 0143" 1 1 0 ∷
    refuses "010000000143" 1 1 0 ∷
    lies "0143 7D02 0143" 1 1 ∷
    refuses "0143 7D02 0143" 2 1 1 ∷
    refuses "7D02 7D02" 1 1 0 ∷
    -- unended it is a bad line at place 0
    refuses_in (chars "7D02") 1 1 0 ∷
    lies_in (chars "7D02") 0 0 ∷
    -- orgs and pads
    lies "7D02 010000000143 05000000020010 010000000343" 1 1 ∷
    lies "7D02 010000000143 05000000020010 010000000343" 2 16 ∷
    lies "7D02 010000000143 0800000002010004 010000000343" 1 1 ∷
    lies "7D02 010000000143 0800000002010004 010000000343" 2 5 ∷
    refuses "7D02 010000000143 05000000020000 010000000343" 2 5 1 ∷
    []

forms_hold : T (computed forms)
unfolding computed forms
forms_hold = tt
