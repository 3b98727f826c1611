-- Runs under an edition, computed from the definitions. A store is written as its digits, the rest of its 160 bytes is zeros; a listing
-- as its lines.
-- Form numbers: Jmpf 2B, Br 2C, Bz 2E, Bnz 2F, Call 3B, Callf 3C, Nop 43.
use mathlib.Core.List.{List, [], ◌∷◌, ◌++◌}
use mathlib.Core.Bool.{Bool}
use Prim.Native.Nat.{ℕ}
use Prim.Native.String.{String}
use lib.Dec.{T}
use lib.ListN.{take, replicate}
use Rattle.laws.specs.Lists.{same}
use Rattle.laws.specs.Counts.{tab}
use Rattle.rules.specs.Answers.{Judged}
use Rattle.rules.specs.Listing.{unhex}
use Rattle.rules.specs.Run.{Output, printed, listing_room_of_program, image_room_of_program}
use Rattle.rules.proofs.Computed.{chars, lines, all, answer}
use Rattle.store.specs.Store.{none_holds, none_twice, is_good, find, newest, get, get_newest}
use Rattle.store.specs.Rooms.{store_in, judged, in_store}
use Rattle.editions.specs.Under.{under, run_edition, run_newest}

-- a room of n bytes that begins so
unfoldable room : (n : ℕ) → String → List ℕ
unfolding unhex
room n s = let x : List ℕ = unhex (chars s) in take n (x ++ replicate 160 0)

unfoldable prints : Judged Output → String → Bool
unfolding answer same tab none_holds none_twice is_good find newest get get_newest store_in judged in_store under room
prints x expected = same (printed x) (lines expected)

-- under an edition of family 7, and under its newest
abbrev edition : (store : String) (e : ℕ) (text expected : String) → Bool
edition store e text expected = prints (run_edition (room 160 store) 7 e (lines text) listing_room_of_program image_room_of_program) expected

abbrev the_newest : (store : String) (text expected : String) → Bool
the_newest store text expected = prints (run_newest (room 160 store) 7 (lines text) listing_room_of_program image_room_of_program) expected

runs : List Bool
runs =
    -- all on is document 01
    edition "0007000107" 1 "04AA 013C0000000003 0143" "04AA 013B0000000002 0143 7F0001000003" ∷
    -- comments off
    edition "0007000106" 1 "04AA 013C0000000003 0143" "013B0000000002 0143 7F0001000003" ∷
    -- Callf does not shrink
    edition "0007000105" 1 "04AA 013C0000000003 0143" "04AA 013C0000000003 0143 7F0000000004" ∷
    -- no fold
    edition "0007000107" 1 "012E018001 012B010001 028001 0143 020001" "012F010001 028001 0143 020001 7F0001000003" ∷
    edition "0007000103" 1 "012E018001 012B010001 028001 0143 020001" "012E018001 012C010001 028001 0143 020001 7F0001000005" ∷
    -- an old edition and the newest, whichever stands first
    edition "00070002060007000107" 1 "04AA 0143" "04AA 0143 7F0000000001" ∷
    edition "00070002060007000107" 2 "04AA 0143" "0143 7F0000000001" ∷
    the_newest "00070002060007000107" "04AA 0143" "0143 7F0000000001" ∷
    the_newest "00070001070007000206" "04AA 0143" "0143 7F0000000001" ∷
    -- 17, 19 and 12 of the store go before 1 of the listing
    edition "0007000107" 2 "00" "7E1100000000000000" ∷
    the_newest "0008000107" "00" "7E1100000000000000" ∷
    edition "0007000108" 1 "00" "7E1300000000000000" ∷
    prints (run_newest (room 159 "0007000107") 7 (lines "00") listing_room_of_program image_room_of_program) "7E0C00000000000000" ∷
    edition "0007000107" 1 "00" "7E0100000000000000" ∷
    -- 12 of the listing's room has the statement count
    prints (run_newest (room 160 "0007000107") 7 (lines "0143 0143") 9 2) "7E0C00020000000000" ∷
    prints (run_newest (room 160 "0007000107") 7 (lines "0143 0143") 10 2) "0143 0143 7F0000000002" ∷
    []

runs_hold : T (all runs)
unfolding all runs prints
runs_hold = tt
