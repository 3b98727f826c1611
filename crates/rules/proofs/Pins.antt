-- The definitions pinned: one short run for each error that must be refused here. The full tables, on both sides of each edge, are in crates/runs.
-- Form numbers: Add_i8 00, Mov_d9 23, Jmp 2A, Jmpf 2B, Br 2C, Bz 2E, Not1 42, Nop 43, Stf 45.
use mathlib.Core.List.{List, [], ◌∷◌}
use mathlib.Core.Bool.{Bool, true, false, not}
use lib.Dec.{T}
use lib.IntN.{pos}
use Rattle.rules.proofs.Computed.{turns, keeps, turns_with, stems_by_default, within_by_default, encodes, refuses, faults, refers, allows, allows_new, computed}

-- text to image
assembling : List Bool
assembling =
    -- rel8 from the address after the instruction (P1)
    encodes "050100 012C0000000100" 256 "01FE" ∷
    -- 3 before 5
    refuses "020001 0143 050000 020001" 3 3 ∷
    -- the second argument is number 1
    faults "012300000000080000000200" 8 0 1 (pos 512) ∷
    -- what a pad adds is its own, and the multiple is 1 to 256
    encodes "0145 08010004 020001 0601010001" 0 "510000000005" ∷
    refuses "08000000" 1 0 ∷
    refuses "0143 08000101" 1 1 ∷
    -- the mark of the new form is no place, and stands first alone
    keeps "7D02 010000000143" "7F0000000001" ∷
    refuses "0143 7D02" 1 1 ∷
    -- 49,152 characters in the old form, 57,344 in the new
    allows 1023 48912 240 ∷
    not (allows 1023 48914 240) ∷
    allows_new 1023 57096 248 ∷
    not (allows_new 1023 57098 248) ∷
    []

assembling_holds : T (computed assembling)
unfolding computed assembling
assembling_holds = tt

-- program to program, and back to text
rewriting : List Bool
rewriting =
    -- Br before Jmp
    turns "012B0000000000" "012C0000000000 7F0001000002" ∷
    -- whether Callf shrinks says nothing of Jmpf
    turns_with true false true "012B0000000000" "012C0000000000 7F0001000002" ∷
    -- another Jmp would cross a 4,096-byte edge
    keeps "0340010000001345 050FFB 012B0000000FFB 012A014001" "7F0000001000" ∷
    -- a change jump's number stays
    turns "012B0000000000 0142000000010D0000000000 012B0000000005 0143" "012C0000000000 0142000000010D0000000000 012B0000000005 0143 7F0001000008" ∷
    -- a pad parts Not1 and Jmpf
    turns "0142000000010D0000000000 08000001 012B0000000000" "0142000000010D0000000000 08000001 012C0000000000 7F0001000004" ∷
    -- a constant is anchored like its number
    turns "0340010000000003 012B0000000003 012C014001" "0340010000000003 012C0000000002 012C0000000002 7F0001000004" ∷
    -- a pad that would become too short for the number's offset
    keeps "0143 0143 012B0000000007 08000004 0143" "7F0000000009" ∷
    -- an org and a variable are significant in a pattern
    keeps "012E018001 050002 012C010001 028001 020001" "7F0000000004" ∷
    keeps "012E018001 0340010000000000 012C010001 028001 020001" "7F0000000004" ∷
    -- T's references in instructions, bytes, words and variables
    refers "012C018001 0602018001018001 0701018001 030001018001 028001" 0 0x8001 5 ∷
    -- comments that are asked for stay; by default they go, and are no stems
    keeps "04 0143" "7F0000000001" ∷
    stems_by_default "04 0143" (1 ∷ []) ∷
    -- 12 has the input's count
    within_by_default 4 1 "04AA 0143" "7E0C00020000000000" ∷
    []

rewriting_holds : T (computed rewriting)
unfolding computed rewriting
rewriting_holds = tt
