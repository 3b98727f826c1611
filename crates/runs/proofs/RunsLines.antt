-- Runs computed from the definitions: C-20, source lines. Each table is one statement.
-- Form numbers: Jmpf 2B, Br 2C, Bz 2E, Bnz 2F, Nop 43.
use mathlib.Core.List.{List, [], ◌∷◌}
use mathlib.Core.Bool.{Bool, not}
use lib.Dec.{T}
use Rattle.rules.proofs.Computed.{prints, turns, keeps, turns_by_default, within, refuses, allows_new, computed}

-- which form a listing is of, and what breaks it
forms : List Bool
forms =
    -- no statement
    keeps "7D02" "7F0000000000" ∷
    -- a statement of the new form, and of the old
    keeps "7D02 010000000143" "7F0000000001" ∷
    keeps "0143" "7F0000000001" ∷
    refuses "7D02 0143" 1 0 ∷
    refuses "010000000143" 1 0 ∷
    -- the mark anywhere but first; its line is no place
    refuses "0143 7D02" 1 1 ∷
    refuses "7D02 7D02" 1 0 ∷
    refuses "7D02 010000000143 01" 1 1 ∷
    -- without its line feed, or otherwise written
    prints "7D02" "7E0100000000000000\n" ∷
    prints "7D02\r\n" "7E0100000000000000\n" ∷
    refuses "7d02 010000000143" 1 0 ∷
    -- a frame ends with its source line, or within it
    keeps "7D02 04FFFFFFFF" "7F0000000000" ∷
    refuses "7D02 04FFFFFF" 1 0 ∷
    refuses "7D02 0100000001" 1 0 ∷
    -- 248 characters in a line, 57,344 in all
    allows_new 0 0 248 ∷
    not (allows_new 0 0 250) ∷
    allows_new 1023 57096 248 ∷
    not (allows_new 1023 57098 248) ∷
    not (allows_new 1024 0 2) ∷
    []

forms_hold : T (computed forms)
unfolding computed forms
forms_hold = tt

-- where source lines go
lines_kept : List Bool
lines_kept =
    -- a fold and a shrink: a replaced instruction keeps its own line
    turns "7D02 010000000A2E018001 010000000B2B010001 020000000C8001 010000000D43 020000000E0001 010000000F2B0000000005" "7D02 010000000A2F010001 020000000C8001 010000000D43 020000000E0001 010000000F2C0000000002 7F0002000005" ∷
    -- all four bytes, of every kind of frame
    turns "7D02 01DEADBEEF2B0000000003 0400000002AA 010000000343" "7D02 01DEADBEEF2C0000000002 0400000002AA 010000000343 7F0001000003" ∷
    keeps "7D02 0800000007000004 05000000080000 0600000009010000000001 070000000A010000000001 030000000B00010000000001" "7F0000000003" ∷
    -- a comment that goes takes its line with it
    turns_by_default "7D02 0400000001 010000000243" "7D02 010000000243 7F0000000001" ∷
    -- 12 asks room for the mark too
    within 18 1 "7D02 010000000143" "7D02 010000000143 7F0000000001" ∷
    within 17 1 "7D02 010000000143" "7E0C00010000000000" ∷
    -- refusals name statements
    turns "7D02 01000000012C0000000082" "7E0A00000000000080" ∷
    []

lines_kept_hold : T (computed lines_kept)
unfolding computed lines_kept
lines_kept_hold = tt
