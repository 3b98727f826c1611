-- Runs computed from the definitions: C-18 and C-24, each setting on and off. Each table is one statement.
-- Form numbers: Jmpf 2B, Br 2C, Bz 2E, Bnz 2F, Call 3B, Callf 3C, Not1 42, Nop 43.
use mathlib.Core.List.{List, [], ◌∷◌}
use mathlib.Core.Bool.{Bool, true, false}
use lib.Dec.{T}
use Rattle.rules.proofs.Computed.{turns_by_default, turns_with, within_by_default, stems_by_default, computed}

-- C-18: comments
comments : List Bool
comments =
    -- dropped by default
    turns_by_default "04AA 0143 04 0143" "0143 0143 7F0000000002" ∷
    -- kept where they are asked for
    turns_with true true true "04AA 0143 04 0143" "04AA 0143 04 0143 7F0000000002" ∷
    -- nothing else was there
    turns_by_default "04" "7F0000000000" ∷
    -- what is left stems from its own place
    stems_by_default "04AA 0143 04 0143" (1 ∷ 3 ∷ []) ∷
    -- after all rewriting: a fold passes over comments, and they go
    turns_by_default "012E018001 04AA 012B010001 04BB 028001 0143 020001 012B0000000005" "012F010001 028001 0143 020001 012C0000000002 7F0002000005" ∷
    stems_by_default "012E018001 04AA 012B010001 04BB 028001 0143 020001 012B0000000005" (0 ∷ 4 ∷ 5 ∷ 6 ∷ 7 ∷ []) ∷
    -- a change jump is one behind a comment too
    turns_by_default "0142000000010D0000000000 04AA 012B0000000000" "0142000000010D0000000000 012B0000000000 7F0000000005" ∷
    -- 12 asks room for the text without them
    within_by_default 5 1 "04AA 0143" "0143 7F0000000001" ∷
    -- and has the input's count
    within_by_default 4 1 "04AA 0143" "7E0C00020000000000" ∷
    []

comments_hold : T (computed comments)
unfolding computed comments
comments_hold = tt

-- C-24: the switched-off steps
switches : List Bool
switches =
    -- Callf shrinks
    turns_with true true true "013C0000000003 012B0000000005 0143" "013B0000000002 012B0000000004 0143 7F0001000006" ∷
    -- it does not
    turns_with true false true "013C0000000003 012B0000000005 0143" "013C0000000003 012B0000000005 0143 7F0000000007" ∷
    -- Jmpf does, whatever is asked of Callf
    turns_with true false true "012B0000000003 0143" "012C0000000002 0143 7F0001000003" ∷
    -- an inverted fold
    turns_with true true true "012E018001 012B018002 028001 012B010001 028002 020001" "012F018002 028001 012C010001 028002 020001 7F0002000004" ∷
    -- no fold
    turns_with true true false "012E018001 012B018002 028001 012B010001 028002 020001" "012E018001 012C018002 028001 012C010001 028002 020001 7F0002000006" ∷
    -- none of the three
    turns_with false false false "04AA 012E018001 012B010001 028001 013C010001 020001" "012E018001 012C010001 028001 013C010001 020001 7F0001000007" ∷
    []

switches_hold : T (computed switches)
unfolding computed switches
switches_hold = tt
