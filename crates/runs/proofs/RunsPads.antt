-- Runs computed from the definitions: C-11, pads. Each table is one statement.
-- Form numbers: Jmpf 2B, Br 2C, Bz 2E, Not1 42, Nop 43.
use mathlib.Core.List.{List, [], ◌∷◌}
use mathlib.Core.Bool.{Bool}
use lib.Dec.{T}
use Rattle.rules.proofs.Computed.{turns, keeps, encodes, refuses, stems_from_places, states, computed}

-- the frame: an add byte and a multiple of 1 to 256
frames : List Bool
frames =
    states "08050100" (5 ∷ 256 ∷ []) ∷
    -- multiple 1 and 256
    keeps "08000001" "7F0000000000" ∷
    keeps "08000100" "7F0000000000" ∷
    -- multiple 0 and 257
    refuses "08000000" 1 0 ∷
    refuses "0143 08000101" 1 1 ∷
    -- a byte short, a byte too many
    refuses "080001" 1 0 ∷
    refuses "0800000400" 1 0 ∷
    -- the next kind is none
    refuses "09000004" 1 0 ∷
    []

frames_hold : T (computed frames)
unfolding computed frames
frames_hold = tt

-- positions, the image, 5 and 6
positions : List Bool
positions =
    -- to the next multiple; the skipped bytes are zero
    encodes "0145 08000004 0145" 0 "5100000051" ∷
    -- at a multiple nothing is skipped
    encodes "0145 0145 08000002 0145" 0 "515151" ∷
    -- what is added is bytes too, and a pad at the end lengthens the image
    encodes "0145 08020004" 0 "510000000000" ∷
    keeps "08030001" "7F0000000003" ∷
    -- what is added is 0 to 255
    keeps "08FF0001" "7F00000000FF" ∷
    -- the longest pad: 255 up to the multiple and 255 more
    keeps "0143 08FF0100" "7F00000001FF" ∷
    -- a label behind it
    encodes "0145 08010004 020001 0601010001" 0 "510000000005" ∷
    -- an org below the position behind it, and at it
    refuses "0143 08000004 050003" 5 2 ∷
    keeps "0143 08000004 050004" "7F0000000004" ∷
    -- up to 65,536
    keeps "05FF01 08000100" "7F0000010000" ∷
    -- past it
    refuses "05FF01 08010100" 6 1 ∷
    keeps "05FFFF 08010001" "7F0000010000" ∷
    refuses "05FFFF 08020001" 6 1 ∷
    -- at 65,536 itself, which is a multiple of each power of two
    keeps "05FFFF 0143 08000001" "7F0000010000" ∷
    refuses "05FFFF 0143 08010001" 6 2 ∷
    refuses "05FFFF 0143 080000FF" 6 2 ∷
    -- an empty pad behind an org has no byte
    keeps "050010 08000010" "7F0000000000" ∷
    []

positions_hold : T (computed positions)
unfolding computed positions
positions_hold = tt

-- what the rewriting makes of a pad
rewriting : List Bool
rewriting =
    -- a pad grows after a shrink, and the position after it stays
    turns "012B010001 08000004 020001" "012C010001 08000004 020001 7F0001000004" ∷
    -- a pad becomes shorter, and the position after it falls
    turns "0143 0143 012B010001 08000004 020001" "0143 0143 012C010001 08000004 020001 7F0001000004" ∷
    -- a number may point into it: byte 4 of the pad, which then comes one earlier
    turns "012B0000000007 08000008 0143" "012C0000000006 08000008 0143 7F0001000009" ∷
    -- into the last of 510, by a jump that comes behind them
    turns "0143 08FF0100 012B00000001FE" "0143 08FF0100 012C00000001FE 7F0001000201" ∷
    -- a pad that would become too short for the number's offset, and one that is not
    keeps "0143 0143 012B0000000007 08000004 0143" "7F0000000009" ∷
    turns "0143 0143 012B0000000008 08000004 0143" "0143 0143 012C0000000004 08000004 0143 7F0001000005" ∷
    -- its added byte is kept: offset 0 of one, offset 1 not
    turns "0143 0143 012B0000000005 08010004 0143" "0143 0143 012C0000000004 08010004 0143 7F0001000006" ∷
    keeps "0143 0143 012B0000000006 08010004 0143" "7F000000000A" ∷
    -- even an empty pad parts Not1 and Jmpf
    turns "0142000000010D0000000000 08000001 012B0000000000" "0142000000010D0000000000 08000001 012C0000000000 7F0001000004" ∷
    -- and the statements of a pattern
    keeps "012E018001 08000001 012C010001 028001 020001" "7F0000000004" ∷
    keeps "012E018001 012C010001 08000001 028001 020001" "7F0000000004" ∷
    -- an org behind a pad that grows
    turns "012B0000000003 08000003 050003 0143" "012C0000000003 08000003 050003 0143 7F0001000004" ∷
    -- a pad that grows puts a Br out of reach, one that stands behind it: 127 bytes, which the shrink of the first jump would make 128
    keeps "012B0000000000 012C010001 08000084 020001" "7F0000000084" ∷
    turns "012B0000000000 012C010001 08000083 020001" "012C0000000000 012C010001 08000083 020001 7F0001000083" ∷
    -- a shrink that a pad refuses counts after another one: the first jump's, once the second has become Br
    turns "012B010002 08010084 012B010002 012C000000000A 020002" "012A010002 08010084 012C010002 012C0000000009 020002 7F0002000089" ∷
    stems_from_places "012B010001 08000004 020001" (0 ∷ 1 ∷ 2 ∷ []) ∷
    []

rewriting_hold : T (computed rewriting)
unfolding computed rewriting
rewriting_hold = tt
