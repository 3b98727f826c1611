-- Runs computed from the definitions, on both sides of each edge.
use mathlib.Core.List.{List, [], ◌∷◌}
use mathlib.Core.Bool.{Bool, false, ◌&&◌}
use Prim.Native.Nat.{ℕ}
use Prim.Native.String.{String}
use lib.Dec.{T, eqb}
use lib.ListN.{length, replicate}
use Rattle.laws.specs.Lists.{each, same}
use Rattle.laws.specs.Bits.{bits}
use Rattle.rules.specs.Answers.{Judged, ok, no, require, ◌>>◌}
use Rattle.rules.specs.Refusals.{fault_of}
use Rattle.rules.specs.Expressions.{bytes_of}
use Rattle.rules.specs.Forms.{form_at}
use Rattle.rules.specs.Listing.{unhex, within_limits}
use Rattle.rules.specs.Output.{frame_of, line_of, lines_in, text_of}
use Rattle.rules.proofs.Computed.{chars, lines, all}
use Rattle.decoding.specs.Opcodes.{form_among, form_of_byte}
use Rattle.decoding.specs.Cells.{cells_of, all_cells, place_in}
use Rattle.decoding.specs.Operands.{bits_of, held_bit, held_in, operands_from, none_outside}
use Rattle.readback.specs.ReadBack.{read_one, read_from, statements_of, keeps_limits, read_back}

-- ---- what a run comes to

abbrev listing_is : List ℕ → Judged (List ℕ) → Bool
listing_is t (ok x) = same x t
listing_is t (no r) = false

abbrev fault_is : (number place : ℕ) → Judged (List ℕ) → Bool
fault_is n i (ok x) = false
fault_is n i (no r) = eqb (fault_of r).number n && eqb (fault_of r).place i

abbrev length_is : ℕ → Judged (List ℕ) → Bool
length_is n (ok x) = eqb (length x) n
length_is n (no r) = false

unfoldable answer : (image : List ℕ) (start room : ℕ) → Judged (List ℕ)
unfolding each bits bytes_of form_at frame_of line_of lines_in text_of require ◌>>◌ within_limits form_among form_of_byte cells_of all_cells
    place_in bits_of held_bit held_in operands_from none_outside read_one read_from statements_of keeps_limits read_back
answer image start room = read_back image start room

-- this image, written in hexadecimal, from this start on, is these lines
unfoldable reads : (image : String) (start : ℕ) (listing : String) → Bool
unfolding answer same unhex
reads image start listing = listing_is (lines listing) (answer (unhex (chars image)) start 50176)

unfoldable refuses : (image : String) (start room number place : ℕ) → Bool
unfolding answer unhex
refuses image start room n i = fault_is n i (answer (unhex (chars image)) start room)

-- the statement that these bytes at q begin with has this frame
unfoldable begins_with : (q : ℕ) (s frame : String) → Bool
unfolding answer same unhex
begins_with q s frame = same (frame_of (read_one 0 q (unhex (chars s)))) (unhex (chars frame))

-- an image of Nops
unfoldable nops : (n start : ℕ) → Judged (List ℕ)
unfolding answer
nops n start = answer (replicate n 0) start 50176

runs : List Bool
runs =
    -- document 01's image, from 0 on, from the middle on, and inside an instruction
    reads "90010001FD" 0 "012F0000000003 0143 012C0000000002" ∷
    reads "90010001FD" 3 "050003 012C0000000002" ∷
    reads "90010001FD" 4 "050004 060100000000FD" ∷
    -- no byte, a start at the end, and one beyond it
    reads "" 0 "" ∷
    reads "90010001FD" 5 "" ∷
    refuses "90010001FD" 6 50176 16 0 ∷
    -- the end cuts an instruction of three bytes and one of two
    reads "2112" 0 "060200000000210000000012" ∷
    reads "21" 0 "06010000000021" ∷
    reads "0001" 0 "0143 06010000000001" ∷
    -- a target below 0: the first byte alone
    reads "01FD00" 0 "06010000000001 014100000001000000000005" ∷
    reads "01FE00" 0 "012C0000000000 0143" ∷
    -- and above 65,535
    begins_with 0xFFFE "017F" "06010000000001" ∷
    begins_with 0xFF7F "017E" "012C000000FFFF" ∷
    begins_with 0xFF7F "017F" "06010000000001" ∷
    -- a change of sign is none for Brf and Callr: there is one address mod 65,536, and 0 is the one before the next instruction
    begins_with 0 "110000" "012D0000000002" ∷
    begins_with 0 "11FDFF" "012D000000FFFF" ∷
    begins_with 0x100 "11FEFF" "012D0000000100" ∷
    begins_with 0 "100000" "013D0000000002" ∷
    begins_with 0 "100100" "013D0000000003" ∷
    -- the page is that of the address after the instruction
    begins_with 0x200 "2B45" "012A0000000345" ∷
    begins_with 0x0FFE "2B45" "012A0000001345" ∷
    begins_with 0xFFFE "2B45" "012A0000000345" ∷
    -- bit 8 of a direct address: bit 0 of the first byte, and bit 4 beside a bit number
    begins_with 0 "0205" "011F0000000005" ∷
    begins_with 0 "0305" "011F0000000105" ∷
    begins_with 0 "A80D" "0142000000000D0000000000" ∷
    begins_with 0 "B80D" "0142000000010D0000000000" ∷
    -- arguments in the order of `Instr`, not of the bytes
    begins_with 0 "220510" "012300000000100000000005" ∷
    begins_with 0 "351000" "01370100000000100000000003" ∷
    begins_with 0 "7F12FD" "0130000000011200000000070000000000" ∷
    -- the room: twenty characters, of two statements
    refuses "01FE00" 0 19 12 2 ∷
    length_is 20 (answer (0x01 ∷ 0xFE ∷ 0x00 ∷ []) 0 20) ∷
    -- 1,024 statements, and 1,025; the org counts
    length_is 5120 (nops 1024 0) ∷
    fault_is 2 1024 (nops 1025 0) ∷
    length_is 5122 (nops 1025 2) ∷
    fault_is 2 1024 (nops 1025 1) ∷
    -- 65,536 bytes, and one more; 16 comes first, and 2 before 12
    listing_is (lines "05FFFF 0143") (nops 65536 65535) ∷
    fault_is 2 0 (nops 65537 65536) ∷
    fault_is 16 0 (nops 65537 65538) ∷
    fault_is 2 1024 (answer (replicate 1025 0) 0 0) ∷
    []

runs_hold : T (all runs)
unfolding all runs reads refuses begins_with nops answer same unhex
runs_hold = tt
