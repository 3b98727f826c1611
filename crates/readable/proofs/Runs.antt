-- Runs computed from the definitions, on both sides of each edge.
use mathlib.Core.List.{List, [], ◌∷◌, ◌++◌}
use mathlib.Core.Bool.{Bool, false, ◌&&◌}
use Prim.Native.Nat.{ℕ}
use Prim.Native.String.{String}
use lib.Dec.{T, eqb}
use Rattle.laws.specs.Lists.{each, same, every}
use Rattle.rules.specs.Answers.{Judged, ok, no, require, ◌>>=◌}
use Rattle.rules.specs.Refusals.{fault_of}
use Rattle.rules.specs.Expressions.{one_more, two_more, then_second, by_tag, parse, read_expr}
use Rattle.rules.specs.Forms.{form_at}
use Rattle.rules.specs.Listing.{lines_of, unhex, take_byte, take_pair, take_expr, take_register, take_value, take_operands, take_exprs, take_items, read_instr, read_label, read_variable, read_org, read_bytes, read_words, read_pad, read_frame, within_limits, well_formed, read_lines, read_listing}
use Rattle.rules.proofs.Computed.{chars, lines, all}
use Rattle.text.specs.Text.{digits_of, five, expr_text, mnemonic, args_text, items_text, line_text}
use Rattle.readable.specs.Readable.{text_of, within, readable}

-- ---- what a run comes to

abbrev text_is : List ℕ → Judged (List ℕ) → Bool
text_is t (ok x) = same x t
text_is t (no r) = false

abbrev fault_is : (number place : ℕ) → Judged (List ℕ) → Bool
fault_is n i (ok x) = false
fault_is n i (no r) = eqb (fault_of r).number n && eqb (fault_of r).place i

unfoldable answer : (listing : List ℕ) (room : ℕ) → Judged (List ℕ)
unfolding each every same require ◌>>=◌ one_more two_more then_second by_tag parse read_expr form_at lines_of unhex take_byte take_pair
    take_expr take_register take_value take_operands take_exprs take_items read_instr read_label read_variable read_org read_bytes
    read_words read_pad read_frame within_limits well_formed read_lines read_listing digits_of five expr_text mnemonic args_text
    items_text line_text text_of within readable
answer listing room = readable listing room

-- this listing, its lines parted by spaces, is this line
unfoldable writes : (listing text : String) → Bool
unfolding answer same
writes listing text = text_is (chars text ++ (10 ∷ [])) (answer (lines listing) 1024)

unfoldable refuses : (listing : List ℕ) (room number place : ℕ) → Bool
unfolding answer
refuses listing room n i = fault_is n i (answer listing room)

runs : List Bool
runs =
    -- instructions: no suffix; `#` before immediates only, not before a bit; registers; commas
    writes "0143" "nop" ∷
    writes "010000000000FF" "add #255" ∷
    writes "01010000000105" "add 261" ∷
    writes "010203" "add @R3" ∷
    writes "012300000000100000000005" "mov #16,5" ∷
    writes "0142000000010D0000000007" "not1 269,7" ∷
    writes "01370100000000100000000003" "be @R1,#16,3" ∷
    writes "0130000000011200000000070000000000" "bp 274,7,0" ∷
    writes "012E018001" "bz .l00001" ∷
    -- names: both sides of 8000 hexadecimal, and the last
    writes "020000" "g00000:" ∷
    writes "027FFF" "g32767:" ∷
    writes "028000" ".l00000:" ∷
    writes "02FFFF" ".l32767:" ∷
    -- numbers: -5 isn't `-(5)`; the ends of 32 bits
    writes "03000100FFFFFFFB" "g00001=-5" ∷
    writes "030001200000000005" "g00001=-(5)" ∷
    writes "0300010000000000" "g00001=0" ∷
    writes "030001007FFFFFFF" "g00001=2147483647" ∷
    writes "0300010080000000" "g00001=-2147483648" ∷
    -- infix operators, compound operands in parentheses, all operands of prefix ones too, one pair each
    writes "0300011000000000010000000002" "g00001=1+2" ∷
    writes "0300011100000000010000000005" "g00001=1-5" ∷
    writes "03000111000000000100FFFFFFFB" "g00001=1--5" ∷
    writes "030001100000000001200000000005" "g00001=1+(-(5))" ∷
    writes "0300012010000000000100000000FF" "g00001=-(1+255)" ∷
    writes "030001121001000201800013010003010004" "g00001=(g00002+.l00000)*(g00003/g00004)" ∷
    writes "0300012122010002" "g00001=>(<(g00002))" ∷
    writes "0300011401000215010003160100040000000007" "g00001=g00002^(g00003&(g00004|7))" ∷
    -- orgs and pads, both ends
    writes "050000" ".org 0" ∷
    writes "05FFFF" ".org 65535" ∷
    writes "08000001" ".align 0,1" ∷
    writes "08FF0100" ".align 255,256" ∷
    -- data and comments
    writes "060100000000FF" ".byte 255" ∷
    writes "07020000000100018001" ".word 256,.l00001" ∷
    writes "04" ".comment" ∷
    writes "0400AF" ".comment 00AF" ∷
    -- no statement, and the line that marks the new form: neither has a line; source lines are left out
    text_is [] (answer [] 0) ∷
    text_is [] (answer (lines "7D02") 0) ∷
    writes "7D02 010000000543" "nop" ∷
    -- 1 and 2 as for any listing, at their place, before 12
    refuses (lines "0143 0146") 0 1 1 ∷
    refuses (lines "0143 7D02") 0 1 1 ∷
    refuses (chars "0143") 0 1 0 ∷
    refuses (lines "012A2020202020202020202020202020202020202020202020202020202020202020") 0 2 0 ∷
    -- the room: `nop` and `g00000:` with their line feeds are twelve bytes; 12 gives the statement count
    text_is (lines "nop g00000:") (answer (lines "0143 020000") 12) ∷
    refuses (lines "0143 020000") 11 12 2 ∷
    []

runs_hold : T (all runs)
unfolding all runs writes refuses answer same
runs_hold = tt
