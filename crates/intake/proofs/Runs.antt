-- Whole lines computed from the definitions, on both sides of each edge: the frame, or the column. A theorem says `T test` and is proved by
-- `tt`.
use mathlib.Core.List.{[], ◌∷◌}
use mathlib.Core.Option.{Option, none, some}
use mathlib.Core.Bool.{Bool, false, ◌&&◌}
use Prim.Native.Nat.{ℕ, ◌-◌}
use Prim.Native.String.{String}
use lib.Dec.{T, eqb}
use lib.ListN.{length}
use Rattle.laws.specs.Lists.{each, same}
use Rattle.rules.specs.Expressions.{bytes_of}
use Rattle.rules.specs.Forms.{form_at}
use Rattle.rules.specs.Patterns.{codes}
use Rattle.rules.specs.Programs.{Stmt}
use Rattle.rules.specs.Listing.{unhex}
use Rattle.rules.specs.Output.{frame_of}
use Rattle.text.specs.Text.{mnemonic}
use Rattle.grammar.specs.Going.{Read, got, stuck, digits, fixed, local, class_of, led, start, skip, infix_of}
use Rattle.grammar.proofs.Computing.{goes}
use Rattle.plans.specs.Words.{advance, end_of, trie}
use Rattle.plans.specs.Families.{narrow, args_plan, family, heads, mnemonics}
use Rattle.plans.specs.Finals.{hexes, comments, multiples}
use Rattle.plans.specs.Lines.{global_plan, local_plan, org_plan, align_plan, items_plan, word_list, line_plan}
use Rattle.plans.proofs.Runs.{all}
use Rattle.intake.proofs.Computing.{walks}

-- the line is good, and this is its frame
unfoldable pub reads : String → String → Bool
reads t f = on (walks line_plan (codes t))
  where
    on : Option (Read Stmt) → Bool
    on none = false
    on (some (got s r)) = same (frame_of s) (unhex (codes f)) && eqb (length r) 0
    on (some (stuck r)) = false

-- it is none, and this is 15's column
unfoldable pub stops : String → ℕ → Bool
stops t c = on (walks line_plan (codes t))
  where
    on : Option (Read Stmt) → Bool
    on none = false
    on (some (got s r)) = false
    on (some (stuck r)) = eqb (length (codes t) - length r) c

pub names_and_numbers : T (all (
    reads "g32767:" "027FFF" ∷ stops "g32768:" 5 ∷
    reads ".l32767:" "02FFFF" ∷ stops ".l40000:" 2 ∷
    stops "g0000:" 5 ∷ stops "g000000:" 6 ∷ stops ".l00001=5" 7 ∷
    reads "g00000=2147483647" "030000007FFFFFFF" ∷ stops "g00000=2147483648" 16 ∷
    reads "g00000=-2147483648" "0300000080000000" ∷ stops "g00000=-2147483649" 17 ∷
    reads "g00000=00000000000005" "0300000000000005" ∷
    reads "g00000=-0" "0300000000000000" ∷
    reads "g00000=- 5" "030000200000000005" ∷
    reads "g00000=--5" "0300002000FFFFFFFB" ∷
    reads ".org 65535" "05FFFF" ∷ stops ".org 65536" 9 ∷ stops ".org -1" 5 ∷ stops ".org 1+1" 6 ∷
    reads ".align 255,256" "08FF0100" ∷ stops ".align 256,1" 9 ∷ stops ".align 0,257" 11 ∷
    reads ".align 0,001" "08000001" ∷ stops ".align 0,0" 10 ∷
    []))
unfolding all reads stops walks goes start led class_of digits fixed local skip infix_of same unhex frame_of each bytes_of line_plan
    word_list trie advance end_of global_plan local_plan org_plan align_plan items_plan multiples hexes comments mnemonics family heads
    narrow args_plan mnemonic form_at
names_and_numbers = tt

-- "spaces beside operators only"; "( 1)" and a space behind a comma or `#` stand beside what no operator is, which the next byte tells: a
-- prefix
-- sign could have followed. A minus touching a digit is none
pub spaces : T (all (
    reads "g00000=1  -  2" "0300001100000000010000000002" ∷ reads "g00000=> 5" "030000210000000005" ∷
    reads "g00000= -(5)" "030000200000000005" ∷ reads "add # -(5)" "0100200000000005" ∷ reads "add  -(5)" "0101200000000005" ∷
    reads "add ( >5)" "0101210000000005" ∷ reads ".byte 1, - 5" "06020000000001200000000005" ∷
    stops "g00000= 1" 8 ∷ stops "g00000=1 " 9 ∷ stops "g00000=( 1)" 9 ∷ stops "g00000=(1 )" 10 ∷ stops "g00000=1+ " 10 ∷
    stops "add # 5" 6 ∷ stops "mov #1, 2" 8 ∷ stops "add  #5" 5 ∷ stops " nop" 0 ∷ stops "nop " 3 ∷
    stops ".byte 1, -5" 10 ∷ stops "add (  " 7 ∷ stops "be @R1, #2,3" 7 ∷
    []))
unfolding all reads stops walks goes start led class_of digits fixed local skip infix_of same unhex frame_of each bytes_of line_plan
    word_list trie advance end_of global_plan local_plan org_plan align_plan items_plan multiples hexes comments mnemonics family heads
    narrow args_plan mnemonic form_at
spaces = tt

-- "all grouped to the left; prefix signs bind tightest", with fewer parentheses than are written and with more
pub grouping : T (all (
    reads "g00000=1-2-3" "0300001111000000000100000000020000000003" ∷
    reads "g00000=1-(2-3)" "0300001100000000011100000000020000000003" ∷
    reads "g00000=1+2&3" "0300001510000000000100000000020000000003" ∷
    reads "g00000=1+2*3" "0300001000000000011200000000020000000003" ∷
    reads "g00000=1|2^3" "0300001600000000011400000000020000000003" ∷
    reads "g00000=1^2&3" "0300001400000000011500000000020000000003" ∷
    reads "g00000=-g00002*2" "03000012200100020000000002" ∷
    reads "g00000=((5))" "0300000000000005" ∷ stops "g00000=((5)" 11 ∷ stops "g00000=(5))" 10 ∷
    []))
unfolding all reads stops walks goes start led class_of digits fixed local skip infix_of same unhex frame_of each bytes_of line_plan
    word_list trie advance end_of global_plan local_plan org_plan align_plan items_plan multiples hexes comments mnemonics family heads
    narrow args_plan mnemonic form_at
grouping = tt

-- words, arguments, comments and items
pub words_and_arguments : T (all (
    reads "nop" "0143" ∷ stops "" 0 ∷ stops "no" 2 ∷ stops "nop1" 3 ∷ stops "Nop" 0 ∷
    reads "rolc" "011C" ∷ reads "rol" "011B" ∷ stops "rolcc" 4 ∷
    stops "add" 3 ∷ stops "add " 4 ∷ stops "add #" 5 ∷
    reads "add @R3" "010203" ∷ stops "add @R4" 6 ∷ stops "add @R33" 7 ∷ stops "add @3" 5 ∷
    reads "mov #1,@R0" "0124000000000100" ∷ stops "mov 1,@R0" 4 ∷ stops "mov #1,#2" 7 ∷
    reads "be @R1,#2,3" "01370100000000020000000003" ∷ stops "be @R1,2" 7 ∷ stops "be @R1" 6 ∷ stops "add #1,2" 6 ∷
    reads ".comment" "04" ∷ reads ".comment 0AFF" "040AFF" ∷ stops ".comment " 9 ∷ stops ".comment 0" 10 ∷ stops ".comment 0a" 10 ∷
    reads ".byte 1" "06010000000001" ∷ stops ".byte" 5 ∷ stops ".byte " 6 ∷ stops ".byte 1," 8 ∷ stops ".word #1" 6 ∷
    []))
unfolding all reads stops walks goes start led class_of digits fixed local skip infix_of same unhex frame_of each bytes_of line_plan
    word_list trie advance end_of global_plan local_plan org_plan align_plan items_plan multiples hexes comments mnemonics family heads
    narrow args_plan mnemonic form_at
words_and_arguments = tt

-- a line of so many items: 16 are good, and "a seventeenth item is 15 at its comma"
pub items : T (all (
    reads ".byte g00000,g00000,g00000,g00000,g00000,g00000,g00000,g00000,g00000,g00000,g00000,g00000,g00000,g00000,g00000,g00000"
    "0610010000010000010000010000010000010000010000010000010000010000010000010000010000010000010000010000" ∷
    stops ".byte g00000,g00000,g00000,g00000,g00000,g00000,g00000,g00000,g00000,g00000,g00000,g00000,g00000,g00000,g00000,g00000,g00000" 117
    ∷
    []))
unfolding all reads stops walks goes start led class_of digits fixed local skip infix_of same unhex frame_of each bytes_of line_plan
    word_list trie advance end_of global_plan local_plan org_plan align_plan items_plan multiples hexes comments mnemonics family heads
    narrow args_plan mnemonic form_at
items = tt
