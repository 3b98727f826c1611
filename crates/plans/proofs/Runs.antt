-- The definitions computed on examples. A theorem says `T test` and is proved by `tt`.
use mathlib.Core.List.{List, [], ◌∷◌}
use mathlib.Core.Option.{Option, none, some}
use mathlib.Core.Bool.{Bool, true, false, ◌&&◌}
use Prim.Native.Nat.{ℕ, ◌-◌}
use Prim.Native.String.{String}
use lib.Dec.{T, eqb}
use lib.IntN.{pos, negsuc}
use lib.ListN.{length}
use Rattle.laws.specs.Lists.{each, same}
use Rattle.rules.specs.declared.Op1.TheVariants.{Negate, Upper}
use Rattle.rules.specs.declared.Op2.TheVariants.{Plus, Minus, Times, Xor, And, Or}
use Rattle.rules.specs.Expressions.{Expr, num, name, two, one, bytes_of}
use Rattle.rules.specs.Forms.{form_at}
use Rattle.rules.specs.Patterns.{codes}
use Rattle.rules.specs.Programs.{register, value, Stmt, instr, label, variable, comment, org, bytes, words}
use Rattle.text.specs.Text.{digits_of, five, expr_text, mnemonic, args_text, items_text, line_text}
use Rattle.grammar.specs.Going.{Read, got, stuck, digits, fixed, local, class_of, led, start, skip, infix_of, whole}
use Rattle.grammar.proofs.Computing.{goes}

unfoldable pub all : List Bool → Bool
all [] = true
all (b ∷ bs) = b && all bs

-- C-16: the line of a statement
unfoldable pub writes : Stmt → String → Bool
writes s t = same (line_text s) (codes t)

pub lines : T (all (
    writes (instr 0x00 (value (num (pos 5)) ∷ []) 0) "add #5" ∷
    writes (instr 0x01 (value (num (pos 300)) ∷ []) 0) "add 300" ∷
    writes (instr 0x02 (register 3 ∷ []) 0) "add @R3" ∷
    writes (instr 0x10 [] 0) "mul" ∷
    writes (instr 0x24 (value (num (pos 1)) ∷ register 0 ∷ []) 0) "mov #1,@R0" ∷
    writes (instr 0x37 (register 1 ∷ value (num (pos 2)) ∷ value (name 0x8001) ∷ []) 0) "be @R1,#2,.l00001" ∷
    writes (instr 0x30 (value (num (pos 0)) ∷ value (num (pos 7)) ∷ value (name 7) ∷ []) 0) "bp 0,7,g00007" ∷
    writes (label 0x8000) ".l00000:" ∷
    writes (label 32767) "g32767:" ∷
    writes (variable 12 (two Minus (num (pos 1)) (num (negsuc 4)))) "g00012=1--5" ∷
    writes (variable 0 (one Negate (num (pos 5)))) "g00000=-(5)" ∷
    writes (variable 0 (two Times (two Plus (num (pos 1)) (num (pos 2))) (one Upper (name 3)))) "g00000=(1+2)*(>(g00003))" ∷
    writes (variable 0 (num (negsuc 2147483647))) "g00000=-2147483648" ∷
    writes (comment []) ".comment" ∷
    writes (comment (0x0A ∷ 0xFF ∷ [])) ".comment 0AFF" ∷
    writes (org 65535) ".org 65535" ∷
    writes (bytes (num (pos 1) ∷ name 2 ∷ [])) ".byte 1,g00002" ∷
    writes (words (num (pos 0) ∷ [])) ".word 0" ∷
    []))
unfolding all writes same line_text mnemonic args_text items_text expr_text five digits_of form_at each
lines = tt

-- C-19: an expression read; the tree is compared by its frame's bytes
unfoldable pub reads : String → Expr → Bool
reads t e = on (goes 200 (whole 5) (codes t))
  where
    on : Option (Read Expr) → Bool
    on none = false
    on (some (got d r)) = same (bytes_of d) (bytes_of e) && eqb (length r) 0
    on (some (stuck r)) = false

-- the column at which it is stuck, or where the expression ends before the text does
unfoldable pub stops : String → ℕ → Bool
stops t c = on (goes 200 (whole 5) (codes t))
  where
    on : Option (Read Expr) → Bool
    on none = false
    on (some (got d r)) = eqb (length (codes t) - length r) c
    on (some (stuck r)) = eqb (length (codes t) - length r) c

pub trees : T (all (
    reads "1+2*3" (two Plus (num (pos 1)) (two Times (num (pos 2)) (num (pos 3)))) ∷
    reads "1-2-3" (two Minus (two Minus (num (pos 1)) (num (pos 2))) (num (pos 3))) ∷
    reads "1|2^3&4" (two Or (num (pos 1)) (two Xor (num (pos 2)) (two And (num (pos 3)) (num (pos 4))))) ∷
    reads "((5))" (num (pos 5)) ∷
    reads "-5" (num (negsuc 4)) ∷
    reads "- 5" (one Negate (num (pos 5))) ∷
    reads "-(5)" (one Negate (num (pos 5))) ∷
    reads "1--5" (two Minus (num (pos 1)) (num (negsuc 4))) ∷
    reads "1 - - 5" (two Minus (num (pos 1)) (one Negate (num (pos 5)))) ∷
    reads "-g00001*2" (two Times (one Negate (name 1)) (num (pos 2))) ∷
    reads ">-5" (one Upper (num (negsuc 4))) ∷
    reads " -(5)" (one Negate (num (pos 5))) ∷
    reads "  - 5" (one Negate (num (pos 5))) ∷
    reads "( >5)" (one Upper (num (pos 5))) ∷
    reads "1- -5" (two Minus (num (pos 1)) (num (negsuc 4))) ∷
    reads "1- -(5)" (two Minus (num (pos 1)) (one Negate (num (pos 5)))) ∷
    reads "007" (num (pos 7)) ∷
    reads ".l00001+g32767" (two Plus (name 0x8001) (name 32767)) ∷
    reads "-2147483648" (num (negsuc 2147483647)) ∷
    []))
unfolding all reads same bytes_of goes start led class_of digits fixed local skip infix_of
trees = tt

pub columns : T (all (
    stops "" 0 ∷
    stops "1+" 2 ∷
    stops "1 " 2 ∷
    stops "1 )" 2 ∷
    stops "(1" 2 ∷
    stops "(1 2)" 3 ∷
    stops "( 1)" 2 ∷
    stops "(  " 3 ∷
    stops " -5" 2 ∷
    stops " -" 2 ∷
    stops "2147483648" 9 ∷
    stops "-2147483649" 10 ∷
    stops "21474836470" 10 ∷
    stops "g32768" 5 ∷
    stops "g4" 1 ∷
    stops "g0000" 5 ∷
    stops ".x" 1 ∷
    stops "-" 1 ∷
    stops "1)" 1 ∷
    []))
unfolding all stops goes start led class_of digits fixed local skip infix_of
columns = tt
