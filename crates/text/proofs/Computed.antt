-- Texts computed from the definitions: what document 02 says of each part of a line. Whole listings are run in the crate readable.
use mathlib.Core.List.{List}
use mathlib.Core.Bool.{Bool}
use Prim.Native.Nat.{ℕ}
use Prim.Native.String.{String}
use lib.Dec.{T}
use lib.IntN.{pos, negsuc}
use Rattle.laws.specs.Lists.{same}
use Rattle.rules.specs.declared.Kind.TheVariants.{I8, Bit}
use Rattle.rules.specs.declared.Op1.TheVariants.{Negate}
use Rattle.rules.specs.declared.Op2.TheVariants.{Plus}
use Rattle.rules.specs.Expressions.{num, two, one}
use Rattle.rules.specs.Forms.{form_at}
use Rattle.rules.specs.Patterns.{codes}
use Rattle.rules.specs.Programs.{value}
use Rattle.text.specs.Text.{digits_of, five, name_text, expr_text, mnemonic, arg_text}

unfoldable is : List ℕ → String → Bool
unfolding same
is t s = same t (codes s)

-- "lower-case mnemonic without the form suffix"
no_suffix : T (is (mnemonic 0x1F) "ld")
unfolding is same mnemonic form_at
no_suffix = tt

-- "-5 isn't `-(5)`"
minus_five : T (is (expr_text (num (negsuc 4))) "-5")
unfolding is same expr_text digits_of
minus_five = tt

-- "every operand of a prefix one, stands in parentheses"
minus_sum : T (is (expr_text (one Negate (two Plus (num (pos 1)) (num (pos 2))))) "-(1+2)")
unfolding is same expr_text digits_of
minus_sum = tt

minus_of_five : T (is (expr_text (one Negate (num (pos 5)))) "-(5)")
unfolding is same expr_text digits_of
minus_of_five = tt

-- "`#` before an 8-bit operand that is no target": a bit has none
bit_bare : T (is (arg_text Bit (value (num (pos 7)))) "7")
unfolding is same expr_text digits_of
bit_bare = tt

immediate : T (is (arg_text I8 (value (num (pos 255)))) "#255")
unfolding is same expr_text digits_of
immediate = tt

-- "locals as `.l` and five digits counted from 8000 hexadecimal"
local_name : T (is (name_text 0x8001) ".l00001")
unfolding is same five
local_name = tt
