-- Document 01, "The listing": an expression is read from its first 32 bytes. Where it ran out of them, the limit was met if 32 were
-- there; else the frame is broken.
use Rattle.std.specs.Prelude.{◌≡◌, List, [], ◌∷◌, cond, ℕ, zero, suc, ◌+◌, leb, length, take, drop}
use Rattle.rules.specs.declared.Op1.{Op1}
use Rattle.rules.specs.declared.Op2.{Op2}
use Rattle.rules.specs.declared.Tag.{Tag}
use Rattle.rules.specs.declared.Tag.TheVariants.{Number, Name, Two, One, Bad}
use Rattle.rules.specs.Expressions.{Expr, num, name, two, one, tag_of, number_of, name_of, Parsed, got, long, broken, read_expr}

-- what reading comes to: a tree and how many bytes it took; the bytes ran out; a byte that begins no expression
pub data Plain : Type 0 where
  tree : Expr → ℕ → Plain
  out : Plain
  bad : Plain

-- with one operand, with two, the second read where the first ends
abbrev pub under_one : Op1 → Plain → Plain
under_one o (tree e n) = tree (one o e) (1 + n)
under_one o out = out
under_one o bad = bad

abbrev pub under_two : Op2 → Expr → ℕ → Plain → Plain
under_two o e n (tree d m) = tree (two o e d) (1 + n + m)
under_two o e n out = out
under_two o e n bad = bad

abbrev pub second : Op2 → (List ℕ → Plain) → List ℕ → Plain → Plain
second o read s (tree e n) = under_two o e n (read (drop n s))
second o read s out = out
second o read s bad = bad

-- "An expression, read in prefix order, is 00 and a four-byte signed number ..; 01 and a two-byte name; 10 plus, .. and two expressions;
-- 20 minus, .. and one": b is its first byte, s is what follows, and `read` reads an operand
abbrev pub by_first : Tag → (List ℕ → Plain) → (b : ℕ) (s : List ℕ) → Plain
by_first Number read b s = cond (leb 4 (length s)) (tree (num (number_of (b ∷ s))) 5) out
by_first Name read b s = cond (leb 2 (length s)) (tree (name (name_of (b ∷ s))) 3) out
by_first (One o) read b s = under_one o (read s)
by_first (Two o) read b s = second o read s (read s)
by_first Bad read b s = bad

-- the expression that these bytes begin with. `fuel` bounds how deep the reading goes: as many as there are bytes is enough
unfoldable pub plain : (fuel : ℕ) → List ℕ → Plain
plain zero s = out
plain (suc f) [] = out
plain (suc f) (b ∷ s) = by_first (tag_of b) (plain f) b s

-- "coming to a 33rd byte of an expression is 2, even if the frame ends after the 32nd, and any other breach 1": `there` bytes stand in
-- the frame
abbrev pub told : (there : ℕ) → Plain → Parsed
told there (tree e n) = got e n
told there out = cond (leb 32 there) long broken
told there bad = broken

unfoldable pub read_first32 : List ℕ → Parsed
read_first32 s = told (length s) (plain 32 (take 32 s))

-- it is the reader in use
abbrev pub SameReading : List ℕ → Type 0
SameReading s = read_first32 s ≡ read_expr s
