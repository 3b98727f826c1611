-- Reading the bytes of a tree gives the tree, whatever follows.
use mathlib.Core.Path.{◌≡◌, refl, ap, ◌∙◌}
use mathlib.Core.List.{List, [], ◌∷◌, ◌++◌, append_assoc}
use mathlib.Core.Bool.{Bool, true}
use Prim.Native.Nat.{ℕ, zero, suc, ◌+◌, ◌-◌, ◌*◌, ◌/◌, ◌%◌, ◌^◌, ◌<◌, ◌≤◌, min}
use native.Mathlib.Numerals.{one-add}
use native.Mathlib.Omega.{arith}
use lib.Dec.{ltb}
use lib.IntN.{ℤ}
use lib.ListN.{length, length-append}
use lib.Seq.{drop-append_seam}
use mir.Syntax.{w32}
use mir.Val.{SFits, to_z, of_z}
use mir.Facts.{to_z-of_z, Fits-of_z}
use borrow.Author.Tests.{le-leb, lt-ltb}
use Rattle.laws.specs.Lists.{every}
use Rattle.laws.proofs.Tests.{and_both}
use Rattle.laws.proofs.Lists.{every_append}
use Rattle.rules.specs.declared.Op1.{Op1}
use Rattle.rules.specs.declared.Op1.TheVariants.{Negate, Upper, Lower}
use Rattle.rules.specs.declared.Op2.{Op2}
use Rattle.rules.specs.declared.Op2.TheVariants.{Plus, Minus, Times, Divide, Xor, And, Or}
use Rattle.rules.specs.declared.Tag.{Tag}
use Rattle.rules.specs.declared.Tag.TheVariants.{Number, Name, Two, One}
use Rattle.rules.specs.Expressions.{Expr, num, name, two, one, Parsed, got, tag_of, one_more, two_more, then_second, by_tag, parse, read_expr, code1, code2, four, bytes_of}
use Rattle.promises.proofs.Parses.{Fine}

tag1 : (o : Op1) → tag_of (code1 o) ≡ One o
tag1 Negate = refl
tag1 Upper = refl
tag1 Lower = refl

tag2 : (o : Op2) → tag_of (code2 o) ≡ Two o
tag2 Plus = refl
tag2 Minus = refl
tag2 Times = refl
tag2 Divide = refl
tag2 Xor = refl
tag2 And = refl
tag2 Or = refl

pub four_back : (n : ℕ) → n < 2 ^ 32 → n / 16777216 * 16777216 + n / 65536 % 256 * 65536 + n / 256 % 256 * 256 + n % 256 ≡ n
four_back n h = omega arith

-- two bytes written are the number
pub two_back : (n : ℕ) → n / 256 * 256 + n % 256 ≡ n
two_back n = omega arith

Reads-back : Expr → Type 0
Reads-back e = (t : List ℕ) (f room : ℕ) → length (bytes_of e) ≤ room → room ≤ f → parse f room (bytes_of e ++ t) ≡ got e (length (bytes_of e))

-- at a list whose first byte has tag c
at_tag : (c : Tag) (b : ℕ) (s : List ℕ) (p : Parsed) (f room : ℕ) → tag_of b ≡ c → 1 ≤ room → room ≤ f → ((g : ℕ) → room ≤ suc g → by_tag c (parse g) room (b ∷ s) ≡ p) → parse f room (b ∷ s) ≡ p
unfolding parse
at_tag c b s p zero room q h k w = absurd (omega arith)
at_tag c b s p (suc g) room q h k w = rw (le-leb 1 (min room (length (b ∷ s))) (omega arith), q) (w g k)

num_reads : (z : ℤ) → SFits w32 z → Reads-back (num z)
unfolding Reads-back bytes_of by_tag
num_reads z f t k room h m =
    at_tag Number 0 (four (of_z w32 z) ++ t) (got (num z) 5) k room refl (omega arith) m
    (λ g n. rw (le-leb 5 (min room (length (0 ∷ (four (of_z w32 z) ++ t)))) (omega arith)) (ap (λ (y : ℤ). got (num y) 5) (ap (to_z w32) (four_back (of_z w32 z) (Fits-of_z f).fits) ∙ to_z-of_z f)))

name_reads : (n : ℕ) → n < 65536 → Reads-back (name n)
unfolding Reads-back bytes_of by_tag
name_reads n f t k room h m =
    at_tag Name 1 (n / 256 ∷ n % 256 ∷ t) (got (name n) 3) k room refl (omega arith) m
    (λ g q. rw (le-leb 3 (min room (length (1 ∷ n / 256 ∷ n % 256 ∷ t))) (omega arith)) (ap (λ (y : ℕ). got (name y) 3) (two_back n)))

one_reads : (o : Op1) (e : Expr) → Reads-back e → Reads-back (one o e)
unfolding Reads-back bytes_of by_tag one_more
one_reads o e ih t k room h m =
    at_tag (One o) (code1 o) (bytes_of e ++ t) (got (one o e) (suc (length (bytes_of e)))) k room (tag1 o) (omega arith) m
    (λ g q. rw (ih t g (room - 1) (omega arith) (omega arith)) (ap (got (one o e)) (one-add (length (bytes_of e)))))

two_reads : (o : Op2) (e d : Expr) → Reads-back e → Reads-back d → Reads-back (two o e d)
unfolding Reads-back bytes_of by_tag then_second two_more
two_reads o e d ih jh t k room h m =
    let A : List ℕ = bytes_of e in
    let B : List ℕ = bytes_of d in
    let l = length-append A B in
    rw (append_assoc A B t)
    (at_tag (Two o) (code2 o) (A ++ (B ++ t)) (got (two o e d) (suc (length (A ++ B)))) k room (tag2 o) (omega arith) m
    (λ g q. rw (ih (B ++ t) g (room - 1) (omega arith) (omega arith), one-add (length A), drop-append_seam A (B ++ t), jh t g (room - suc (length A)) (omega arith) (omega arith)) (ap (got (two o e d)) (omega arith))))

reads : (e : Expr) → Fine e → Reads-back e
reads (num z) f = num_reads z f
reads (name n) f = name_reads n f
reads (two o e d) f = two_reads o e d (reads e f.0) (reads d f.1)
reads (one o e) f = one_reads o e (reads e f)

-- in 32 bytes
pub read_expr_back : (e : Expr) → Fine e → length (bytes_of e) ≤ 32 → (t : List ℕ) → read_expr (bytes_of e ++ t) ≡ got e (length (bytes_of e))
unfolding read_expr Reads-back
read_expr_back e f h t = reads e f t 32 32 h (omega arith)

-- ---- what is written are bytes
abbrev pub is_byte : ℕ → Bool
is_byte b = ltb b 256

abbrev pub AllBytes : List ℕ → Type 0
AllBytes s = every is_byte s ≡ true

-- one byte in front
pub cons_bytes : (b : ℕ) (s : List ℕ) → b < 256 → AllBytes s → AllBytes (b ∷ s)
unfolding every
cons_bytes b s h k = and_both (is_byte b) (every is_byte s) (lt-ltb b 256 h) k

-- bytes joined
pub append_bytes : (s t : List ℕ) → AllBytes s → AllBytes t → AllBytes (s ++ t)
append_bytes s t h k = every_append is_byte s t ∙ and_both (every is_byte s) (every is_byte t) h k

-- none
pub no_bytes : AllBytes []
unfolding every
no_bytes = refl

-- a pair in front
pub pair_bytes : (n : ℕ) (s : List ℕ) → n < 65536 → AllBytes s → AllBytes (n / 256 ∷ n % 256 ∷ s)
pair_bytes n s h k = cons_bytes (n / 256) (n % 256 ∷ s) (omega arith) (cons_bytes (n % 256) s (omega arith) k)

four_bytes : (n : ℕ) → n < 2 ^ 32 → AllBytes (four n)
four_bytes n h =
    cons_bytes (n / 16777216) _ (omega arith) (cons_bytes (n / 65536 % 256) _ (omega arith) (cons_bytes (n / 256 % 256) _ (omega arith) (cons_bytes (n % 256) _ (omega arith) no_bytes)))

code1_byte : (o : Op1) → code1 o < 256
code1_byte Negate = omega arith
code1_byte Upper = omega arith
code1_byte Lower = omega arith

code2_byte : (o : Op2) → code2 o < 256
code2_byte Plus = omega arith
code2_byte Minus = omega arith
code2_byte Times = omega arith
code2_byte Divide = omega arith
code2_byte Xor = omega arith
code2_byte And = omega arith
code2_byte Or = omega arith

-- the bytes of a tree
pub fine_bytes : (e : Expr) → Fine e → AllBytes (bytes_of e)
unfolding bytes_of
fine_bytes (num z) f = cons_bytes 0 (four (of_z w32 z)) (omega arith) (four_bytes (of_z w32 z) (Fits-of_z f).fits)
fine_bytes (name n) f = cons_bytes 1 _ (omega arith) (pair_bytes n _ f no_bytes)
fine_bytes (two o e d) f = cons_bytes (code2 o) (bytes_of e ++ bytes_of d) (code2_byte o) (append_bytes (bytes_of e) (bytes_of d) (fine_bytes e f.0) (fine_bytes d f.1))
fine_bytes (one o e) f = cons_bytes (code1 o) (bytes_of e) (code1_byte o) (fine_bytes e f)
