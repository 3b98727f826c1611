-- What the writer leaves in a room of 1,024 bytes, and where it ends: a text, a number, an expression.
use Rattle.std.specs.Prelude.{◌≡◌, List, [], ◌∷◌, ◌++◌, Bool, cond, ℕ, suc, ◌+◌, ◌≤◌, ◌<◌, length, take}
use Rattle.rules.specs.declared.Op1.{Op1}
use Rattle.rules.specs.Expressions.{Expr, got, parse}
use Rattle.text.specs.Text.{tens, digits_of, sign1, closed, expr_text}

-- b was in the 1,024 bytes before, a is now: where the text x has room from `at` on it stands there, up to `to`; else `to` is 1025
pub record Wrote (b a : List ℕ) (at : ℕ) (x : List ℕ) (to : ℕ) : Type 0 where
  pub size : length a ≡ 1024
  pub within : to ≤ 1025
  pub ends : to ≤ 1024 → to ≡ at + length x
  pub stands : to ≤ 1024 → take to a ≡ take at b ++ x
  pub over : 1024 < to → 1024 < at + length x

-- a number in decimal, of as many digits as it may have
abbrev pub Digited : (b a : List ℕ) (at n to : ℕ) → Type 0
Digited b a at n to = (k : ℕ) → n < tens (suc k) → Wrote b a at (digits_of (suc k) n) to

-- the text of a tree; as it stands beside an infix operator if `inside`
abbrev pub text_in : Bool → Expr → List ℕ
text_in inside e = cond inside (closed e (expr_text e)) (expr_text e)

-- an expression written from the first t bytes of s: on any bytes no more than there are, and where reading gives a tree, all of the tree's and
-- its text
pub record Told (inside : Bool) (s b a : List ℕ) (at t to : ℕ) : Type 0 where
  pub size : length a ≡ 1024
  pub bound : to ≤ 1025
  pub within : t ≤ length s
  pub tree : (f room : ℕ) (e : Expr) (n : ℕ) → parse f room s ≡ got e n → Wrote b a at (text_in inside e) to × (t ≡ n)

-- a leaf of k bytes, whose text is x
pub record Leafed (k : ℕ) (x s b a : List ℕ) (at t to : ℕ) : Type 0 where
  pub size : length a ≡ 1024
  pub bound : to ≤ 1025
  pub within : t ≤ length s
  pub is : k ≤ length s → Wrote b a at x to × (t ≡ k)

-- what stands before the operand of a prefix operator, and behind it
abbrev pub before1 : Bool → Op1 → List ℕ
before1 inside o = cond inside (40 ∷ []) [] ++ (sign1 o ∷ 40 ∷ [])

abbrev pub behind1 : Bool → List ℕ
behind1 inside = (41 ∷ []) ++ cond inside (41 ∷ []) []
