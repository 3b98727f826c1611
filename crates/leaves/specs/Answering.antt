-- What the readers of the code answer, in terms of how reading goes, and the bytes that they leave: a tree's bytes in prefix order.
use Rattle.std.specs.Prelude.{◌≡◌, List, ◌∷◌, ◌++◌, ℕ, ◌+◌, ◌≤◌, ◌<◌, length, take, drop, Result, Err, Ok}
use Rattle.std.proofs.Math.Option.{Option, none, some}
use Rattle.rules.specs.declared.Op2.{Op2}
use Rattle.rules.specs.Expressions.{Expr, bytes_of, code1, code2}
use Rattle.grammar.specs.Going.{Read, got, stuck, Start, leaf, paren, sign, nothing, Mode, rest, Goes}

-- a number's answer: it took n bytes of the text t, and is v; or byte n is one that no good line could have there
abbrev pub Valued : List ℕ → Read ℕ → (most : ℕ) → Result (ℕ × ℕ) ℕ → Type 0
Valued t o most (Ok (n, v)) = (o ≡ got v (drop n t)) × (n ≤ length t) × (v ≤ most)
Valued t o most (Err n) = (o ≡ stuck (drop n t)) × (n ≤ length t)

-- b was in the 32 bytes before, a is now: where e's bytes have room from `at` on they stand there, up to `to`; else `to` is 33
pub record Put (b a : List ℕ) (at : ℕ) (e : List ℕ) (to : ℕ) : Type 0 where
  pub size : length a ≡ 32
  pub within : to ≤ 33
  pub ends : to ≤ 32 → to ≡ at + length e
  pub stands : to ≤ 32 → take to a ≡ take at b ++ e
  pub over : 32 < to → 32 < at + length e

abbrev pub Answered : Mode → (t b a : List ℕ) (at : ℕ) → Result (ℕ × ℕ) ℕ → Type 0
Answered m t b a at (Ok (n, to)) = (e : Expr) × (Goes m t (got e (drop n t)) × ((n ≤ length t) × Put b a at (bytes_of e) to))
Answered m t b a at (Err n) = Goes m t (stuck (drop n t)) × (n ≤ length t)

-- the byte of an operator; 0 where there is none
abbrev pub code_of : Option Op2 → ℕ
code_of none = 0
code_of (some o) = code2 o

-- the bytes from `at` to `end` moved up by one, and a byte stored before them
pub record Inserted (b a : List ℕ) (at end code to : ℕ) : Type 0 where
  pub size : length a ≡ 32
  pub full : 31 < end → to ≡ 33
  pub ends : end ≤ 31 → to ≡ end + 1
  pub stands : end ≤ 31 → take to a ≡ take at b ++ (code ∷ drop at (take end b))

-- the byte of the prefix operator that an operand begins with; 0 where it begins otherwise
abbrev pub sign_code : Start → ℕ
sign_code (leaf o) = 0
sign_code paren = 0
sign_code (sign s r) = code1 s
sign_code (nothing r) = 0

-- what follows in a chain of level l + 1, for every left operand e whose bytes stand from `at` to `to`, the room before them being b's
abbrev pub Continued : (l : ℕ) (t a₀ a₁ : List ℕ) (at to : ℕ) → Result (ℕ × ℕ) ℕ → Type 0
Continued l t a₀ a₁ at to r = (e : Expr) (b : List ℕ) → length b ≡ 32 → Put b a₀ at (bytes_of e) to → Answered (rest l e) t b a₁ at r

-- how many bytes an answer speaks of, and the answer where k bytes come before
abbrev pub takes : Result (ℕ × ℕ) ℕ → ℕ
takes (Ok (n, to)) = n
takes (Err n) = n

abbrev pub after_of : ℕ → Result (ℕ × ℕ) ℕ → Result (ℕ × ℕ) ℕ
after_of k (Ok (n, to)) = Ok ((k + n), to)
after_of k (Err n) = Err (k + n)

-- what follows an expression, whose bytes end at `to`, comes to f of it, whatever it is
abbrev pub Passed : (t : List ℕ) (to : ℕ) → (Expr → Read Expr) → Result (ℕ × ℕ) ℕ → Type 0
Passed t to f (Ok (k, x)) = (x ≡ to) × (k ≤ length t) × ((e : Expr) → f e ≡ got e (drop k t))
Passed t to f (Err k) = (k ≤ length t) × ((e : Expr) → f e ≡ stuck (drop k t))
