-- "then a good line whose expression passes 32 bytes or whose frame passes 120 is 2": a frame that is laid byte by byte, and its limits.
use Rattle.std.specs.Prelude.{◌≡◌, List, ◌++◌, cond, ℕ, ◌+◌, ◌≤◌, ◌<◌, leb, length, take, drop, Result, Err, Ok}
use Rattle.rules.specs.Expressions.{Expr, bytes_of}
use Rattle.grammar.specs.Going.{got, stuck, whole, Goes}
use Rattle.leaves.specs.Answering.{Put}

-- 1 for an expression of over 32 bytes
abbrev pub long : Expr → ℕ
long e = cond (leb (length (bytes_of e)) 32) 0 1

-- the bytes bs stand in the room a up to `at`, no expression among them over 32 bytes; or `at` is 121, and one is, or they are over 120
pub record Stands (a : List ℕ) (at : ℕ) (bs : List ℕ) (longs : ℕ) : Type 0 where
  pub size : length a ≡ 120
  pub within : at ≤ 121
  pub front : at ≤ 120 → take at a ≡ bs
  pub ends : at ≤ 120 → at ≡ length bs
  pub short : at ≤ 120 → longs ≡ 0
  pub over : 120 < at → longs ≡ 0 → 120 < length bs

-- x is laid behind what stands, b was in the room and a is
pub record Added (b a : List ℕ) (at to : ℕ) (x : List ℕ) (longs : ℕ) : Type 0 where
  pub size : length a ≡ 120
  pub within : to ≤ 121
  pub adds : (bs : List ℕ) (n : ℕ) → Stands b at bs n → Stands a to (bs ++ x) (n + longs)

-- likewise the bytes of every expression that ends at n in its room
pub record Copied (b a : List ℕ) (at to : ℕ) (room : List ℕ) (n : ℕ) : Type 0 where
  pub size : length a ≡ 120
  pub within : to ≤ 121
  pub adds : (e : Expr) (c : List ℕ) → Put c room 0 (bytes_of e) n → Added b a at to (bytes_of e) (long e)

-- an expression of the line s at k, up to n
abbrev pub Termed : (s : List ℕ) (k : ℕ) (b a : List ℕ) (at : ℕ) → Result (ℕ × ℕ) ℕ → Type 0
Termed s k b a at (Ok (n, to)) =
    (e : Expr) × (Goes (whole 5) (drop k s) (got e (drop n s)) × ((n ≤ length s) × Added b a at to (bytes_of e) (long e)))
Termed s k b a at (Err n) = Goes (whole 5) (drop k s) (stuck (drop n s)) × (n ≤ length s)
