-- Readers of all that is left of a line: a comment's bytes, and a number that has a least value.
use Rattle.std.specs.Prelude.{List, [], ◌∷◌, cond, ℕ, zero, suc, ◌+◌, ◌*◌}
use Rattle.rules.specs.Listing.{is_digit, digit}
use Rattle.rules.specs.Programs.{Stmt, comment}
use Rattle.grammar.specs.Reading.{is_decimal, look}
use Rattle.grammar.specs.Going.{Read, got, stuck, on_got, digits}

-- "comment bytes are upper-case hexadecimal": pairs of digits, up to the end
unfoldable pub hexes : List ℕ → Read (List ℕ)
hexes [] = got [] []
hexes (c ∷ []) = cond (is_digit c) (stuck []) (stuck (c ∷ []))
hexes (c ∷ d ∷ t) =
    cond (is_digit c) (cond (is_digit d) (on_got (λ s. (digit c * 16 + digit d) ∷ s) (hexes t)) (stuck (d ∷ t))) (stuck (c ∷ d ∷ t))

-- behind the space there is at least one
unfoldable pub comments : List ℕ → Read Stmt
comments [] = stuck []
comments (c ∷ t) = on_got (λ s. comment s) (hexes (c ∷ t))

-- C-11: "a two-byte multiple m, 1 to 256". After a 0 the line may go on with a digit, but not end
abbrev pub counted : (ℕ → Stmt) → Read ℕ → Read Stmt
counted f (got zero []) = stuck []
counted f (got (suc n) []) = got (f (suc n)) []
counted f (got n (c ∷ r)) = stuck (c ∷ r)
counted f (stuck r) = stuck r

unfoldable pub multiples : (most : ℕ) → (ℕ → Stmt) → List ℕ → Read Stmt
multiples most f t = cond (is_decimal (look t)) (counted f (digits most 0 t)) (stuck t)
