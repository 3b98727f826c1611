-- The part of a text that comes before statement n, by its length, as the code counts it.
use Rattle.std.specs.Prelude.{List, [], ◌∷◌, cond, ℕ, zero, suc, ◌+◌, eqb, drop}
use Rattle.rules.specs.Programs.{Placeℕ}
use Rattle.listing.specs.Form.{is_marked}

-- how many bytes the first n lines have, line feeds included
unfoldable pub lines_length : (n : ℕ) → List ℕ → ℕ
lines_length n [] = 0
lines_length zero (c ∷ t) = 0
lines_length (suc n) (c ∷ t) = suc (cond (eqb c 10) (lines_length n t) (lines_length (suc n) t))

-- with the first line that marks the form
unfoldable pub length_before : (n : Placeℕ) → List ℕ → ℕ
length_before zero t = 0
length_before (suc n) t = cond (is_marked t) (5 + lines_length (suc n) (drop 5 t)) (lines_length (suc n) t)
