-- A bit pattern of src/instruction.rs as cells, one for each bit: what `Patterns.read_pattern` says with its arguments given, said without
-- them.
use Rattle.std.specs.Prelude.{List, [], ◌∷◌, Bool, true, false, ◌&&◌, cond, ℕ, suc, ◌+◌, ◌-◌, ◌*◌, eqb}
use Rattle.laws.specs.Lists.{each}
use Rattle.laws.specs.Bits.{bits}
use Rattle.rules.specs.Forms.{form_at}
use Rattle.rules.specs.Patterns.{Mode, bit, letter, digits, codes}

-- a bit that the pattern writes itself, or bit `number` of the argument of `letter`: 0 is a, 1 is b, 2 is c
pub data Cell : Type 0 where
  fixed : (value : ℕ) → Cell
  held : (letter number : ℕ) → Cell

-- a cell in front of the first byte's cells
abbrev pub onto_row : Cell → List (List Cell) → List (List Cell)
onto_row c [] = (c ∷ []) ∷ []
onto_row c (x ∷ xs) = (c ∷ x) ∷ xs

-- a pattern's cells by byte
abbrev pub read_cells : Mode → List ℕ → List (List Cell)
read_cells m [] = []
read_cells bit (x ∷ xs) =
    cond (eqb x 91) (read_cells letter xs)
    (cond (eqb x 32) ([] ∷ read_cells bit xs) (onto_row (fixed (x - 48)) (read_cells bit xs)))
read_cells letter (x ∷ xs) = read_cells (digits (x - 97) 0) xs
read_cells (digits l n) (x ∷ xs) =
    cond (eqb x 93) (onto_row (held l n) (read_cells bit xs))
    (read_cells (digits l (n * 10 + (x - 48))) xs)

-- the cells of form f by byte, and one behind the other
unfoldable pub cells_of : (f : ℕ) → List (List Cell)
cells_of f = read_cells bit (codes (form_at f).pattern)

unfoldable pub all_cells : (f : ℕ) → List Cell
all_cells f = each (λ row. row) (cells_of f)

-- a cell for bit n of the argument of letter l
abbrev pub is_held : (l n : ℕ) → Cell → Bool
is_held l n (fixed x) = false
is_held l n (held m k) = eqb l m && eqb n k

-- the place of the first such cell, or how many cells there are
unfoldable pub place_in : (l n : ℕ) → List Cell → ℕ
place_in l n [] = 0
place_in l n (c ∷ cs) = cond (is_held l n c) 0 (suc (place_in l n cs))

-- the cells that a pattern writes itself have these bits, as far as there are bits
abbrev pub agrees : List Cell → List ℕ → Bool
agrees [] xs = true
agrees (c ∷ cs) [] = true
agrees (fixed v ∷ cs) (x ∷ xs) = cond (eqb v x) (agrees cs xs) false
agrees (held l n ∷ cs) (x ∷ xs) = agrees cs xs

-- byte b may be the first of form f
unfoldable pub begins : (f b : ℕ) → Bool
begins f b = agrees (all_cells f) (bits b 0 8)
