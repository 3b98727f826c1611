-- What a pattern says with its arguments given is what its cells are worth.
use mathlib.Core.Path.{◌≡◌, refl, ◌∙◌, ap}
use mathlib.Core.List.{List, [], ◌∷◌, map}
use mathlib.Core.Bool.{Bool, true, false, cond}
use Prim.Native.Nat.{ℕ, ◌+◌, ◌-◌, ◌*◌, ◌/◌, ◌%◌, ◌^◌}
use lib.Dec.{eqb}
use Rattle.rules.specs.Forms.{form_at}
use Rattle.rules.specs.Patterns.{Mode, bit, letter, digits, codes, argument, onto_byte, read_pattern, rows_of}
use Rattle.decoding.specs.Cells.{Cell, fixed, held, onto_row, read_cells, cells_of}

module _ (a b c : ℕ) where
  abbrev pub worth_of : Cell → ℕ
  worth_of (fixed v) = v
  worth_of (held l n) = argument a b c l / 2 ^ n % 2

  abbrev pub worths : List (List Cell) → List (List ℕ)
  worths rows = map (λ row. map worth_of row) rows

  onto_says : (x : Cell) (rows : List (List Cell)) → worths (onto_row x rows) ≡ onto_byte (worth_of x) (worths rows)
  onto_says x [] = refl
  onto_says x (r ∷ rs) = refl

  says : (m : Mode) (s : List ℕ) → read_pattern a b c m s ≡ worths (read_cells m s)
  says bit [] = refl
  says letter [] = refl
  says (digits l n) [] = refl
  says bit (x ∷ s) = at_bit (eqb x 91) (eqb x 32) (says letter s) (says bit s)
    where
      at_bit : (t u : Bool) → read_pattern a b c letter s ≡ worths (read_cells letter s)
          → read_pattern a b c bit s ≡ worths (read_cells bit s)
          → cond t (read_pattern a b c letter s) (cond u ([] ∷ read_pattern a b c bit s) (onto_byte (x - 48) (read_pattern a b c bit s)))
          ≡ worths (cond t (read_cells letter s) (cond u ([] ∷ read_cells bit s) (onto_row (fixed (x - 48)) (read_cells bit s))))
      at_bit true u e d = e
      at_bit false true e d = rw d
      at_bit false false e d = ap (onto_byte (x - 48)) d ∙ sym_onto (fixed (x - 48)) (read_cells bit s)
        where
          sym_onto : (y : Cell) (rows : List (List Cell)) → onto_byte (worth_of y) (worths rows) ≡ worths (onto_row y rows)
          sym_onto y [] = refl
          sym_onto y (r ∷ rs) = refl
  says letter (x ∷ s) = says (digits (x - 97) 0) s
  says (digits l n) (x ∷ s) = at_digit (eqb x 93) (says bit s) (says (digits l (n * 10 + (x - 48))) s)
    where
      at_digit : (t : Bool) → read_pattern a b c bit s ≡ worths (read_cells bit s)
          → read_pattern a b c (digits l (n * 10 + (x - 48))) s ≡ worths (read_cells (digits l (n * 10 + (x - 48))) s)
          → cond t (onto_byte (argument a b c l / 2 ^ n % 2) (read_pattern a b c bit s))
          (read_pattern a b c (digits l (n * 10 + (x - 48))) s)
          ≡ worths (cond t (onto_row (held l n) (read_cells bit s)) (read_cells (digits l (n * 10 + (x - 48))) s))
      at_digit true d e = ap (onto_byte (argument a b c l / 2 ^ n % 2)) d ∙ onto (read_cells bit s)
        where
          onto : (rows : List (List Cell)) → onto_byte (worth_of (held l n)) (worths rows) ≡ worths (onto_row (held l n) rows)
          onto [] = refl
          onto (r ∷ rs) = refl
      at_digit false d e = e

  pub cells_say : (f : ℕ) → rows_of f a b c ≡ worths (cells_of f)
  unfolding rows_of cells_of
  cells_say f = says bit (codes (form_at f).pattern)
