-- The map that is handed out is that of the walks: row by row the same addresses, and what is data.
use Rattle.std.specs.Prelude.{◌≡◌, List, [], ◌∷◌, ◌++◌, map, Bool, true, false, cond, ◌+◌}
use Rattle.laws.specs.Lists.{each}
use Rattle.rules.specs.Programs.{Addressℕ, Program, byte_count}
use Rattle.rules.specs.Layout.{after}
use Rattle.paths.specs.Walk.{is_code}
use Rattle.mapping.specs.Rows.{Span, Row}
use Rattle.mapwalk.specs.Stands.{Sort, as_code, as_aside, as_stop, as_data, Stand}

abbrev pub is_data_sort : Sort → Bool
is_data_sort as_code = false
is_data_sort as_aside = false
is_data_sort as_stop = false
is_data_sort as_data = true

-- under which address it is told, where its bytes begin and end, and whether it is data
pub record Cell : Type 0 where
  pub told : Addressℕ
  pub from : Addressℕ
  pub to : Addressℕ
  pub is_data : Bool

abbrev pub cell_of : Stand → Cell
cell_of s = record { told = s.told; from = s.from; to = s.to; is_data = is_data_sort s.sort }

abbrev pub long_cell : Row → Cell
long_cell r = record { told = r.long.from; from = r.long.from; to = r.long.to; is_data = r.data_row }

abbrev pub short_cell : Row → Cell
short_cell r = record { told = r.long.from; from = r.short.from; to = r.short.to; is_data = r.data_row }

-- the long image has every row, the short one those that are kept
pub record RowsAre (rs : List Row) (longs shorts : List Stand) : Type 0 where
  pub long_rows : map cell_of longs ≡ map long_cell rs
  pub short_rows : map cell_of shorts ≡ each (λ r. cond r.kept (short_cell r ∷ []) []) rs

-- ---- "rows are exactly the kept statements with bytes": where the bytes of each instruction and of each piece of data begin and end, if the first statement
-- comes at q
unfoldable pub spans_from : (q : Addressℕ) → Program → List Span
spans_from q [] = []
spans_from q (s ∷ p) = cond (is_code s) (record { from = q; to = q + byte_count q s } ∷ []) [] ++ spans_from (after q s) p

-- the rows have the statements of the input, and those that are kept the statements of the output, in their order
pub record ExactRows (rs : List Row) (input output : Program) : Type 0 where
  pub long_spans : map (λ r. r.long) rs ≡ spans_from 0 input
  pub kept_spans : each (λ r. cond r.kept (r.short ∷ []) []) rs ≡ spans_from 0 output
