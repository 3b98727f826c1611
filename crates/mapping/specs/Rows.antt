-- "The auditor has two images and a map": a row for each instruction and each piece of data of the input, with where its bytes begin and end in the long
-- image and in the short one. What was dropped has a row too, whose short part is empty: the long image still has its bytes. What no row holds is a gap of
-- an org or a pad: zeros.
use Rattle.std.specs.Prelude.{List, [], ◌∷◌, ◌++◌, Bool, cond, not, ℕ, suc, length}
use Rattle.laws.specs.Lists.{each}
use Rattle.laws.specs.Counts.{tab}
use Rattle.rules.specs.declared.Settings.{Settings}
use Rattle.rules.specs.Expressions.{four}
use Rattle.rules.specs.Programs.{Placeℕ, Addressℕ, Stmt, has_kind, is_gone, Program, at}
use Rattle.rules.specs.Layout.{position}
use Rattle.rules.specs.Rewriting.{optimized}
use Rattle.rules.specs.Output.{line_of}

-- an instruction, or data
abbrev pub has_row : Stmt → Bool
has_row s = has_kind (1 ∷ 6 ∷ 7 ∷ []) s

abbrev pub is_data : Stmt → Bool
is_data s = has_kind (6 ∷ 7 ∷ []) s

-- from its first byte on, up to the byte behind its last
pub record Span : Type 0 where
  pub from : Addressℕ
  pub to : Addressℕ

abbrev pub span_at : Program → (i : Placeℕ) → Span
span_at p i = record { from = position p i; to = position p (suc i) }

pub record Row : Type 0 where
  pub kept : Bool
  pub data_row : Bool
  pub long : Span
  pub short : Span

-- of the statement at place i; an end form has a slot for each statement of the input
abbrev pub row_at : (input end : Program) (i : Placeℕ) → Row
row_at p e i = record { kept = not (is_gone (at e i)); data_row = is_data (at p i); long = span_at p i; short = span_at e i }

abbrev pub rows_in : (input end : Program) (i : Placeℕ) → List Row
rows_in p e i = cond (has_row (at p i)) (row_at p e i ∷ []) []

-- those of the first n places
unfoldable pub rows_to : (input end : Program) (n : ℕ) → List Row
rows_to p e n = each (rows_in p e) (tab (λ i. i) n)

-- in the order of the places
unfoldable pub rows : Settings → Program → List Row
rows asked p = rows_to p (optimized asked p).program (length p)

-- ---- as lines: 78, or 79 for what was dropped; 00 for an instruction and 01 for data; the long part's first byte and the one behind its last, in four bytes
-- each, and the short part's
abbrev pub head_byte : (kept : Bool) → ℕ
head_byte b = cond b 0x78 0x79

abbrev pub data_byte : Bool → ℕ
data_byte b = cond b 1 0

abbrev pub row_bytes : Row → List ℕ
row_bytes r = head_byte r.kept ∷ data_byte r.data_row ∷ (four r.long.from ++ (four r.long.to ++ (four r.short.from ++ four r.short.to)))

unfoldable pub row_line : Row → List ℕ
row_line r = line_of (row_bytes r)
