-- The rows are exactly the instructions and data of the input, and those that are kept exactly those of the output.
use mathlib.Core.Path.{◌≡◌, refl, sym, ◌∙◌, ap}
use mathlib.Core.List.{List, [], ◌∷◌, ◌++◌, map}
use mathlib.Core.Bool.{Bool, true, false, cond}
use Prim.Native.Nat.{ℕ, zero, suc, ◌+◌}
use lib.ListN.{length}
use Rattle.laws.specs.Lists.{each}
use Rattle.rules.specs.declared.Settings.{Settings}
use Rattle.rules.specs.Programs.{Addressℕ, Stmt, Program, at, byte_count}
use Rattle.rules.specs.Layout.{after, position_from, position}
use Rattle.rules.specs.Output.{compact}
use Rattle.promises.specs.Demand2.{Input, output_program}
use Rattle.promises.proofs.Compacts.{View, is_gone_lem, is_live, view, compact_live}
use Rattle.paths.specs.Walk.{is_code}
use Rattle.mapping.specs.Rows.{Span, Row, rows}
use Rattle.mapwalk.specs.Stands.{Stand}
use Rattle.mapwalk.specs.Maps.{stand_at, stands_up, stands_of, in_slots}
use Rattle.mapwalk.specs.Rows.{Cell, cell_of, long_cell, short_cell, spans_from, ExactRows}
use Rattle.mapwalk.proofs.MapRows.{rows_are}

abbrev cell_span : Cell → Span
cell_span c = record { from = c.from; to = c.to }

abbrev stand_span : Stand → Span
stand_span s = record { from = s.from; to = s.to }

-- ---- by place
unfoldable up_from : (q : Addressℕ) → Program → (i n : ℕ) → List Span
up_from q p i zero = []
up_from q p i (suc n) =
    cond (is_code (at p i)) (record { from = position_from q p i; to = position_from q p i + byte_count (position_from q p i) (at p i) } ∷ []) []
    ++ up_from q p (suc i) n

stands_up_lem : (base p : Program) (i n : ℕ) → map stand_span (stands_up base p i n) ≡ up_from 0 p i n
unfolding stands_up up_from position
stands_up_lem base p i zero = refl
stands_up_lem base p i (suc n) = split (is_code (at p i)) (stands_up_lem base p (suc i) n)
  where
    split : (t : Bool) → map stand_span (stands_up base p (suc i) n) ≡ up_from 0 p (suc i) n
        → map stand_span (cond t (stand_at base p i ∷ []) [] ++ stands_up base p (suc i) n)
        ≡ cond t (record { from = position_from 0 p i; to = position_from 0 p i + byte_count (position_from 0 p i) (at p i) } ∷ []) [] ++ up_from 0 p (suc i) n
    split true h = ap (λ (l : List Span). record { from = position_from 0 p i; to = position_from 0 p i + byte_count (position_from 0 p i) (at p i) } ∷ l) h
    split false h = h

up_shift : (q : Addressℕ) (s : Stmt) (p : Program) (i n : ℕ) → up_from q (s ∷ p) (suc i) n ≡ up_from (after q s) p i n
unfolding up_from position_from
up_shift q s p i zero = refl
up_shift q s p i (suc n) =
    ap
    (λ (l : List Span). cond (is_code (at p i))
    (record { from = position_from (after q s) p i; to = position_from (after q s) p i + byte_count (position_from (after q s) p i) (at p i) } ∷ []) [] ++ l)
    (up_shift q s p (suc i) n)

spans_are : (q : Addressℕ) (p : Program) → up_from q p 0 (length p) ≡ spans_from q p
unfolding up_from position_from spans_from
spans_are q [] = refl
spans_are q (s ∷ p) = ap (λ (l : List Span). cond (is_code s) (record { from = q; to = q + byte_count q s } ∷ []) [] ++ l) (up_shift q s p 0 (length p) ∙ spans_are (after q s) p)

stands_spans : (base p : Program) → map stand_span (stands_of base p) ≡ spans_from 0 p
unfolding stands_of
stands_spans base p = stands_up_lem base p 0 (length p) ∙ spans_are 0 p

-- ---- without the dropped slots
spans_compact : (q : Addressℕ) (p : Program) → spans_from q (compact p) ≡ spans_from q p
unfolding spans_from compact
spans_compact q [] = refl
spans_compact q (s ∷ p) = on (view s) (spans_compact (after q s) p)
  where
    on : {s : Stmt} → View s → spans_from (after q s) (compact p) ≡ spans_from (after q s) p → spans_from q (compact (s ∷ p)) ≡ spans_from q (s ∷ p)
    on is_gone_lem below = below
    on {s} (is_live l) below = rw (compact_live s p l, below)

-- ---- cells to spans
map_map : {A B C : Type 0} (f : B → C) (g : A → B) (xs : List A) → map f (map g xs) ≡ map (λ x. f (g x)) xs
map_map f g [] = refl
map_map {A} {B} {C} f g (x ∷ xs) = ap (λ (l : List C). f (g x) ∷ l) (map_map f g xs)

short_spans : (rs : List Row) → map cell_span (each (λ r. cond r.kept (short_cell r ∷ []) []) rs) ≡ each (λ r. cond r.kept (r.short ∷ []) []) rs
unfolding each
short_spans [] = refl
short_spans (r ∷ rs) = split r.kept (short_spans rs)
  where
    split : (t : Bool) → map cell_span (each (λ r. cond r.kept (short_cell r ∷ []) []) rs) ≡ each (λ r. cond r.kept (r.short ∷ []) []) rs
        → map cell_span (cond t (short_cell r ∷ []) [] ++ each (λ r. cond r.kept (short_cell r ∷ []) []) rs) ≡ cond t (r.short ∷ []) [] ++ each (λ r. cond r.kept (r.short ∷ []) []) rs
    split true h = ap (λ (l : List Span). r.short ∷ l) h
    split false h = h

-- exact-rows: the rows that are handed out
pub exact_rows : (asked : Settings) (p : Program) → Input p → ExactRows (rows asked p) p (output_program asked p)
unfolding output_program
exact_rows asked p in_p =
    let h = rows_are asked p in_p in
    record {
      long_spans = sym (map_map cell_span long_cell (rows asked p)) ∙ sym (ap (map cell_span) h.long_rows) ∙ map_map cell_span cell_of (stands_of p p) ∙ stands_spans p p;
      kept_spans =
          sym (short_spans (rows asked p)) ∙ sym (ap (map cell_span) h.short_rows) ∙ map_map cell_span cell_of (stands_of p (in_slots asked p))
          ∙ stands_spans p (in_slots asked p) ∙ sym (spans_compact 0 (in_slots asked p));
    }
