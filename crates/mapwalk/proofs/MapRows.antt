-- The map that is handed out is that of the walks.
use mathlib.Core.Path.{◌≡◌, refl, sym, ◌∙◌, ap, ap₂}
use mathlib.Core.List.{List, [], ◌∷◌, ◌++◌, map, append_assoc, append-nil}
use mathlib.Core.Logic.{⊎_elim}
use mathlib.Core.Bool.{Bool, true, false, cond, not, ◌||◌}
use Prim.Native.Nat.{ℕ, zero, suc, ◌+◌}
use native.Mathlib.Numerals.{add-one}
use native.Mathlib.Omega.{arith}
use lib.ListN.{length}
use Rattle.laws.specs.Lists.{each, is_one_of, total}
use Rattle.laws.specs.Counts.{tab}
use Rattle.laws.proofs.Lists.{each_append}
use Rattle.laws.proofs.Counts.{each_tab}
use Rattle.laws.proofs.Tests.{false_true}
use Rattle.rules.specs.declared.Settings.{Settings}
use Rattle.rules.specs.Programs.{Operand, Stmt, gone, is_gone, kind_of, instr, label, variable, comment, org, bytes, words, pad, Program, at, byte_count, retarget, last_of}
use Rattle.rules.specs.Layout.{after, position, size_in}
use Rattle.rules.specs.Names.{context_at}
use Rattle.rules.specs.Judging.{names_of}
use Rattle.rules.specs.Rewriting.{is_change_jump, anchor, optimized, instr_bytes}
use Rattle.rules.specs.Output.{plain_target, write_back, spoken}
use Rattle.walk.proofs.Links.{position_suc}
use Rattle.promises.specs.Demand2.{Input}
use Rattle.promises.proofs.Anchors.{length_anchor}
use Rattle.promises.proofs.Chains.{chain_keeps}
use Rattle.promises.proofs.Weights.{step_length}
use Rattle.promises.proofs.Shows.{at_shown, shown_position, length_shown, by_spoken}
use Rattle.promises.proofs.WritesBack.{at_write_back, write_back_position, length_write_back}
use Rattle.paths.specs.Walk.{is_code, is_clouded}
use Rattle.paths.specs.SameText.{Restates, as_was, re_instr}
use Rattle.paths.proofs.Texts.{chain_kept}
use Rattle.mapping.specs.Rows.{has_row, is_data, Row, row_at, rows_in, rows_to, rows}
use Rattle.mapwalk.specs.Stands.{as_code, as_aside, as_stop, Stand}
use Rattle.mapwalk.specs.Maps.{followed, sort_at, stand_at, stands_in, stands_up, stands_of, in_slots}
use Rattle.mapwalk.proofs.SameImages.{code_kept}
use Rattle.mapwalk.specs.Rows.{is_data_sort, Cell, cell_of, long_cell, short_cell, RowsAre}

-- ---- one place more
up_more : (base p : Program) (i n : ℕ) → stands_up base p i (suc n) ≡ stands_up base p i n ++ stands_in base p (i + n)
unfolding stands_up
up_more base p i zero = let z : i + 0 ≡ i = omega arith in rw z (append-nil (stands_in base p i))
up_more base p i (suc n) =
    let z : suc i + n ≡ i + suc n = omega arith in
    ap (λ (l : List Stand). stands_in base p i ++ l) (up_more base p (suc i) n ∙ ap (λ (k : ℕ). stands_up base p (suc i) n ++ stands_in base p k) z)
    ∙ sym (append_assoc (stands_in base p i) (stands_up base p (suc i) n) (stands_in base p (i + suc n)))

map_append : {A B : Type 0} (f : A → B) (xs ys : List A) → map f (xs ++ ys) ≡ map f xs ++ map f ys
map_append f [] ys = refl
map_append {A} {B} f (x ∷ xs) ys = ap (λ (l : List B). f x ∷ l) (map_append f xs ys)

-- what is kept of the rows, by a function of each place
cells_to : (F : Stand → Cell) (G : Row → List Cell) (base p input end : Program) → ((i : ℕ) → map F (stands_in base p i) ≡ each G (rows_in input end i))
    → (n : ℕ) → map F (stands_up base p 0 n) ≡ each G (rows_to input end n)
unfolding stands_up rows_to each tab
cells_to F G base p input end h zero = refl
cells_to F G base p input end h (suc n) =
    let z : 0 + n ≡ n = omega arith in
    let more : stands_up base p 0 (suc n) ≡ stands_up base p 0 n ++ stands_in base p n = up_more base p 0 n ∙ ap (λ (k : ℕ). stands_up base p 0 n ++ stands_in base p k) z in
    let told : rows_to input end (n + 1) ≡ rows_to input end n ++ rows_in input end n = each_tab (rows_in input end) (λ k. k) n in
    ap (map F) more ∙ map_append F (stands_up base p 0 n) (stands_in base p n)
    ∙ ap₂ (λ (a b : List Cell). a ++ b) (cells_to F G base p input end h n) (h n)
    ∙ sym (each_append G (rows_to input end n) (rows_in input end n)) ∙ ap (each G) (sym told) ∙ ap (λ (k : ℕ). each G (rows_to input end k)) (add-one n)

-- ---- one place
ends_at : (q : ℕ) (s : Stmt) → is_code s ≡ true → q + byte_count q s ≡ after q s
ends_at q gone e = false_true e
ends_at q (instr f xs c) e = refl
ends_at q (label n) e = false_true e
ends_at q (variable n d) e = false_true e
ends_at q (comment x) e = false_true e
ends_at q (org l) e = false_true e
ends_at q (bytes es) e = refl
ends_at q (words es) e = refl
ends_at q (pad add m) e = false_true e

to_is : (p : Program) (i : ℕ) → is_code (at p i) ≡ true → position p i + size_in p i ≡ position p (suc i)
to_is p i e = ends_at (position p i) (at p i) e ∙ sym (position_suc p i)

sort_data : (p : Program) (i : ℕ) (s : Stmt) → at p i ≡ s → is_code s ≡ true → is_data_sort (sort_at p i) ≡ is_data s
sort_data p i gone e h = false_true h
sort_data p i (instr f xs c) e h = rw e (on_sort (is_clouded p i || is_change_jump (names_of p) p i) (followed p (context_at p i) (last_of xs)))
  where
    on_sort : (a b : Bool) → is_data_sort (cond a as_stop (cond b as_code as_aside)) ≡ false
    on_sort true b = refl
    on_sort false true = refl
    on_sort false false = refl
sort_data p i (label n) e h = false_true h
sort_data p i (variable n d) e h = false_true h
sort_data p i (comment x) e h = false_true h
sort_data p i (org l) e h = false_true h
sort_data p i (bytes es) e h = rw e
sort_data p i (words es) e h = rw e
sort_data p i (pad add m) e h = false_true h

-- ---- the kinds of statements stay
restates_kind : {s t : Stmt} → Restates s t → kind_of t ≡ kind_of s
restates_kind as_was = refl
restates_kind (re_instr k) = refl

retarget_kind : (f : Operand → Operand) (s : Stmt) → kind_of (retarget f s) ≡ kind_of s
retarget_kind f gone = refl
retarget_kind f (instr g xs c) = refl
retarget_kind f (label n) = refl
retarget_kind f (variable n d) = refl
retarget_kind f (comment x) = refl
retarget_kind f (org l) = refl
retarget_kind f (bytes es) = refl
retarget_kind f (words es) = refl
retarget_kind f (pad add m) = refl

-- ---- a row as the long image has it, and as the short one
abbrev long_cells : Row → List Cell
long_cells r = long_cell r ∷ []

abbrev short_cells : Row → List Cell
short_cells r = cond r.kept (short_cell r ∷ []) []

each_cells : (rs : List Row) → each long_cells rs ≡ map long_cell rs
unfolding each
each_cells [] = refl
each_cells (r ∷ rs) = ap (λ (l : List Cell). long_cell r ∷ l) (each_cells rs)

no_cell : (t : Bool) (r : Row) → r.kept ≡ false → [] ≡ each short_cells (cond t (r ∷ []) [])
unfolding each
no_cell false r h = refl
no_cell true r h = rw h

one_cell : (t : Bool) (r : Row) (c : Cell) → t ≡ true → r.kept ≡ true → c ≡ short_cell r → c ∷ [] ≡ each short_cells (cond t (r ∷ []) [])
unfolding each
one_cell true r c h k z = rw (k, z)
one_cell false r c h k z = false_true h

module _ (asked : Settings) (p : Program) (in_p : Input p) where
  abbrev e : Program
  e = (optimized asked p).program

  abbrev q : Program
  q = in_slots asked p

  length_q : length q ≡ length p
  unfolding optimized
  length_q =
      length_shown asked (write_back e) ∙ length_write_back e
      ∙ chain_keeps asked (λ r. length r ≡ length p) (λ r t st h. step_length r t st ∙ h) (total instr_bytes p) (anchor p) (length_anchor p)

  position_q : (i : ℕ) → position q i ≡ position e i
  position_q i = shown_position asked (write_back e) i ∙ write_back_position e i

  gone_q : (i : ℕ) → at e i ≡ gone → at q i ≡ gone
  gone_q i z = at_shown asked (write_back e) i ∙ ap (spoken asked) (at_write_back e i ∙ ap (retarget (plain_target e)) z) ∙ by_spoken (λ s t. s ≡ gone → t ≡ gone) asked (λ s h. h) (λ x h. refl) gone refl

  -- what is asked of the kind alone
  kinds_q : (ks : List ℕ) → is_one_of ks 0 ≡ is_one_of ks 4 → (i : ℕ) → is_one_of ks (kind_of (at q i)) ≡ is_one_of ks (kind_of (at e i))
  kinds_q ks h i =
      ap (λ (s : Stmt). is_one_of ks (kind_of s)) (at_shown asked (write_back e) i)
      ∙ by_spoken (λ s t. is_one_of ks (kind_of t) ≡ is_one_of ks (kind_of s)) asked (λ s. refl) (λ x. h) (at (write_back e) i)
      ∙ ap (λ (s : Stmt). is_one_of ks (kind_of s)) (at_write_back e i) ∙ ap (is_one_of ks) (retarget_kind (plain_target e) (at e i))

  long_at : (i : ℕ) → map cell_of (stands_in p p i) ≡ each long_cells (rows_in p e i)
  unfolding each
  long_at i = split (is_code (at p i)) refl
    where
      split : (t : Bool) → is_code (at p i) ≡ t → map cell_of (cond t (stand_at p p i ∷ []) []) ≡ each long_cells (cond t (row_at p e i ∷ []) [])
      split false h = refl
      split true h = rw (to_is p i h, sort_data p i (at p i) refl h)

  short_at : (i : ℕ) → map cell_of (stands_in p q i) ≡ each short_cells (rows_in p e i)
  short_at i = ⊎_elim dropped (λ r. left (restates_kind r) (is_code (at q i)) refl) (chain_kept asked p in_p i)
    where
      dropped : at e i ≡ gone → map cell_of (stands_in p q i) ≡ each short_cells (rows_in p e i)
      dropped z = rw (gone_q i z) (no_cell (has_row (at p i)) (row_at p e i) (ap (λ (s : Stmt). not (is_gone s)) z))

      left : kind_of (at e i) ≡ kind_of (at p i) → (t : Bool) → is_code (at q i) ≡ t → map cell_of (cond t (stand_at p q i ∷ []) []) ≡ each short_cells (rows_in p e i)
      left k false h =
          let none : has_row (at p i) ≡ false = ap (is_one_of (1 ∷ 6 ∷ 7 ∷ [])) (sym k) ∙ sym (kinds_q (1 ∷ 6 ∷ 7 ∷ []) refl i) ∙ h in
          sym (ap (λ (t : Bool). each short_cells (cond t (row_at p e i ∷ []) [])) none ∙ unfold each in refl)
      left k true h =
          let was : is_code (at e i) ≡ true = sym (kinds_q (1 ∷ 6 ∷ 7 ∷ []) refl i) ∙ h in
          let data_is : is_data_sort (sort_at q i) ≡ is_data (at p i) = sort_data q i (at q i) refl h ∙ kinds_q (6 ∷ 7 ∷ []) refl i ∙ ap (is_one_of (6 ∷ 7 ∷ [])) k in
          let same : cell_of (stand_at p q i) ≡ short_cell (row_at p e i) = rw (to_is q i h, position_q i, position_q (suc i), data_is) in
          one_cell (has_row (at p i)) (row_at p e i) (cell_of (stand_at p q i)) (ap (is_one_of (1 ∷ 6 ∷ 7 ∷ [])) (sym k) ∙ was) (ap not (code_kept (at e i) was).0) same

  -- rows_are: the map that is handed out
  pub rows_are : RowsAre (rows asked p) (stands_of p p) (stands_of p q)
  unfolding rows stands_of
  rows_are =
      record {
        long_rows = cells_to cell_of long_cells p p p e long_at (length p) ∙ each_cells (rows_to p e (length p));
        short_rows = ap (λ (n : ℕ). map cell_of (stands_up p q 0 n)) length_q ∙ cells_to cell_of short_cells p q p e short_at (length p);
      }
