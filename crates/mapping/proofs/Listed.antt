-- The rows of the first places, one place more, and a room filled with their lines.
use mathlib.Core.Path.{◌≡◌, refl, sym, ap, ◌∙◌, subst}
use mathlib.Core.List.{List, [], ◌∷◌, ◌++◌, append-nil}
use mathlib.Core.Bool.{Bool, true, false, cond}
use Prim.Native.Nat.{ℕ, zero, suc, ◌+◌, ◌*◌, ◌≤◌, ◌<◌}
use native.Mathlib.Numerals.{add-one}
use native.Mathlib.Omega.{arith}
use lib.ListN.{length, length-append}
use Rattle.std.specs.List.{count_by, range_with_len}
use Rattle.std.proofs.lemmas.List.{map-id}
use Rattle.std.proofs.lemmas.List.FromFn.{map-range_with_len_more}
use Rattle.std.proofs.lemmas.List.Sums.{sum_by-append}
use Rattle.laws.specs.Lists.{each}
use Rattle.laws.specs.Counts.{tab}
use Rattle.laws.proofs.Lists.{each_append, each_one}
use Rattle.laws.proofs.Counts.{each_tab, rises}
use Rattle.laws.proofs.Tests.{cond_true, cond_false}
use Rattle.rules.specs.Programs.{Placeℕ, Program, at}
use Rattle.rules.specs.Output.{line_of}
use Rattle.digits.specs.Digits.{laid}
use Rattle.digits.proofs.Rooms.{length_laid, laid_more, laid_nothing, length_line}
use Rattle.mapping.specs.Rows.{Row, has_row, row_at, rows_in, rows_to, row_bytes, row_line}
use Rattle.mapping.specs.Entry.{row_lines}

-- ---- one place more
module _ (p e : Program) where
  pub to_none : rows_to p e 0 ≡ []
  unfolding rows_to each tab
  to_none = refl

  module _ (i : Placeℕ) where
    to_more : rows_to p e (i + 1) ≡ rows_to p e i ++ rows_in p e i
    unfolding rows_to
    to_more = each_tab (rows_in p e) (λ k. k) i

    pub to_one : has_row (at p i) ≡ true → rows_to p e (i + 1) ≡ rows_to p e i ++ (row_at p e i ∷ [])
    to_one h = to_more ∙ ap (λ (l : List Row). rows_to p e i ++ l) (cond_true (has_row (at p i)) (row_at p e i ∷ []) [] h)

    pub to_other : has_row (at p i) ≡ false → rows_to p e (i + 1) ≡ rows_to p e i
    to_other h =
        to_more ∙ ap (λ (l : List Row). rows_to p e i ++ l) (cond_false (has_row (at p i)) (row_at p e i ∷ []) [] h) ∙ append-nil (rows_to p e i)

    pub count_one : (n : ℕ) → n ≡ length (rows_to p e i) → has_row (at p i) ≡ true → n + 1 ≡ length (rows_to p e (i + 1))
    count_one n h z = omega (arith, ap length (to_one z), length-append (rows_to p e i) (row_at p e i ∷ []))

    pub count_other : (n : ℕ) → n ≡ length (rows_to p e i) → has_row (at p i) ≡ false → n ≡ length (rows_to p e (i + 1))
    count_other n h z = h ∙ ap length (sym (to_other z))

    to_rises : length (rows_to p e i) ≤ length (rows_to p e (suc i))
    to_rises =
        let z : rows_to p e (suc i) ≡ rows_to p e i ++ rows_in p e i = ap (rows_to p e) (sym (add-one i)) ∙ to_more in
        omega (arith, ap length z, length-append (rows_to p e i) (rows_in p e i))

  pub to_within : (i n : ℕ) → i ≤ n → length (rows_to p e i) ≤ length (rows_to p e n)
  to_within = rises (λ k. length (rows_to p e k)) (λ k. to_rises k)

-- ---- the places that pass a count
count_more : (test : ℕ → Bool) (n : ℕ)
    → count_by test (range_with_len 0 (n + 1)) ≡ count_by test (range_with_len 0 n) + (0 + cond (test n) 1 0)
count_more test n =
    let more : range_with_len 0 (n + 1) ≡ range_with_len 0 n ++ (n ∷ []) =
    sym (map-id (range_with_len 0 (n + 1))) ∙ map-range_with_len_more (λ x. x) 0 n n (omega arith)
    ∙ ap (λ l. l ++ (n ∷ [])) (map-id (range_with_len 0 n)) in
    ap (count_by test) more ∙ sum_by-append (λ x. cond (test x) 1 0) (range_with_len 0 n) (n ∷ [])

pub count_rows_to : (p e : Program) (test : ℕ → Bool) (n : ℕ) → ((i : ℕ) → i < n → test i ≡ has_row (at p i))
    → count_by test (range_with_len 0 n) ≡ length (rows_to p e n)
count_rows_to p e test zero same = sym (ap length (to_none p e))
count_rows_to p e test (suc n) same =
    let before = count_rows_to p e test n (λ i h. same i (omega arith)) in
    let one : (b : Bool) → has_row (at p n) ≡ b → count_by test (range_with_len 0 n) + (0 + cond b 1 0) ≡ length (rows_to p e (n + 1)) =
    λ b. elim b as (λ b. has_row (at p n) ≡ b → count_by test (range_with_len 0 n) + (0 + cond b 1 0) ≡ length (rows_to p e (n + 1))) [
      | true ↦ λ h. count_one p e n _ before h
      | false ↦ λ h. omega (arith, count_other p e n _ before h)
    ] in
    subst (λ m. count_by test (range_with_len 0 m) ≡ length (rows_to p e m)) (add-one n)
    (count_more test n ∙ one (test n) (sym (same n (omega arith))))

-- ---- lines, 37 characters each
pub length_row : (r : Row) → length (row_bytes r) ≡ 18
length_row r = refl

pub length_row_line : (r : Row) → length (row_line r) ≡ 37
unfolding row_line
length_row_line r = length_line (row_bytes r) ∙ omega (arith, length_row r)

pub length_lines : (rs : List Row) → length (row_lines rs) ≡ 37 * length rs
unfolding row_lines each
length_lines [] = refl
length_lines (r ∷ rs) = omega (arith, length-append (row_line r) (row_lines rs), length_row_line r, length_lines rs)

lines_more : (rs : List Row) (r : Row) → row_lines (rs ++ (r ∷ [])) ≡ row_lines rs ++ row_line r
unfolding row_lines
lines_more rs r = each_append row_line rs (r ∷ []) ∙ ap (λ (l : List ℕ). each row_line rs ++ l) (each_one row_line r)

-- ---- a room filled with those of the first i places
pub record Written (p e : Program) (room : List ℕ) (i n : ℕ) (out : List ℕ) : Type 0 where
  pub count : n ≡ length (rows_to p e i)
  pub few : n ≤ i
  pub filled : out ≡ laid room 0 (row_lines (rows_to p e i))

module _ (p e : Program) (room : List ℕ) where
  pub written_start : Written p e room 0 0 room
  unfolding row_lines each
  written_start =
      record {
        count = sym (ap length (to_none p e));
        few = omega arith;
        filled = sym (ap (λ (l : List Row). laid room 0 (row_lines l)) (to_none p e) ∙ laid_nothing room 0);
      }

  module _ (i n : ℕ) (out : List ℕ) (w : Written p e room i n out) where
    pub written_other : has_row (at p i) ≡ false → Written p e room (i + 1) n out
    written_other h =
        let z = sym (to_other p e i h) in
        record {
          count = w.count ∙ ap length z;
          few = omega (arith, w.few);
          filled = w.filled ∙ ap (λ (l : List Row). laid room 0 (row_lines l)) z;
        }

    module _ (m : ℕ) (l : i ≤ m) (f : length (row_lines (rows_to p e m)) ≤ length room) where
      size : length (row_lines (rows_to p e i)) ≡ 37 * n
      size = omega (arith, length_lines (rows_to p e i), w.count)

      -- the room stays as long
      pub written_length : length out ≡ length room
      written_length =
          ap length w.filled
          ∙ length_laid room 0 (row_lines (rows_to p e i))
          (omega (arith, size, f, length_lines (rows_to p e m), to_within p e i m (omega arith), w.count))

      module _ (inside : i < m) (h : has_row (at p i) ≡ true) where
        -- and has room for the next line
        pub written_room : 37 * n + 37 ≤ length room
        written_room = omega (arith, f, length_lines (rows_to p e m), to_within p e (i + 1) m (omega arith), count_one p e i n w.count h)

        pub written_one : (out' : List ℕ) → out' ≡ laid out (37 * n) (line_of (row_bytes (row_at p e i))) → Written p e room (i + 1) (n + 1) out'
        unfolding row_line
        written_one out' eo =
            let z : rows_to p e (i + 1) ≡ rows_to p e i ++ (row_at p e i ∷ []) = to_one p e i h in
            let line = row_line (row_at p e i) in
            record {
              count = count_one p e i n w.count h;
              few = omega (arith, w.few);
              filled =
                  eo ∙ ap (λ (d : List ℕ). laid d (37 * n) line) w.filled
                  ∙ laid_more room (row_lines (rows_to p e i)) line 0 (37 * n) (omega (arith, size)) (omega (arith, written_room, length_row_line (row_at p e i)))
                  ∙ ap (laid room 0) (sym (ap row_lines z ∙ lines_more (rows_to p e i) (row_at p e i)));
            }
