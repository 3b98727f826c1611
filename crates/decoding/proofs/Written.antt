-- The other way: the bytes that a form is written as begin so, and hold its arguments' bits.
use mathlib.Core.Path.{◌≡◌, refl, subst, sym, ◌∙◌, ap}
use mathlib.Core.List.{List, [], ◌∷◌, ◌++◌, map}
use mathlib.Core.Bool.{Bool, true, false, ◌&&◌, cond}
use Prim.Native.Nat.{ℕ, zero, suc, ◌+◌, ◌*◌, ◌/◌, ◌%◌, ◌^◌, ◌<◌, ◌≤◌}
use native.Mathlib.Nat.{pow-succ', add-mul, mul_assoc}
use native.Mathlib.Numerals.{one-add, add-one}
use native.Mathlib.Omega.{arith}
use lib.Dec.{T, eqb, ltb}
use lib.ListN.{length, get_or, length-map, get_or-append}
use lib.Pow.{shr-shr, mod-pow-add, high}
use borrow.Author.Tests.{eqb-true, ltb-true, lt-ltb, eq-eqb}
use Rattle.laws.specs.Lists.{every, each}
use Rattle.laws.specs.Counts.{all_to}
use Rattle.laws.specs.Bits.{bits, pour, byte_of}
use Rattle.laws.proofs.Counts.{all_at}
use Rattle.laws.proofs.Tests.{and_true, and_both}
use Rattle.laws.proofs.Lists.{each_append}
use Rattle.rules.specs.declared.Kind.{Kind}
use Rattle.rules.specs.declared.Kind.TheVariants.{Reg}
use Rattle.rules.specs.Forms.{form_at, size_at, operands_at}
use Rattle.rules.specs.Patterns.{argument, rows_of}
use Rattle.instruction.proofs.Entries.{holds_at}
use Rattle.decoding.specs.Cells.{Cell, fixed, held, cells_of, all_cells, place_in, agrees, begins}
use Rattle.decoding.specs.Operands.{bits_of, from_bits, width, held_bit, held_in}
use Rattle.decoding.proofs.Tables.{shaped}
use Rattle.decoding.proofs.Cells.{worth_of, worths, cells_say}
use Rattle.decoding.proofs.Rows.{agrees_none, each_worths}

-- ---- the number that bits write, and its bits

abbrev are_bits : List ℕ → Bool
are_bits row = every (λ x. ltb x 2) row

record Poured (k : ℕ) (row : List ℕ) : Type 0 where
  low : ℕ
  is : pour k row ≡ k * 2 ^ length row + low
  small : low < 2 ^ length row

bit_times : (b m : ℕ) → b < 2 → b * m ≤ m
bit_times zero m h = omega arith
bit_times (suc zero) m h = omega arith
bit_times (suc (suc b)) m h = absurd (omega arith)

poured : (k : ℕ) (row : List ℕ) → are_bits row ≡ true → Poured k row
unfolding every
poured k [] h = record { low = 0; is = omega arith; small = omega arith }
poured k (b ∷ bs) h =
    let t = and_true (ltb b 2) (are_bits bs) h in
    let r = poured (k * 2 + b) bs t.1 in
    let n : ℕ = length bs in
    let e : 2 ^ suc n ≡ 2 * 2 ^ n = pow-succ' 2 n in
    let x : (k * 2 + b) * 2 ^ n ≡ k * (2 * 2 ^ n) + b * 2 ^ n = add-mul (k * 2) b (2 ^ n)
    ∙ ap (λ (y : ℕ). y + b * 2 ^ n) (mul_assoc k 2 (2 ^ n)) in
    record {
      low = b * 2 ^ n + r.low;
      is = r.is ∙ rw (x, e) (omega arith);
      small = rw e (omega (arith, r.small, bit_times b (2 ^ n) (ltb-true b 2 t.0)));
    }

bits_back : (m : ℕ) (row : List ℕ) → are_bits row ≡ true → bits (pour m row) 0 (length row) ≡ row
unfolding every bits
bits_back m [] h = refl
bits_back m (b ∷ bs) h =
    let t = and_true (ltb b 2) (are_bits bs) h in
    let r = poured (m * 2 + b) bs t.1 in
    let n : ℕ = length bs in
    let x : ℕ = pour (m * 2 + b) bs in
    let z : 0 + n ≡ n = omega arith in
    let d : x / 2 ^ n ≡ m * 2 + b = ap (λ (y : ℕ). y / 2 ^ n) r.is ∙ high (m * 2 + b) n r.small in
    let top : x / 2 ^ (0 + n) % 2 ≡ b = ap (λ (k : ℕ). x / 2 ^ k % 2) z ∙ ap (λ (y : ℕ). y % 2) d ∙ omega (arith, ltb-true b 2 t.0) in
    rw (top, bits_back (m * 2 + b) bs t.1)

-- ---- rows of eight bits

abbrev is_row : List ℕ → Bool
is_row row = eqb (length row) 8 && are_bits row

byte_back : (row : List ℕ) → is_row row ≡ true → bits (byte_of row) 0 8 ≡ row
unfolding byte_of
byte_back row h =
    let t = and_true (eqb (length row) 8) (are_bits row) h in
    ap (bits (pour 0 row) 0) (sym (eqb-true (length row) 8 t.0)) ∙ bits_back 0 row t.1

byte_low : (row : List ℕ) → is_row row ≡ true → byte_of row < 256
unfolding byte_of
byte_low row h =
    let t = and_true (eqb (length row) 8) (are_bits row) h in
    let p = poured 0 row t.1 in
    let s : p.low < 2 ^ 8 = subst (λ (n : ℕ). p.low < 2 ^ n) (eqb-true (length row) 8 t.0) p.small in
    let z : 0 * 2 ^ length row ≡ 0 = omega arith in
    omega (arith, p.is)

flat_back : (rows : List (List ℕ)) → every (λ row. is_row row) rows ≡ true
    → bits_of (map (λ row. byte_of row) rows) ≡ each (λ row. row) rows
unfolding every each bits_of
flat_back [] h = refl
flat_back (r ∷ rs) h =
    let t = and_true (is_row r) (every (λ row. is_row row) rs) h in
    rw (byte_back r t.0, flat_back rs t.1)

pub bytes_low : (rows : List (List ℕ)) → every (λ row. is_row row) rows ≡ true
    → every (λ b. ltb b 256) (map (λ row. byte_of row) rows) ≡ true
unfolding every
bytes_low [] h = refl
bytes_low (r ∷ rs) h =
    let t = and_true (is_row r) (every (λ row. is_row row) rs) h in
    and_both (ltb (byte_of r) 256) _ (lt-ltb (byte_of r) 256 (byte_low r t.0)) (bytes_low rs t.1)

-- ---- the cells of a form: what the pattern writes itself are bits, and each bit of an argument has its cell. One test over the seventy
-- forms each

abbrev cell_bit : Cell → Bool
cell_bit (fixed v) = ltb v 2
cell_bit (held l n) = true

abbrev cell_row : List Cell → Bool
cell_row row = eqb (length row) 8 && every cell_bit row

all_rows : T (all_to (λ f. every cell_row (cells_of f)) 70)
unfolding all_to every form_at cells_of
all_rows = tt

has_places : (f j : ℕ) → List Kind → Bool
has_places f j [] = true
has_places f j (d ∷ ds) = all_to (λ n. ltb (place_in j n (all_cells f)) (length (all_cells f))) (width d) && has_places f (suc j) ds

all_places : T (all_to (λ f. has_places f 0 (operands_at f)) 70)
unfolding all_to each form_at cells_of all_cells place_in has_places
all_places = tt

place_there : (f j : ℕ) (ds : List Kind) → has_places f j ds ≡ true → (l n : ℕ) → l < length ds → n < width (get_or ds l Reg)
    → place_in (j + l) n (all_cells f) < length (all_cells f)
unfolding has_places
place_there f j [] h l n k m = absurd (omega arith)
place_there f j (d ∷ ds) h zero n k m =
    let t = and_true (all_to (λ n. ltb (place_in j n (all_cells f)) (length (all_cells f))) (width d)) (has_places f (suc j) ds) h in
    let z : j + 0 ≡ j = omega arith in
    rw z (ltb-true (place_in j n (all_cells f)) (length (all_cells f))
    (all_at (λ n. ltb (place_in j n (all_cells f)) (length (all_cells f))) n (width d) m t.0))
place_there f j (d ∷ ds) h (suc l) n k m =
    let t = and_true (all_to (λ n. ltb (place_in j n (all_cells f)) (length (all_cells f))) (width d)) (has_places f (suc j) ds) h in
    let z : j + suc l ≡ suc j + l = omega arith in
    rw z (place_there f (suc j) ds t.1 l n (omega arith) m)

module _ (a b c : ℕ) where
  worth_bit : (x : Cell) → cell_bit x ≡ true → ltb (worth_of a b c x) 2 ≡ true
  worth_bit (fixed v) h = h
  worth_bit (held l n) h = lt-ltb (argument a b c l / 2 ^ n % 2) 2 (omega arith)

  worth_bits : (row : List Cell) → every cell_bit row ≡ true → are_bits (map (worth_of a b c) row) ≡ true
  unfolding every
  worth_bits [] h = refl
  worth_bits (x ∷ xs) h =
      let t = and_true (cell_bit x) (every cell_bit xs) h in
      and_both (ltb (worth_of a b c x) 2) _ (worth_bit x t.0) (worth_bits xs t.1)

  worth_row : (row : List Cell) → cell_row row ≡ true → is_row (map (worth_of a b c) row) ≡ true
  worth_row row h =
      let t = and_true (eqb (length row) 8) (every cell_bit row) h in
      and_both (eqb (length (map (worth_of a b c) row)) 8) _ (eq-eqb _ 8 (length-map row (worth_of a b c) ∙ eqb-true (length row) 8 t.0))
      (worth_bits row t.1)

  worth_rows : (rows : List (List Cell)) → every cell_row rows ≡ true → every (λ row. is_row row) (worths a b c rows) ≡ true
  unfolding every
  worth_rows [] h = refl
  worth_rows (r ∷ rs) h =
      let t = and_true (cell_row r) (every cell_row rs) h in
      and_both (is_row (map (worth_of a b c) r)) _ (worth_row r t.0) (worth_rows rs t.1)

  -- the cells that the pattern writes itself agree
  agrees_worth : (cs ds : List Cell) → agrees (cs ++ ds) (map (worth_of a b c) cs) ≡ true
  agrees_worth [] ds = agrees_none ds
  agrees_worth (fixed v ∷ cs) ds = rw (eq-eqb v v refl) (agrees_worth cs ds)
  agrees_worth (held l n ∷ cs) ds = agrees_worth cs ds

  begin_rows : (rows : List (List Cell)) (rest : List ℕ) → 1 ≤ length rows → every cell_row rows ≡ true
      → agrees (each (λ row. row) rows) (bits (get_or (map (λ row. byte_of row) (worths a b c rows) ++ rest) 0 0) 0 8) ≡ true
  unfolding every each
  begin_rows [] rest l h = absurd (omega arith)
  begin_rows (r ∷ rs) rest l h =
      let t = and_true (cell_row r) (every cell_row rs) h in
      rw (byte_back (map (worth_of a b c) r) (worth_row r t.0)) (agrees_worth r (each (λ row. row) rs))

  -- the cell of a bit is found
  found : (cs : List Cell) (j n : ℕ) → place_in j n cs < length cs
      → get_or (map (worth_of a b c) cs) (place_in j n cs) 0 ≡ argument a b c j / 2 ^ n % 2
  unfolding place_in
  found [] j n h = absurd (omega arith)
  found (fixed v ∷ cs) j n h = found cs j n (omega arith)
  found (held l k ∷ cs) j n h = on (eqb j l && eqb n k) refl h (found cs j n)
    where
      on : (t : Bool) → eqb j l && eqb n k ≡ t → cond t 0 (suc (place_in j n cs)) < suc (length cs)
          → (place_in j n cs < length cs → get_or (map (worth_of a b c) cs) (place_in j n cs) 0 ≡ argument a b c j / 2 ^ n % 2)
          → get_or (worth_of a b c (held l k) ∷ map (worth_of a b c) cs) (cond t 0 (suc (place_in j n cs))) 0 ≡ argument a b c j / 2 ^ n % 2
      on true e h more =
          let t = and_true (eqb j l) (eqb n k) e in
          rw (eqb-true j l t.0, eqb-true n k t.1)
      on false e h more = more (omega arith)

-- ---- the bytes of form f, its arguments' values a, b, c given, with others behind them

module _ (f : ℕ) (l : f < 70) (a b c : ℕ) (rest : List ℕ) where
  abbrev rows : List (List ℕ)
  rows = rows_of f a b c

  abbrev pub written : List ℕ
  written = map (λ row. byte_of row) rows

  cell_rows : every cell_row (cells_of f) ≡ true
  cell_rows = holds_at (λ f. every cell_row (cells_of f)) 70 all_rows f l

  rows_good : every (λ row. is_row row) rows ≡ true
  rows_good = ap (every (λ row. is_row row)) (cells_say a b c f) ∙ worth_rows a b c (cells_of f) cell_rows

  pub written_length : length written ≡ size_at f
  written_length = length-map rows (λ row. byte_of row) ∙ ap (λ (x : List (List ℕ)). length x) (cells_say a b c f)
      ∙ length-map (cells_of f) _
      ∙ (shaped f l).rows

  pub written_bytes : every (λ b. ltb b 256) written ≡ true
  written_bytes = bytes_low rows rows_good

  pub written_begins : begins f (get_or (written ++ rest) 0 0) ≡ true
  unfolding begins all_cells
  written_begins =
      ap (λ (x : List (List ℕ)). agrees (each (λ row. row) (cells_of f)) (bits (get_or (map (λ row. byte_of row) x ++ rest) 0 0) 0 8))
      (cells_say a b c f)
      ∙ begin_rows a b c (cells_of f) rest (let r = shaped f l in omega (arith, r.rows, r.some)) cell_rows

  flat_cells : bits_of written ≡ map (worth_of a b c) (all_cells f)
  unfolding all_cells
  flat_cells =
      ap (λ (x : List (List ℕ)). bits_of (map (λ row. byte_of row) x)) (cells_say a b c f)
      ∙ flat_back (worths a b c (cells_of f)) (worth_rows a b c (cells_of f) cell_rows)
      ∙ each_worths f [] a b c (cells_of f)

  pub written_bit : (j n : ℕ) → j < length (operands_at f) → n < width (get_or (operands_at f) j Reg)
      → held_bit f (written ++ rest) j n ≡ argument a b c j / 2 ^ n % 2
  unfolding held_bit bits_of
  written_bit j n h k =
      let z : 0 + j ≡ j = omega arith in
      let p : place_in j n (all_cells f) < length (all_cells f) = rw z at
      (place_there f 0 (operands_at f) (holds_at (λ f. has_places f 0 (operands_at f)) 70 all_places f l) j n h k) in
      let m : length (bits_of written) ≡ length (all_cells f) = ap (λ (x : List ℕ). length x) flat_cells
      ∙ length-map (all_cells f) (worth_of a b c) in
      ap (λ (x : List ℕ). get_or x (place_in j n (all_cells f)) 0) (each_append (λ b. bits b 0 8) written rest)
      ∙ get_or-append (bits_of written) (bits_of rest) 0 (place_in j n (all_cells f)) (omega arith)
      ∙ ap (λ (x : List ℕ). get_or x (place_in j n (all_cells f)) 0) flat_cells ∙ found a b c (all_cells f) j n p

-- ---- and the number that is held

from_ext : (F G : ℕ → ℕ) (w : ℕ) → ((n : ℕ) → n < w → F n ≡ G n) → from_bits F w ≡ from_bits G w
from_ext F G zero h = refl
from_ext F G (suc w) h = rw (h 0 (omega arith), from_ext (λ n. F (suc n)) (λ n. G (suc n)) w (λ n k. h (suc n) (omega arith)))

from_mod : (v w : ℕ) → from_bits (λ n. v / 2 ^ n % 2) w ≡ v % 2 ^ w
from_mod v zero = omega arith
from_mod v (suc w) =
    let s : (n : ℕ) → n < w
    → v / 2 ^ suc n % 2 ≡ v / 2 / 2 ^ n % 2 = λ n k. ap (λ (m : ℕ). v / 2 ^ m % 2) (sym (one-add n))
    ∙ ap (λ (m : ℕ). m % 2) (sym (shr-shr v 1 n)) in
    let e : from_bits (λ n. v / 2 ^ suc n % 2) w ≡ v / 2 % 2 ^ w = from_ext (λ n. v / 2 ^ suc n % 2) (λ n. v / 2 / 2 ^ n % 2) w s
    ∙ from_mod (v / 2) w in
    let d : v % 2 ^ suc w ≡ v / 2 % 2 ^ w * 2 + v % 2 = ap (λ (m : ℕ). v % 2 ^ m) (sym (add-one w)) ∙ mod-pow-add v w 1 in
    omega arith

pub written_held : (f : ℕ) → f < 70 → (a b c : ℕ) (rest : List ℕ) (j : ℕ) → j < length (operands_at f)
    → held_in f (map (λ row. byte_of row) (rows_of f a b c) ++ rest) j (width (get_or (operands_at f) j Reg)) ≡ argument a b c j % 2 ^ width
    (get_or (operands_at f) j Reg)
unfolding held_in
written_held f l a b c rest j h =
    let w : ℕ = width (get_or (operands_at f) j Reg) in
    from_ext (held_bit f (map (λ row. byte_of row) (rows_of f a b c) ++ rest) j) (λ n. argument a b c j / 2 ^ n % 2) w
    (λ n k. written_bit f l a b c rest j n h k) ∙ from_mod (argument a b c j) w
