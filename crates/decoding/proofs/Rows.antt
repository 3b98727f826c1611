-- A form whose arguments have the bits that its bytes hold is written as these bytes.
use mathlib.Core.Path.{◌≡◌, refl, sym, ◌∙◌, ap}
use mathlib.Core.List.{List, [], ◌∷◌, ◌++◌, map, map-append}
use mathlib.Core.Bool.{Bool, true, ◌&&◌}
use Prim.Native.Nat.{ℕ, zero, suc, ◌+◌, ◌*◌, ◌/◌, ◌%◌, ◌^◌, ◌<◌, ◌≤◌}
use native.Mathlib.Omega.{arith}
use lib.Dec.{eqb, ltb}
use lib.ListN.{length, get_or, take, drop, length-append, length-map, get_or-append}
use lib.Seq.{drop-cons, take-append-add, take_at, drop_at}
use borrow.Author.Tests.{eqb-true, ltb-true}
use Rattle.laws.specs.Lists.{every, each}
use Rattle.laws.specs.Bits.{bits, byte_of}
use Rattle.laws.proofs.Bits.{length_bits, low_law}
use Rattle.laws.proofs.Tests.{and_true, both}
use Rattle.rules.specs.Forms.{size_at, operands_at}
use Rattle.rules.specs.Patterns.{argument, rows_of}
use Rattle.promises.proofs.RoundTrip.{AllBytes}
use Rattle.decoding.proofs.Bytes.{byte_first}
use Rattle.decoding.specs.Cells.{Cell, fixed, held, cells_of, all_cells, place_in, agrees, begins}
use Rattle.decoding.specs.Operands.{bits_of, held_bit}
use Rattle.decoding.proofs.Tables.{width_in, fit, shaped}
use Rattle.decoding.proofs.Cells.{worth_of, worths, cells_say}

-- ---- rows of eight bits that stand in a row are the bits of the bytes

length_bits_of : (s : List ℕ) → length (bits_of s) ≡ 8 * length s
unfolding bits_of each
length_bits_of [] = refl
length_bits_of (b ∷ s) = omega (arith, length-append (bits b 0 8) (bits_of s), length_bits b 0 8, length_bits_of s)

abbrev Eight : List ℕ → Bool
Eight row = eqb (length row) 8

regroup : (rows : List (List ℕ)) (s : List ℕ) → AllBytes s → every Eight rows ≡ true → length rows ≤ length s
    → each (λ row. row) rows ≡ take (length (each (λ row. row) rows)) (bits_of s) → map (λ row. byte_of row) rows ≡ take (length rows) s
unfolding each every bits_of
regroup [] s h k l e = refl
regroup (r ∷ rs) [] h k l e = absurd (omega arith)
regroup (r ∷ rs) (b ∷ s) h k l e =
    let t = byte_first b s h in
    let u = and_true (Eight r) (every Eight rs) k in
    let m : length r ≡ 8 = eqb-true (length r) 8 u.0 in
    let E : List ℕ = each (λ row. row) rs in
    let X : List ℕ = bits b 0 8 in
    let n : length X ≡ 8 = length_bits b 0 8 in
    let g : length (r ++ E) ≡ length X + length E = length-append r E ∙ omega arith in
    let d : r ++ E ≡ X ++ take (length E) (bits_of s) = e ∙ ap (λ (w : ℕ). take w (X ++ bits_of s)) g
    ∙ take-append-add X (bits_of s) (length E) in
    let x : r ≡ X = sym (take_at r E 8 m) ∙ ap (take 8) d ∙ take_at X _ 8 n in
    let y : E ≡ take (length E) (bits_of s) = sym (drop_at r E 8 m) ∙ ap (drop 8) d ∙ drop_at X _ 8 n in
    let z : byte_of r ≡ b = ap byte_of x ∙ low_law b ∙ omega (arith, t.0) in
    rw (z, regroup rs s t.1 u.1 (omega arith) y)

-- ---- cells

pub agrees_none : (cs : List Cell) → agrees cs [] ≡ true
agrees_none [] = refl
agrees_none (fixed v ∷ cs) = refl
agrees_none (held l n ∷ cs) = refl

-- what follows a cell agrees too
agrees_next : (l n : ℕ) (cs : List Cell) (xs : List ℕ) (o : ℕ) → agrees (held l n ∷ cs) (drop o xs) ≡ true
    → agrees cs (drop (suc o) xs) ≡ true
agrees_next l n cs [] zero e = agrees_none cs
agrees_next l n cs [] (suc o) e = agrees_none cs
agrees_next l n cs (x ∷ xs) zero e = e
agrees_next l n cs (x ∷ xs) (suc o) e = agrees_next l n cs xs o e

module _ (f : ℕ) (s : List ℕ) (a b c : ℕ) where
  -- the arguments have the bits that s holds of them
  abbrev pub Holds : Type 0
  Holds = (l n : ℕ) → n < width_in l (operands_at f) → argument a b c l / 2 ^ n % 2 ≡ held_bit f s l n

  flat : (first : List ℕ) → length first ≡ 8 → ((k : ℕ) → k < 8 → get_or first k 0 ≡ get_or (bits_of s) k 0) → Holds
      → (cs : List Cell) (o : ℕ) → fit (all_cells f) (operands_at f) o cs ≡ true → agrees cs (drop o first) ≡ true
      → o + length cs ≤ length (bits_of s)
      → map (λ x. worth_of a b c x) cs ≡ take (length cs) (drop o (bits_of s))
  unfolding held_bit
  flat first l8 same h [] o k g l = refl
  flat first l8 same h (fixed v ∷ cs) o k g l =
      let t = and_true (ltb o 8) (fit (all_cells f) (operands_at f) (suc o) cs) k in
      let i : o < 8 = ltb-true o 8 t.0 in
      let g' : agrees (fixed v ∷ cs) (get_or first o 0 ∷ drop (suc o) first) ≡ true = rw (drop-cons first o 0 (omega arith)) at g in
      let u = both (eqb v (get_or first o 0)) (agrees cs (drop (suc o) first)) g' in
      let x : v ≡ get_or (bits_of s) o 0 = eqb-true v (get_or first o 0) u.0 ∙ same o i in
      rw (drop-cons (bits_of s) o 0 (omega arith), x, flat first l8 same h cs (suc o) t.1 u.1 (omega arith))
  flat first l8 same h (held m n ∷ cs) o k g l =
      let t = and_true (eqb (place_in m n (all_cells f)) o)
      (ltb n (width_in m (operands_at f)) && fit (all_cells f) (operands_at f) (suc o) cs) k in
      let u = and_true (ltb n (width_in m (operands_at f))) (fit (all_cells f) (operands_at f) (suc o) cs) t.1 in
      let w : argument a b c m / 2 ^ n % 2 ≡ get_or (bits_of s) o 0 = h m n (ltb-true n _ u.0)
      ∙ ap (λ (p : ℕ). get_or (bits_of s) p 0) (eqb-true (place_in m n (all_cells f)) o t.0) in
      rw (drop-cons (bits_of s) o 0 (omega arith), w, flat first l8 same h cs (suc o) u.1 (agrees_next m n cs first o g) (omega arith))

  -- rows of cells and of their worths
  pub each_worths : (rows : List (List Cell)) → each (λ row. row) (worths a b c rows) ≡ map (λ x. worth_of a b c x) (each (λ row. row) rows)
  unfolding each
  each_worths [] = refl
  each_worths (r ∷ rs) = rw (each_worths rs, map-append (λ x. worth_of a b c x) r (each (λ row. row) rs))

  eight_worths : (rows : List (List Cell)) → every (λ row. eqb (length row) 8) rows ≡ true → every Eight (worths a b c rows) ≡ true
  unfolding every
  eight_worths [] e = refl
  eight_worths (r ∷ rs) e =
      let t = and_true (eqb (length r) 8) (every (λ row. eqb (length row) 8) rs) e in
      rw (length-map r (λ x. worth_of a b c x), t.0) (eight_worths rs t.1)

  pub length_each : (rows : List (List Cell)) → every (λ row. eqb (length row) 8) rows ≡ true
      → length (each (λ row. row) rows) ≡ 8 * length rows
  unfolding each every
  length_each [] e = refl
  length_each (r ∷ rs) e =
      let t = and_true (eqb (length r) 8) (every (λ row. eqb (length row) 8) rs) e in
      omega (arith, eqb-true (length r) 8 t.0, length_each rs t.1, length-append r (each (λ row. row) rs))

-- the bytes of form f are those that it was read from, x the first of them
module _ (f x : ℕ) (t : List ℕ) (a b c : ℕ) where
  first_bits : (k : ℕ) → k < 8 → get_or (bits x 0 8) k 0 ≡ get_or (bits_of (x ∷ t)) k 0
  unfolding bits_of each
  first_bits k l = sym (get_or-append (bits x 0 8) (bits_of t) 0 k (omega (arith, length_bits x 0 8)))

  pub bytes_back : f < 70 → AllBytes (x ∷ t) → size_at f ≤ length (x ∷ t) → begins f x ≡ true → Holds f (x ∷ t) a b c
      → map (λ row. byte_of row) (rows_of f a b c) ≡ take (size_at f) (x ∷ t)
  unfolding begins all_cells
  bytes_back l h k g w =
      let s : List ℕ = x ∷ t in
      let r = shaped f l in
      let rows : List (List Cell) = cells_of f in
      let cells : List Cell = all_cells f in
      let n : length rows ≡ size_at f = r.rows in
      let m : length cells ≡ 8 * length rows = length_each f s a b c rows r.eights in
      let fl : map (λ y. worth_of a b c y) cells ≡ take (length cells) (bits_of s) =
      flat f s a b c (bits x 0 8) (length_bits x 0 8) first_bits w cells 0 r.cells g (omega (arith, length_bits_of s)) in
      let es : each (λ row. row) (worths a b c rows) ≡ take (length (each (λ row. row) (worths a b c rows))) (bits_of s) =
      each_worths f s a b c rows ∙ fl
      ∙ ap (λ (z : ℕ). take z (bits_of s)) (sym (ap length (each_worths f s a b c rows) ∙ length-map cells (λ y. worth_of a b c y))) in
      let size : length (worths a b c rows) ≡ size_at f = length-map rows _ ∙ n in
      ap (λ (z : List (List ℕ)). map (λ row. byte_of row) z) (cells_say a b c f)
      ∙ regroup (worths a b c rows) s h (eight_worths f s a b c rows r.eights) (omega arith) es
      ∙ ap (λ (z : ℕ). take z s) size
