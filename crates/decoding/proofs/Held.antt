-- An argument's bits, found by the pattern, are the runs of its kind: one test over the seventy forms, and one law of runs.
use mathlib.Core.Path.{◌≡◌, refl, sym, ◌∙◌, ap}
use mathlib.Core.Logic.{⊎_elim}
use mathlib.Core.List.{List, [], ◌∷◌, ◌++◌, map}
use mathlib.Core.Bool.{Bool, true, false, ◌&&◌, cond}
use Prim.Native.Nat.{ℕ, zero, suc, ◌+◌, ◌-◌, ◌*◌, ◌/◌, ◌%◌, ◌^◌, ◌<◌, ◌≤◌}
use native.Mathlib.Nat.{pow-succ', mul_assoc, div-eq_of_lt, eq-or-lt_of_le, le_of_suc-le-suc}
use native.Mathlib.Numerals.{add-one}
use native.Mathlib.Omega.{arith}
use lib.Dec.{T, leb, eqb}
use lib.ListN.{length, get_or, get_or-append}
use lib.Seq.{get_or-append-add}
use lib.Pow.{shr-shr, mod-pow-add, pow_pos}
use borrow.Author.Tests.{leb-true}
use Rattle.laws.specs.Lists.{each, every, same}
use Rattle.laws.specs.Counts.{all_to}
use Rattle.laws.specs.Bits.{bits}
use Rattle.laws.proofs.Bits.{length_bits}
use Rattle.laws.proofs.Lists.{same_true}
use Rattle.laws.proofs.Tests.{and_true}
use Rattle.rules.specs.declared.Kind.{Kind}
use Rattle.rules.specs.declared.Kind.TheVariants.{Reg, I8, D9, Bit, Rel8, A12, A16, Rel16}
use Rattle.rules.specs.Forms.{form_at, size_at, operands_at}
use Rattle.instruction.proofs.Entries.{holds_at}
use Rattle.decoding.specs.Cells.{cells_of, all_cells, place_in}
use Rattle.decoding.specs.Operands.{bits_of, from_bits, width, held_bit, held_in}
use Rattle.decoding.specs.Runs.{Run, mov_direct, runs_of, number_in}

-- ---- a bit of bytes by its place

bits_at : (x n k : ℕ) → k < n → get_or (bits x 0 n) (n - suc k) 0 ≡ x / 2 ^ k % 2
unfolding bits
bits_at x zero k l = absurd (omega arith)
bits_at x (suc n) k l = ⊎_elim here (later (bits_at x n k)) (eq-or-lt_of_le (le_of_suc-le-suc l))
  where
    here : k ≡ n → get_or (x / 2 ^ (0 + n) % 2 ∷ bits x 0 n) (suc n - suc k) 0 ≡ x / 2 ^ k % 2
    here e = let z : suc n - suc k ≡ 0 = omega arith in let y : 0 + n ≡ k = omega arith in rw (z, y)

    later : (k < n → get_or (bits x 0 n) (n - suc k) 0 ≡ x / 2 ^ k % 2) → k < n
        → get_or (x / 2 ^ (0 + n) % 2 ∷ bits x 0 n) (suc n - suc k) 0 ≡ x / 2 ^ k % 2
    later below m = let z : suc n - suc k ≡ suc (n - suc k) = omega arith in rw z (below m)

bit_at : (s : List ℕ) (p k : ℕ) → k < 8 → get_or (bits_of s) (8 * p + (7 - k)) 0 ≡ get_or s p 0 / 2 ^ k % 2
unfolding bits_of each
bit_at [] p k l = rw (div-eq_of_lt {n = 0} {m = 2 ^ k} (pow_pos k))
bit_at (x ∷ s) zero k l =
    let z : 8 * 0 + (7 - k) ≡ 8 - suc k = omega arith in
    ap (λ (q : ℕ). get_or (bits x 0 8 ++ bits_of s) q 0) z
    ∙ get_or-append (bits x 0 8) (bits_of s) 0 (8 - suc k) (omega (arith, length_bits x 0 8))
    ∙ bits_at x 8 k l
bit_at (x ∷ s) (suc p) k l =
    let z : 8 * suc p + (7 - k) ≡ length (bits x 0 8) + (8 * p + (7 - k)) = omega (arith, length_bits x 0 8) in
    ap (λ (q : ℕ). get_or (bits x 0 8 ++ bits_of s) q 0) z
    ∙ get_or-append-add (bits x 0 8) (bits_of s) (8 * p + (7 - k)) 0
    ∙ bit_at s p k l

-- ---- the places of runs, and the number that the bits there make
places_of_run : (p k c : ℕ) → List ℕ
places_of_run p k zero = []
places_of_run p k (suc c) = (8 * p + (7 - k)) ∷ places_of_run p (suc k) c

places_of : List Run → List ℕ
places_of [] = []
places_of (r ∷ rs) = places_of_run r.byte r.low r.count ++ places_of rs

made : List ℕ → ℕ
made [] = 0
made (b ∷ bs) = b + 2 * made bs

-- P 0, .., P (w - 1)
up_to : (ℕ → ℕ) → ℕ → List ℕ
up_to P zero = []
up_to P (suc w) = P 0 ∷ up_to (λ n. P (suc n)) w

step : (y c r : ℕ) → y % 2 + 2 * (y / 2 % 2 ^ c + 2 ^ c * r) ≡ y % 2 ^ suc c + 2 ^ suc c * r
step y c r =
    let a : y % 2 ^ suc c ≡ y / 2 % 2 ^ c * 2 + y % 2 = ap (λ (m : ℕ). y % 2 ^ m) (sym (add-one c)) ∙ mod-pow-add y c 1 in
    let b : 2 ^ suc c * r ≡ 2 * (2 ^ c * r) = ap (λ (m : ℕ). m * r) (pow-succ' 2 c) ∙ mul_assoc 2 (2 ^ c) r in
    rw (a, b) (omega arith)

module _ (s : List ℕ) where
  abbrev at : List ℕ → List ℕ
  at ps = map (λ q. get_or (bits_of s) q 0) ps

  run_makes : (p k c : ℕ) (rest : List ℕ) → k + c ≤ 8
      → made (at (places_of_run p k c ++ rest)) ≡ get_or s p 0 / 2 ^ k % 2 ^ c + 2 ^ c * made (at rest)
  unfolding made places_of_run
  run_makes p k zero rest l = omega arith
  run_makes p k (suc c) rest l =
      let x : ℕ = get_or s p 0 in
      let y : ℕ = x / 2 ^ k in
      let h : x / 2 ^ suc k ≡ y / 2 = ap (λ (m : ℕ). x / 2 ^ m) (sym (add-one k)) ∙ sym (shr-shr x k 1) in
      rw (bit_at s p k (omega arith), run_makes p (suc k) c rest (omega arith), h) (step y c (made (at rest)))

  runs_make : (rs : List Run) → every (λ r. leb (r.low + r.count) 8) rs ≡ true → made (at (places_of rs)) ≡ number_in s rs
  unfolding made places_of every
  runs_make [] h = refl
  runs_make (r ∷ rs) h =
      let t = and_true (leb (r.low + r.count) 8) (every (λ r. leb (r.low + r.count) 8) rs) h in
      run_makes r.byte r.low r.count (places_of rs) (leb-true (r.low + r.count) 8 t.0)
      ∙ rw (runs_make rs t.1)

  bits_make : (P : ℕ → ℕ) (w : ℕ) → from_bits (λ n. get_or (bits_of s) (P n) 0) w ≡ made (at (up_to P w))
  unfolding made up_to
  bits_make P zero = refl
  bits_make P (suc w) = rw (bits_make (λ n. P (suc n)) w)

-- ---- the places where the pattern of a form has an argument are those of its runs
laid : (f j : ℕ) → List Kind → Bool
laid f j [] = true
laid f j (d ∷ ds) =
    same (up_to (λ n. place_in j n (all_cells f)) (width d)) (places_of (runs_of f d))
    && (every (λ r. leb (r.low + r.count) 8) (runs_of f d) && laid f (suc j) ds)

all_laid : T (all_to (λ f. laid f 0 (operands_at f)) 70)
unfolding all_to every each same form_at cells_of all_cells place_in laid up_to places_of places_of_run
all_laid = tt

held_from : (f : ℕ) (s : List ℕ) (j : ℕ) (ds : List Kind) → laid f j ds ≡ true → (l : ℕ) → l < length ds
    → held_in f s (j + l) (width (get_or ds l Reg)) ≡ number_in s (runs_of f (get_or ds l Reg))
unfolding laid held_in held_bit
held_from f s j [] h l m = absurd (omega arith)
held_from f s j (d ∷ ds) h zero m =
    let a = and_true (same (up_to (λ n. place_in j n (all_cells f)) (width d)) (places_of (runs_of f d)))
    (every (λ r. leb (r.low + r.count) 8) (runs_of f d) && laid f (suc j) ds) h in
    let b = and_true (every (λ r. leb (r.low + r.count) 8) (runs_of f d)) (laid f (suc j) ds) a.1 in
    let z : j + 0 ≡ j = omega arith in
    let e = same_true (up_to (λ n. place_in j n (all_cells f)) (width d)) (places_of (runs_of f d)) a.0 in
    rw z (bits_make s (λ n. place_in j n (all_cells f)) (width d) ∙ ap (λ (ps : List ℕ). made (at s ps)) e ∙ runs_make s (runs_of f d) b.0)
held_from f s j (d ∷ ds) h (suc l) m =
    let a = and_true (same (up_to (λ n. place_in j n (all_cells f)) (width d)) (places_of (runs_of f d)))
    (every (λ r. leb (r.low + r.count) 8) (runs_of f d) && laid f (suc j) ds) h in
    let b = and_true (every (λ r. leb (r.low + r.count) 8) (runs_of f d)) (laid f (suc j) ds) a.1 in
    let z : j + suc l ≡ suc j + l = omega arith in
    rw z (held_from f s (suc j) ds b.1 l (omega arith))

-- held-runs: what an instruction holds of its argument j
pub held_runs : (f : ℕ) (s : List ℕ) (j : ℕ) → f < 70 → j < length (operands_at f)
    → held_in f s j (width (get_or (operands_at f) j Reg)) ≡ number_in s (runs_of f (get_or (operands_at f) j Reg))
held_runs f s j l m =
    let z : 0 + j ≡ j = omega arith in
    rw z at (held_from f s 0 (operands_at f) (holds_at (λ k. laid k 0 (operands_at k)) 70 all_laid f l) j m)

-- ---- by the first three bytes alone, as the code is given them
three : (s : List ℕ) → List ℕ
three s = get_or s 0 0 ∷ get_or s 1 0 ∷ get_or s 2 0 ∷ []

one_of : (t : Bool) (s : List ℕ) → get_or (three s) (cond t 2 1) 0 ≡ get_or s (cond t 2 1) 0
unfolding three
one_of true s = refl
one_of false s = refl

pub first_three : (f : ℕ) (d : Kind) (s : List ℕ)
    → number_in (get_or s 0 0 ∷ get_or s 1 0 ∷ get_or s 2 0 ∷ []) (runs_of f d) ≡ number_in s (runs_of f d)
unfolding three
first_three f Reg s = refl
first_three f I8 s = ap (λ (x : ℕ). x / 2 ^ 0 % 2 ^ 8 + 2 ^ 8 * 0) (one_of (eqb f mov_direct) s)
first_three f D9 s = refl
first_three f Bit s = refl
first_three f Rel8 s = ap (λ (x : ℕ). x / 2 ^ 0 % 2 ^ 8 + 2 ^ 8 * 0) (one_of (eqb (size_at f) 3) s)
first_three f A12 s = refl
first_three f A16 s = refl
first_three f Rel16 s = refl
