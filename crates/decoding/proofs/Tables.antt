-- The ranges of first bytes and the cells of the patterns, held against the pattern strings of the seventy forms: each a test that antt
-- computes.
use mathlib.Core.Path.{◌≡◌, sym, ◌∙◌}
use mathlib.Core.List.{List, [], ◌∷◌}
use mathlib.Core.Bool.{Bool, true, false, ◌&&◌}
use Prim.Native.Nat.{ℕ, zero, suc, ◌<◌, ◌≤◌}
use lib.Dec.{T, eqb, ltb, leb}
use lib.ListN.{length}
use borrow.Author.Tests.{ltb-true, leb-true, eqb-true}
use Rattle.laws.specs.Lists.{every, each}
use Rattle.laws.specs.Counts.{all_to}
use Rattle.laws.specs.Bits.{bits}
use Rattle.rules.specs.declared.Kind.{Kind}
use Rattle.rules.specs.Forms.{form_at, size_at, operands_at}
use Rattle.laws.proofs.Tests.{and_true, false_true}
use Rattle.instruction.proofs.Entries.{holds_at, alike, alike_at}
use Rattle.decoding.specs.Opcodes.{form_among, form_of_byte}
use Rattle.decoding.specs.Cells.{Cell, fixed, held, cells_of, all_cells, place_in, begins}
use Rattle.decoding.specs.Operands.{width}
use Rattle.decoding.specs.Promise.{OneForm}

-- ---- "each of the 256 values has exactly one form"

-- the forms that byte b may begin, by their patterns, are the one that the ranges name
exactly_one : T (all_to (λ b. all_to (λ f. alike (begins f b) (eqb (form_of_byte b) f)) 70) 256)
unfolding all_to each bits form_at form_of_byte form_among cells_of all_cells begins
exactly_one = tt

named : T (all_to (λ b. ltb (form_of_byte b) 70 && begins (form_of_byte b) b) 256)
unfolding all_to each bits form_at form_of_byte form_among cells_of all_cells begins
named = tt

-- a byte's form is one of the seventy, and its pattern begins so
pub named_at : (b : ℕ) → b < 256 → (form_of_byte b < 70) × (begins (form_of_byte b) b ≡ true)
named_at b l =
    let t = and_true (ltb (form_of_byte b) 70) (begins (form_of_byte b) b)
    (holds_at (λ k. ltb (form_of_byte k) 70 && begins (form_of_byte k) k) 256 named b l) in
    (ltb-true (form_of_byte b) 70 t.0, t.1)

said : (b : ℕ) → b < 256 → T (all_to (λ f. alike (begins f b) (eqb (form_of_byte b) f)) 70)
said b l = truly (all_to (λ f. alike (begins f b) (eqb (form_of_byte b) f)) 70)
    (holds_at (λ b. all_to (λ f. alike (begins f b) (eqb (form_of_byte b) f)) 70) 256 exactly_one b l)
  where
    truly : (t : Bool) → t ≡ true → T t
    truly true e = tt
    truly false e = false_true e

pub one_form : (b : ℕ) → b < 256 → OneForm b
one_form b l =
    let n = named_at b l in
    record {
      form = n.0;
      begins_so = n.1;
      no_other = λ f k e. sym
          (eqb-true (form_of_byte b) f (sym (alike_at (λ f. begins f b) (λ f. eqb (form_of_byte b) f) 70 (said b l) f k) ∙ e));
    }

-- ---- the cells of a form: eight to a byte, as many bytes as its size; those that the pattern writes itself stand in the first byte, and
-- bit n of an
-- argument stands once, n below its width

abbrev pub width_in : ℕ → List Kind → ℕ
width_in j [] = 0
width_in zero (d ∷ ds) = width d
width_in (suc j) (d ∷ ds) = width_in j ds

-- the cells from place o on, among all of them
abbrev pub fit : (all : List Cell) (ds : List Kind) (o : ℕ) → List Cell → Bool
fit all ds o [] = true
fit all ds o (fixed v ∷ cs) = ltb o 8 && fit all ds (suc o) cs
fit all ds o (held l n ∷ cs) = eqb (place_in l n all) o && (ltb n (width_in l ds) && fit all ds (suc o) cs)

abbrev eight : List Cell → Bool
eight row = eqb (length row) 8

sound : (f : ℕ) → Bool
sound f = fit (all_cells f) (operands_at f) 0 (all_cells f) &&
    (every eight (cells_of f) && (eqb (length (cells_of f)) (size_at f) && leb 1 (size_at f)))

all_sound : T (all_to (λ f. sound f) 70)
unfolding all_to every each form_at cells_of all_cells place_in sound
all_sound = tt

pub record Shaped (f : ℕ) : Type 0 where
  pub cells : fit (all_cells f) (operands_at f) 0 (all_cells f) ≡ true
  pub eights : every (λ row. eqb (length row) 8) (cells_of f) ≡ true
  pub rows : length (cells_of f) ≡ size_at f
  pub some : 1 ≤ size_at f

pub shaped : (f : ℕ) → f < 70 → Shaped f
unfolding sound
shaped f l =
    let a = and_true (fit (all_cells f) (operands_at f) 0 (all_cells f))
    (every eight (cells_of f) && (eqb (length (cells_of f)) (size_at f) && leb 1 (size_at f))) (holds_at (λ k. sound k) 70 all_sound f l) in
    let b = and_true (every eight (cells_of f)) (eqb (length (cells_of f)) (size_at f) && leb 1 (size_at f)) a.1 in
    let c = and_true (eqb (length (cells_of f)) (size_at f)) (leb 1 (size_at f)) b.1 in
    record { cells = a.0; eights = b.0; rows = eqb-true (length (cells_of f)) (size_at f) c.0; some = leb-true 1 (size_at f) c.1 }
