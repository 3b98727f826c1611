-- Each argument that is read back is judged good, and what is written for it has the bits that were held.
use mathlib.Core.Path.{◌≡◌, refl, ◌∙◌, ap}
use mathlib.Core.Logic.{◌⊎◌, inl, inr, ⊎_elim}
use mathlib.Core.List.{List, [], ◌∷◌, ◌++◌}
use mathlib.Core.Bool.{Bool, true, false, cond}
use Prim.Native.Nat.{ℕ, zero, suc, ◌+◌, ◌-◌, ◌*◌, ◌/◌, ◌%◌, ◌^◌, ◌<◌, ◌≤◌}
use native.Mathlib.Omega.{arith}
use lib.Dec.{ltb}
use lib.ListN.{length, get_or, get_or-append}
use lib.Seq.{get_or-append-add}
use lib.IntN.{ℤ, pos, negsuc, ◌-ℤ◌}
use borrow.Author.Tests.{ltb-true, ltb-false, lt-ltb, le-ltb, eq-eqb, le-leb}
use Rattle.laws.specs.Lists.{each}
use Rattle.laws.specs.Bits.{bits}
use Rattle.laws.proofs.Bits.{length_bits}
use Rattle.laws.proofs.Tests.{and_true, false_true, lt_or_le}
use Rattle.rules.specs.declared.Kind.{Kind}
use Rattle.rules.specs.declared.Kind.TheVariants.{Reg, I8, D9, Bit, Rel8, A12, A16, Rel16}
use Rattle.rules.specs.Answers.{ok, require, ◌>>=◌}
use Rattle.rules.specs.Values.{below, signed_byte, mod256}
use Rattle.rules.specs.Expressions.{eval_tree}
use Rattle.rules.specs.Programs.{Placeℕ, Addressℕ, Program}
use Rattle.rules.specs.Names.{Entry}
use Rattle.rules.specs.Encoding.{page, field}
use Rattle.rules.specs.Judging.{value_at, worth_of, fields}
use Rattle.decoding.specs.Cells.{all_cells, place_in}
use Rattle.decoding.specs.Operands.{bits_of, width, held_bit, held_in, near, reads, operand_of, operands_from, none_outside}
use Rattle.decoding.proofs.Numbers.{Bit-each, bit_back, bits_below, low_bit}
use Rattle.decoding.proofs.Tables.{width_in}

-- ---- a bit is 0 or 1
bits_bit : (x lo n k : ℕ) → get_or (bits x lo n) k 0 < 2
unfolding bits
bits_bit x lo zero k = omega arith
bits_bit x lo (suc n) zero = omega arith
bits_bit x lo (suc n) (suc k) = bits_bit x lo n k

bits_below_2 : (s : List ℕ) (k : ℕ) → get_or (bits_of s) k 0 < 2
unfolding bits_of each
bits_below_2 [] k = omega arith
bits_below_2 (b ∷ s) k = ⊎_elim first (rest (bits_below_2 s (k - 8))) (lt_or_le k 8)
  where
    first : k < 8 → get_or (bits b 0 8 ++ bits_of s) k 0 < 2
    first l = rw (get_or-append (bits b 0 8) (bits_of s) 0 k (omega (arith, length_bits b 0 8))) (bits_bit b 0 8 k)

    rest : get_or (bits_of s) (k - 8) 0 < 2 → 8 ≤ k → get_or (bits b 0 8 ++ bits_of s) k 0 < 2
    rest below l =
        let e : length (bits b 0 8) + (k - 8) ≡ k = omega (arith, length_bits b 0 8) in
        let g = get_or-append-add (bits b 0 8) (bits_of s) (k - 8) 0 in
        let g' : get_or (bits b 0 8 ++ bits_of s) k 0 ≡ get_or (bits_of s) (k - 8) 0 = rw e at g in
        rw g' below

-- ---- what is written for an argument that holds v
abbrev pub written : (n : Addressℕ) → Kind → (v : ℕ) → ℕ
written n Reg v = v
written n I8 v = v
written n D9 v = v
written n Bit v = v
written n Rel8 v = v
written n A12 v = page n * 4096 + v
written n A16 v = v
written n Rel16 v = v

-- its bits are those of v
pub written_bit : (n : Addressℕ) (d : Kind) (v k : ℕ) → v < 2 ^ width d → k < width d → written n d v / 2 ^ k % 2 ≡ v / 2 ^ k % 2
written_bit n Reg v k h l = refl
written_bit n I8 v k h l = refl
written_bit n D9 v k h l = refl
written_bit n Bit v k h l = refl
written_bit n Rel8 v k h l = refl
written_bit n A12 v k h l = low_bit (page n) v 12 k h l
written_bit n A16 v k h l = refl
written_bit n Rel16 v k h l = refl

-- ---- rel8

-- a difference of two numbers, by which is the larger
pub up : (a n : ℕ) → n ≤ a → pos a -ℤ pos n ≡ pos (a - n)
up a zero l = ap pos (omega arith)
up a (suc n) l = rw (le-ltb a (suc n) l)

pub down : (a n : ℕ) → a < n → pos a -ℤ pos n ≡ negsuc (n - suc a)
down a zero l = absurd (omega arith)
down a (suc n) l = rw (lt-ltb a (suc n) l)

-- eight bits as a signed number
abbrev offset : ℕ → ℤ
offset v = cond (ltb v 128) (pos v) (negsuc (255 - v))

offset_signed : (v : ℕ) → v < 256 → signed_byte (offset v) ≡ true
offset_signed v h = on (ltb v 128) refl
  where
    on : (t : Bool) → ltb v 128 ≡ t → signed_byte (cond t (pos v) (negsuc (255 - v))) ≡ true
    on true e = le-leb v 127 (omega (arith, ltb-true v 128 e))
    on false e = le-leb (suc (255 - v)) 128 (omega (arith, ltb-false v 128 e))

offset_mod : (v : ℕ) → v < 256 → mod256 (offset v) ≡ v
offset_mod v h = on (ltb v 128)
  where
    on : (t : Bool) → mod256 (cond t (pos v) (negsuc (255 - v))) ≡ v
    on true = omega arith
    on false = omega arith

-- a target that falls inside is so far from n
near_offset : (n v : ℕ) → v < 256 → below 65536 (near n v) ≡ true → near n v -ℤ pos n ≡ offset v
near_offset n v h b = on (ltb v 128) refl b
  where
    far : (n + v < 256) ⊎ (256 ≤ n + v) → 128 ≤ v → below 65536 (pos (n + v) -ℤ pos 256) ≡ true
        → pos (n + v) -ℤ pos 256 -ℤ pos n ≡ negsuc (255 - v)
    far (inl l) k b = false_true (rw (down (n + v) 256 l) at b)
    far (inr l) k b = rw (up (n + v) 256 l, down (n + v - 256) n (omega arith)) (ap negsuc (omega arith))

    on : (t : Bool) → ltb v 128 ≡ t → below 65536 (cond t (pos (n + v)) (pos (n + v) -ℤ pos 256)) ≡ true
        → cond t (pos (n + v)) (pos (n + v) -ℤ pos 256) -ℤ pos n ≡ cond t (pos v) (negsuc (255 - v))
    on true e b = up (n + v) n (omega arith) ∙ ap pos (omega arith)
    on false e b = far (lt_or_le (n + v) 256) (ltb-false v 128 e) b

rel8_back : (i : Placeℕ) (j : ℕ) (n : Addressℕ) (v : ℕ) (z : ℤ) → v < 256 → below 65536 z ≡ true → z -ℤ pos n ≡ offset v
    → field i j n Rel8 z ≡ ok v
unfolding field require
rel8_back i j n v z h b e = rw (b, e, offset_signed v h, offset_mod v h)

-- ---- each kind
pub field_back : (i : Placeℕ) (j : ℕ) (n : Addressℕ) (d : Kind) (v : ℕ) → n ≤ 65536 → v < 2 ^ width d → below 65536 (reads n d v) ≡ true
    → field i j n d (reads n d v) ≡ ok (written n d v)
unfolding field require
field_back i j n Reg v m h b = refl
field_back i j n I8 v m h b = rw (lt-ltb v 256 h)
field_back i j n D9 v m h b = rw (lt-ltb v 512 h)
field_back i j n Bit v m h b = rw (lt-ltb v 8 h)
field_back i j n Rel8 v m h b = rel8_back i j n v (near n v) h b (near_offset n v h b)
field_back i j n A12 v m h b = rw (b, eq-eqb (page (page n * 4096 + v)) (page n) (omega arith))
field_back i j n A16 v m h b = rw (lt-ltb v 65536 h)
field_back i j n Rel16 v m h b = rw b (ap (λ (x : ℕ). ok x) (omega arith))

-- what an argument that was read back is worth
pub worth_back : (names : List Entry) (p : Program) (i : Placeℕ) (k : ℕ) (n : Addressℕ) (d : Kind) (v : ℕ)
    → value_at i (worth_of names p k (operand_of n d v)) ≡ ok (reads n d v)
unfolding eval_tree
worth_back names p i k n Reg v = refl
worth_back names p i k n I8 v = refl
worth_back names p i k n D9 v = refl
worth_back names p i k n Bit v = refl
worth_back names p i k n Rel8 v = refl
worth_back names p i k n A12 v = refl
worth_back names p i k n A16 v = refl
worth_back names p i k n Rel16 v = refl

-- ---- the arguments of form f whose bytes are s
module _ (f : ℕ) (s : List ℕ) where
  held_bit_lem : (j : ℕ) → Bit-each (held_bit f s j)
  unfolding held_bit
  held_bit_lem j n = bits_below_2 s (place_in j n (all_cells f))

  pub held_below : (j w : ℕ) → held_in f s j w < 2 ^ w
  unfolding held_in
  held_below j w = bits_below (held_bit f s j) (held_bit_lem j) w

  held_back : (j w n : ℕ) → n < w → held_in f s j w / 2 ^ n % 2 ≡ held_bit f s j n
  unfolding held_in
  held_back j w n l = bit_back (held_bit f s j) (held_bit_lem j) w n l

  abbrev pub written_from : (n : Addressℕ) (j : ℕ) → List Kind → List ℕ
  written_from n j [] = []
  written_from n j (d ∷ ds) = written n d (held_in f s j (width d)) ∷ written_from n (suc j) ds

  -- all are judged good
  pub fields_back : (names : List Entry) (p : Program) (i : Placeℕ) (k : ℕ) (n : Addressℕ) → n ≤ 65536 → (j : ℕ) (ds : List Kind)
      → none_outside f s n j ds ≡ true
      → fields names p i k n j ds (operands_from f s n j ds) ≡ ok (written_from n j ds)
  unfolding fields operands_from none_outside ◌>>=◌
  fields_back names p i k n m j [] h = refl
  fields_back names p i k n m j (d ∷ ds) h =
      let v : ℕ = held_in f s j (width d) in
      let t = and_true (below 65536 (reads n d v)) (none_outside f s n (suc j) ds) h in
      rw (
        worth_back names p i k n d v,
        ◌>>=◌,
        field_back i j n d v m (held_below j (width d)) t.0,
        ◌>>=◌,
        fields_back names p i k n m
            (suc j) ds t.1,
        ◌>>=◌,
      )

  -- and have the bits that are held
  pub holds_back : (n : Addressℕ) (j : ℕ) (ds : List Kind) (l m : ℕ) → m < width_in l ds
      → get_or (written_from n j ds) l 0 / 2 ^ m % 2 ≡ held_bit f s (j + l) m
  holds_back n j [] l m h = absurd (omega arith)
  holds_back n j (d ∷ ds) zero m h =
      let z : j + 0 ≡ j = omega arith in
      rw z (written_bit n d (held_in f s j (width d)) m (held_below j (width d)) h ∙ held_back j (width d) m h)
  holds_back n j (d ∷ ds) (suc l) m h = let z : j + suc l ≡ suc j + l = omega arith in rw z (holds_back n (suc j) ds l m h)
