-- No frame that is read back has more than seventeen bytes, so that of document 01's limits only that of 1,024 statements is ever passed.
use mathlib.Core.Path.{◌≡◌, refl}
use mathlib.Core.Logic.{⊎_elim}
use mathlib.Core.List.{List, [], ◌∷◌, map}
use mathlib.Core.Bool.{Bool, true, false, cond}
use Prim.Native.Nat.{ℕ, zero, suc, ◌+◌, ◌*◌, ◌<◌, ◌≤◌}
use native.Mathlib.Omega.{arith}
use lib.Dec.{ltb, leb}
use lib.ListN.{length, get_or, take, length-append, length-map}
use borrow.Author.Tests.{ltb-true, lt-ltb, le-ltb, le-leb}
use Rattle.laws.specs.Lists.{each, total}
use Rattle.laws.proofs.Tests.{and_both, clash, lt_or_le}
use Rattle.rules.specs.declared.Kind.{Kind}
use Rattle.rules.specs.declared.Kind.TheVariants.{Reg, I8, D9, Bit, Rel8, A12, A16, Rel16}
use Rattle.rules.specs.declared.Refusal.TheVariants.{Limit}
use Rattle.rules.specs.Answers.{at_place, ok, no, require}
use Rattle.rules.specs.Expressions.{bytes_of}
use Rattle.rules.specs.Forms.{size_at, operands_at}
use Rattle.rules.specs.Programs.{Placeℕ, Addressℕ, Stmt, Program}
use Rattle.rules.specs.Listing.{old_form, within_limits, widest, most_characters}
use Rattle.rules.specs.Output.{operand_bytes, frame_of, hex_byte}
use Rattle.promises.specs.Room.{frame_bytes}
use Rattle.promises.proofs.OutputRoom.{digits_length}
use Rattle.instruction.proofs.Numbers.{size_bound, few_operands}
use Rattle.decoding.specs.Opcodes.{form_of_byte}
use Rattle.decoding.specs.Operands.{width, held_in, plain, operand_of, operands_from, none_outside}
use Rattle.readback.specs.ReadBack.{data_of, instruction_of, of_form, read_one, read_from, keeps_limits}

-- ---- a frame

pub data_width : (s : List ℕ) → length (each (λ e. bytes_of e) (map (λ b. plain b) s)) ≡ 5 * length s
unfolding each bytes_of
data_width [] = refl
data_width (b ∷ s) = omega (arith, data_width s)

pub operand_few : (n : Addressℕ) (d : Kind) (v : ℕ) → length (operand_bytes (operand_of n d v)) ≤ 5
unfolding bytes_of
operand_few n Reg v = omega arith
operand_few n I8 v = omega arith
operand_few n D9 v = omega arith
operand_few n Bit v = omega arith
operand_few n Rel8 v = omega arith
operand_few n A12 v = omega arith
operand_few n A16 v = omega arith
operand_few n Rel16 v = omega arith

pub operands_few : (f : ℕ) (s : List ℕ) (n : Addressℕ) (j : ℕ) (ds : List Kind)
    → length (each (λ x. operand_bytes x) (operands_from f s n j ds)) ≤ 5 * length ds
unfolding operands_from each
operands_few f s n j [] = omega arith
operands_few f s n j (d ∷ ds) =
    let v : ℕ = held_in f s j (width d) in
    let x = operand_bytes (operand_of n d v) in
    omega (
      arith,
      operand_few n d v,
      operands_few f s n (suc j) ds,
      length-append x
          (each (λ x. operand_bytes x) (operands_from f s n (suc j) ds)),
    )

data_short : (s : List ℕ) → length s ≤ 3 → frame_bytes (data_of s) ≤ 17
unfolding frame_of
data_short s h = omega (arith, data_width s, length-map s (λ b. plain b))

take_short : (s : List ℕ) → length (take 1 s) ≤ 3
take_short [] = omega arith
take_short (b ∷ s) = omega arith

instr_short : (i : Placeℕ) (q : Addressℕ) (s : List ℕ) (f : ℕ) → frame_bytes (instruction_of i q s f) ≤ 17
unfolding frame_of
instr_short i q s f = omega (arith, operands_few f s (q + size_at f) 0 (operands_at f), few_operands f)

form_short : (i : Placeℕ) (q : Addressℕ) (s : List ℕ) (f : ℕ) → frame_bytes (of_form i q s f) ≤ 17
form_short i q s f = on (ltb (length s) (size_at f)) (none_outside f s (q + size_at f) 0 (operands_at f)) refl
  where
    on : (cut inside : Bool) → ltb (length s) (size_at f) ≡ cut
        → frame_bytes (cond cut (data_of s) (cond inside (instruction_of i q s f) (data_of (take 1 s)))) ≤ 17
    on true b e = data_short s (omega (arith, ltb-true (length s) (size_at f) e, size_bound f))
    on false true e = instr_short i q s f
    on false false e = data_short (take 1 s) (take_short s)

pub one_short : (i : Placeℕ) (q : Addressℕ) (s : List ℕ) → frame_bytes (read_one i q s) ≤ 17
unfolding read_one
one_short i q s = form_short i q s (form_of_byte (get_or s 0 0))

-- ---- and all of them

abbrev pub AllShort : Program → Type 0
AllShort [] = Unit
AllShort (x ∷ p) = (frame_bytes x ≤ 17) × AllShort p

pub from_short : (k : ℕ) (i : Placeℕ) (q : Addressℕ) (s : List ℕ) → AllShort (read_from k i q s)
unfolding read_from
from_short k i q [] = tt
from_short zero i q (b ∷ s) = (one_short i q (b ∷ s), from_short _ _ _ s)
from_short (suc k) i q (b ∷ s) = from_short k i q s

pub short_total : (p : Program) → AllShort p → total frame_bytes p ≤ 17 * length p
unfolding total
short_total [] h = omega arith
short_total (x ∷ p) h = omega (arith, h.0, short_total p h.1)

-- ---- the limits, from place i on, where the statements before had as short frames

within : (i sum : ℕ) (s : List ℕ) → i < 1024 → sum ≤ 34 * i → length s ≤ 34 → within_limits old_form i sum s ≡ true
unfolding within_limits
within i sum s h k l =
    and_both (ltb i 1024) _ (lt-ltb i 1024 h)
    (and_both (leb (length s) (widest old_form)) (leb (sum + length s) (most_characters old_form))
    (le-leb (length s) (widest old_form) (omega arith))
    (le-leb (sum + length s) (most_characters old_form) (omega arith)))

beyond : (i sum : ℕ) (s : List ℕ) → 1024 ≤ i → within_limits old_form i sum s ≡ false
unfolding within_limits
beyond i sum s h = rw (le-ltb i 1024 h)

abbrev chars_of : Stmt → List ℕ
chars_of x = each (λ b. hex_byte b) (frame_of x)

pub limits_kept : (i sum : ℕ) (p : Program) → AllShort p → sum ≤ 34 * i → i + length p ≤ 1024 → keeps_limits i sum p ≡ ok tt
unfolding keeps_limits require
limits_kept i sum [] h k l = refl
limits_kept i sum (x ∷ p) h k l =
    let n = digits_length (frame_of x) in
    rw (within i sum (chars_of x) (omega arith) k (omega (arith, h.0)))
    (limits_kept (suc i) (sum + length (chars_of x)) p h.1 (omega (arith, h.0)) (omega arith))

pub limits_passed : (i sum : ℕ) (p : Program) → AllShort p → sum ≤ 34 * i → i ≤ 1024 → 1024 < i + length p
    → keeps_limits i sum p ≡ no (Limit (at_place 1024))
unfolding keeps_limits require
limits_passed i sum [] h k m l = absurd (omega arith)
limits_passed i sum (x ∷ p) h k m l = ⊎_elim (before (limits_passed (suc i) (sum + length (chars_of x)) p h.1)) here (lt_or_le i 1024)
  where
    here : 1024 ≤ i → keeps_limits i sum (x ∷ p) ≡ no (Limit (at_place 1024))
    here e = let z : i ≡ 1024 = omega arith in rw (beyond i sum (chars_of x) e, z)

    before : (sum + length (chars_of x) ≤ 34 * suc i → suc i ≤ 1024 → 1024 < suc i + length p
        → keeps_limits (suc i) (sum + length (chars_of x)) p ≡ no (Limit (at_place 1024)))
        → i < 1024 → keeps_limits i sum (x ∷ p) ≡ no (Limit (at_place 1024))
    before more e =
        let n = digits_length (frame_of x) in
        rw (within i sum (chars_of x) e k (omega (arith, h.0))) (more (omega (arith, h.0)) (omega arith) (omega arith))

-- so what keeps them has 1,024 statements at most
pub limits_say : (p : Program) → AllShort p → keeps_limits 0 0 p ≡ ok tt → length p ≤ 1024
limits_say p h e = ⊎_elim (λ l. clash (let t = limits_passed 0 0 p h (omega arith) (omega arith) (omega arith) in cc)) (λ l. l)
    (lt_or_le 1024 (length p))
