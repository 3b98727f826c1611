-- Two targets by their bytes: the test of the last four, and the line.
use mathlib.Core.Path.{◌≡◌, refl, ap, ap₂, ◌∙◌}
use mathlib.Core.List.{List, [], ◌∷◌, ◌++◌, append_assoc}
use mathlib.Core.Option.{Option, none, some}
use mathlib.Core.Bool.{Bool, true, false, not, ◌&&◌}
use Prim.Native.Nat.{ℕ, ◌+◌, ◌/◌, ◌%◌, ◌≤◌, ◌<◌}
use native.Mathlib.Omega.{arith}
use lib.Dec.{eqb}
use lib.ListN.{length, set, length-append}
use mir.Syntax.{w32}
use mir.Val.{of_z}
use borrow.Author.Tests.{eqb-true, eq-eqb, ne_eqb}
use Rattle.laws.proofs.Lists.{each_append}
use Rattle.laws.proofs.Tests.{and_true, and_both, same_test}
use Rattle.rules.specs.Expressions.{pair, four}
use Rattle.rules.specs.Programs.{Placeℕ, Program}
use Rattle.rules.specs.Layout.{Origin}
use Rattle.rules.specs.Output.{hex_byte, line_of}
use Rattle.digits.specs.Digits.{hex_of, laid}
use Rattle.digits.proofs.Rooms.{length_laid, laid_more, laid_one, length_hex, length_line}
use Rattle.targets.specs.Targets.{aim_at, same_byte, Target, target_at, is_same, number_of, byte_bytes, aim_bytes, mark_byte, target_line}
use Rattle.targets.specs.Aimed.{LowByte, AimIs, same_bytes}

-- ---- the test
halves : (a b : ℕ) → a / 256 ≡ b / 256 → a % 256 ≡ b % 256 → a ≡ b
halves a b d m = omega arith

-- two that name a byte
module _ (o q : Origin) (l : o.place < 1024) where
  abbrev some_same : Bool
  some_same =
      not (eqb (o.place / 256) 255)
      && (eqb (o.place / 256) (q.place / 256)
      && (eqb (o.place % 256) (q.place % 256) && (eqb (o.offset / 256) (q.offset / 256) && eqb (o.offset % 256) (q.offset % 256))))

  there : some_same ≡ true → same_byte (some o) (some q) ≡ true
  there h =
      let a = and_true (not (eqb (o.place / 256) 255)) _ h in
      let b = and_true (eqb (o.place / 256) (q.place / 256)) _ a.1 in
      let c = and_true (eqb (o.place % 256) (q.place % 256)) _ b.1 in
      let d = and_true (eqb (o.offset / 256) (q.offset / 256)) (eqb (o.offset % 256) (q.offset % 256)) c.1 in
      and_both (eqb o.place q.place) (eqb o.offset q.offset)
      (eq-eqb o.place q.place (halves o.place q.place (eqb-true _ _ b.0) (eqb-true _ _ c.0)))
      (eq-eqb o.offset q.offset (halves o.offset q.offset (eqb-true _ _ d.0) (eqb-true _ _ d.1)))

  back : same_byte (some o) (some q) ≡ true → some_same ≡ true
  back h =
      let a = and_true (eqb o.place q.place) (eqb o.offset q.offset) h in
      let x : o.place ≡ q.place = eqb-true _ _ a.0 in
      let y : o.offset ≡ q.offset = eqb-true _ _ a.1 in
      and_both (not (eqb (o.place / 256) 255)) _ (ap not (ne_eqb (o.place / 256) 255 (λ z. omega arith)))
      (and_both (eqb (o.place / 256) (q.place / 256)) _ (eq-eqb (o.place / 256) (q.place / 256) (ap (λ (n : ℕ). n / 256) x))
      (and_both (eqb (o.place % 256) (q.place % 256)) _ (eq-eqb (o.place % 256) (q.place % 256) (ap (λ (n : ℕ). n % 256) x))
      (and_both (eqb (o.offset / 256) (q.offset / 256)) (eqb (o.offset % 256) (q.offset % 256)) (eq-eqb (o.offset / 256) (q.offset / 256) (ap (λ (n : ℕ). n / 256) y))
      (eq-eqb (o.offset % 256) (q.offset % 256) (ap (λ (n : ℕ). n % 256) y)))))

  some_is : some_same ≡ same_byte (some o) (some q)
  some_is = same_test some_same (same_byte (some o) (some q)) there back

same_in : (n m : ℕ) (x y : Option Origin) → LowByte x → LowByte y → same_bytes (four n ++ byte_bytes x) (four m ++ byte_bytes y) ≡ same_byte x y
same_in n m none y h k = refl
same_in n m (some o) none h k =
    let z : eqb (o.place / 256) 255 ≡ false = ne_eqb (o.place / 256) 255 (λ z. omega (arith, h.0)) in
    rw z
same_in n m (some o) (some q) h k = some_is o q h.0

module _ (p e : Program) (c i : Placeℕ) (b a : List ℕ) (h : AimIs p c b) (k : AimIs e i a) where
  -- same-is: the bytes say whether both are the same byte
  pub same_is : same_bytes b a ≡ is_same (target_at p e i c)
  same_is = ap₂ same_bytes h.bytes k.bytes ∙ same_in (of_z w32 (number_of (aim_at p c).value)) (of_z w32 (number_of (aim_at e i).value)) (aim_at p c).byte (aim_at e i).byte h.low k.low

  -- the line
  pub line_is : (mark : ℕ) (head : List ℕ) → mark ≡ mark_byte (same_bytes b a) → head ≡ 0x74 ∷ mark ∷ (pair i ++ pair c)
      → line_of (head ++ (b ++ a)) ≡ target_line (target_at p e i c)
  unfolding target_line
  line_is mark head em eh = rw (eh, em, same_is, h.bytes, k.bytes)

length_byte : (x : Option Origin) → length (byte_bytes x) ≡ 4
length_byte none = refl
length_byte (some o) = refl

pub length_aim : (p : Program) (i : Placeℕ) (l : List ℕ) → AimIs p i l → length l ≡ 8
length_aim p i l h = ap length h.bytes ∙ omega (arith, length_byte (aim_at p i).byte)

pub length_target : (t : Target) → length (target_line t) ≡ 45
unfolding target_line
length_target t = length_line _ ∙ omega (arith, length-append (four (of_z w32 (number_of t.before.value)) ++ byte_bytes t.before.byte) (aim_bytes t.after), length_byte t.before.byte, length_byte t.after.byte)

-- ---- a line put in three parts and its end
module _ (out h b a : List ℕ) (at : ℕ) (room : at + 45 ≤ length out) (lh : length h ≡ 6) (lb : length b ≡ 8) (la : length a ≡ 8) where
  pub parts_laid : (one two three : List ℕ) → one ≡ laid out at (hex_of h) → two ≡ laid one (at + 12) (hex_of b) → three ≡ laid two (at + 28) (hex_of a)
      → (length three ≡ length out) × (set three (at + 44) 10 ≡ laid out at (line_of (h ++ (b ++ a))))
  unfolding line_of
  parts_laid one two three e1 e2 e3 =
      let xh = length_hex h in
      let xb = length_hex b in
      let xa = length_hex a in
      let f2 : two ≡ laid out at (hex_of h ++ hex_of b) = e2 ∙ rw e1 (laid_more out (hex_of h) (hex_of b) at (at + 12) (omega arith) (omega arith)) in
      let l2 = length-append (hex_of h) (hex_of b) in
      let f3 : three ≡ laid out at ((hex_of h ++ hex_of b) ++ hex_of a) = e3 ∙ rw f2 (laid_more out (hex_of h ++ hex_of b) (hex_of a) at (at + 28) (omega arith) (omega arith)) in
      let l3 = length-append (hex_of h ++ hex_of b) (hex_of a) in
      let size : length three ≡ length out = ap length f3 ∙ length_laid out at ((hex_of h ++ hex_of b) ++ hex_of a) (omega arith) in
      let all : ((hex_of h ++ hex_of b) ++ hex_of a) ++ (10 ∷ []) ≡ hex_of (h ++ (b ++ a)) ++ (10 ∷ []) =
      rw (each_append (λ x. hex_byte x) h (b ++ a), each_append (λ x. hex_byte x) b a, append_assoc (hex_of h) (hex_of b) (hex_of a)) in (
        size,
        laid_one three (at + 44) 10 (omega arith) ∙ rw f3 (laid_more out ((hex_of h ++ hex_of b) ++ hex_of a) (10 ∷ []) at (at + 44) (omega arith) (omega arith)) ∙ ap (laid out at) all,
      )
