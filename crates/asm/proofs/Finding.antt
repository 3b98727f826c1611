-- The search for an origin, place by place, and what its answer says of the slots.
use mathlib.Core.Path.{◌≡◌, sym, ap, ◌∙◌}
use mathlib.Core.Logic.{⊎_elim}
use mathlib.Core.Option.{Option, none, some}
use mathlib.Core.Bool.{Bool, true, false, ◌&&◌, cond}
use Prim.Native.Nat.{ℕ, suc, ◌+◌, ◌-◌, ◌%◌, ◌≤◌, ◌<◌}
use native.Mathlib.Nat.{mod-lt}
use native.Mathlib.Numerals.{add-one}
use native.Mathlib.Omega.{arith}
use lib.Dec.{leb, ltb}
use lib.ListN.{length, get_or, drop, drop_of_length-le}
use lib.Seq.{drop-cons}
use borrow.Author.Tests.{leb-true, ltb-true, le-leb, lt-leb, lt-ltb}
use Rattle.std.specs.Prelude.{None, Some}
use Rattle.laws.proofs.Tests.{eq_or_not, lt_or_le, cond_true, cond_false, first_false, and_true, and_left, same_test}
use Rattle.rules.specs.Answers.{at_place}
use Rattle.rules.specs.Programs.{Placeℕ, Addressℕ, gone, bytes, words, Program, at, up_to, byte_count, kind_of}
use Rattle.rules.specs.Layout.{after, position, size_in, Origin as Source, origin_from}
use Rattle.instruction.proofs.Numbers.{size_bound}
use Rattle.rules.specs.Statements.{pair_at}
use Rattle.expression.specs.Sound.{AreBytes}
use Rattle.listing.specs.Tables.{frame_at, Held}
use Rattle.slots.specs.Slots.{Slots, slot_at, program_of}
use Rattle.slots.proofs.Slots.{size_instr, size_none, slot_data, written_frame, items_count, kind_most}
use Rattle.slots.proofs.Tables.{bytes_frame}
use Rattle.env.proofs.Programs.{length_program, at_program}
use Rattle.env.proofs.Positions.{position_first, position_more}
use Rattle.asm.specs.Belonging.{origin_as, OriginIn, FoundAs}
use Rattle.asm.proofs.OriginsBack.{origin_stems}

-- ---- from place i on

-- a statement of n bytes that comes at q has the byte at a
abbrev pub has : (q : Addressℕ) (n : ℕ) (a : Addressℕ) → Bool
has q n a = leb q a && ltb a (q + n)

module _ (q : Addressℕ) (n : ℕ) (a : Addressℕ) where
  pub has_none : a < q → false ≡ has q n a
  has_none l = sym (first_false (leb q a) (ltb a (q + n)) (lt-leb q a l))

  pub has_within : q ≤ a → ltb (a - q) n ≡ has q n a
  has_within l =
      same_test (ltb (a - q) n) (ltb a (q + n)) (λ e. lt-ltb a (q + n) (omega (arith, ltb-true (a - q) n e))) (λ e. lt-ltb (a - q) n (omega (arith, ltb-true a (q + n) e)))
      ∙ sym (and_left (leb q a) (ltb a (q + n)) (le-leb q a l))

  pub has_from : has q n a ≡ true → q ≤ a
  has_from e = leb-true q a (and_true (leb q a) (ltb a (q + n)) e).0

module _ (p : Program) (a : Addressℕ) where
  unfoldable pub from_place : (i : Placeℕ) → Option Source
  from_place i = origin_from i (position p i) (drop i p) a

  pub from_start : origin_from 0 0 p a ≡ from_place 0
  unfolding from_place
  from_start = ap (λ q. origin_from 0 q p a) (sym (position_first p))

  from_more : (i : Placeℕ) → i < length p
      → from_place i ≡ cond (has (position p i) (size_in p i) a) (some (record { place = i; offset = a - position p i })) (from_place (suc i))
  unfolding from_place origin_from
  from_more i l =
      let next : after (position p i) (at p i) ≡ position p (suc i) = sym (position_more p i l) ∙ ap (position p) (add-one i) in
      ap (λ r. origin_from i (position p i) r a) (drop-cons p i gone l)
      ∙ ap (λ q. cond (has (position p i) (size_in p i) a) (some (record { place = i; offset = a - position p i })) (origin_from (suc i) q (drop (suc i) p) a)) next

  pub from_here : (i : Placeℕ) → i < length p → has (position p i) (size_in p i) a ≡ true → from_place i ≡ some (record { place = i; offset = a - position p i })
  from_here i l e = from_more i l ∙ cond_true _ _ _ e

  pub from_next : (i : Placeℕ) → i < length p → has (position p i) (size_in p i) a ≡ false → from_place i ≡ from_place (i + 1)
  from_next i l e = from_more i l ∙ cond_false _ _ _ e ∙ ap from_place (sym (add-one i))

  pub from_end : (i : Placeℕ) → length p ≤ i → from_place i ≡ none
  unfolding from_place origin_from
  from_end i l = ap (λ r. origin_from i (position p i) r a) (drop_of_length-le p {i = i} l)

-- ---- the answer

-- no statement has more than a pad can have
pub bytes_few : (q : Addressℕ) (t : Slots) → Held t.frames t.starts t.count → AreBytes t.frames → (i : Placeℕ) → i < t.count
    → byte_count q (slot_at t i) ≤ 510
bytes_few q t h v i l =
    ⊎_elim (λ e. omega (arith, size_instr q t i e, size_bound (get_or t.forms i 0)))
    (λ n.
    ⊎_elim (λ m. omega (arith, size_none q (slot_at t i) n m))
    (λ m. ⊎_elim as_bytes (λ k. ⊎_elim as_words (λ o. as_pad (omega (arith, kind_most (slot_at t i)))) (eq_or_not (kind_of (slot_at t i)) 7)) (eq_or_not (kind_of (slot_at t i)) 6))
    (lt_or_le (kind_of (slot_at t i)) 6))
    (eq_or_not (kind_of (slot_at t i)) 1)
  where
    as_bytes : kind_of (slot_at t i) ≡ 6 → byte_count q (slot_at t i) ≤ 510
    as_bytes e =
        let d = written_frame t h i l 5 e in
        omega (arith, ap (byte_count q) (slot_data t i 4 e ∙ d.is), items_count 6 bytes _ _ _ d, d.few)

    as_words : kind_of (slot_at t i) ≡ 7 → byte_count q (slot_at t i) ≤ 510
    as_words e =
        let d = written_frame t h i l 6 e in
        omega (arith, ap (byte_count q) (slot_data t i 5 e ∙ d.is), items_count 7 words _ _ _ d, d.few)

    as_pad : kind_of (slot_at t i) ≡ 8 → byte_count q (slot_at t i) ≤ 510
    as_pad e =
        let d = written_frame t h i l 7 e in
        let frame = frame_at t.frames t.starts i in
        let m = pair_at frame 2 in
        let up : up_to q m < m = mod-lt (m - q % m) (omega (arith, d.some)) in
        omega (arith, ap (byte_count q) (slot_data t i 6 e ∙ d.is), up, d.few, bytes_frame t.frames t.starts v i 1)

module _ (t : Slots) (h : Held t.frames t.starts t.count) (v : AreBytes t.frames) (a : Addressℕ) where
  abbrev p : Program
  p = program_of t

  inside_of : (o : Option Source) → origin_from 0 0 p a ≡ o → OriginIn t (origin_as o)
  inside_of none e = tt
  inside_of (some o) e =
      let s = origin_stems p a o e in
      let l : o.place < t.count = omega (arith, s.inside, length_program t) in
      let b : o.offset < byte_count (position p o.place) (slot_at t o.place) = rw (← at_program t o.place l) s.short in
      (l, b, omega (arith, b, bytes_few (position p o.place) t h v o.place l))

  found : (o : Option Source) → origin_from 0 0 p a ≡ o → FoundAs t a (origin_as o)
  found o e = record { answer = sym (ap origin_as e); inside = inside_of o e }

  pub found_none : (i : Placeℕ) → t.count ≤ i → origin_from 0 0 p a ≡ from_place p a i → FoundAs t a None
  found_none i l e = found none (e ∙ from_end p a i (omega (arith, length_program t)))

  module _ (i : Placeℕ) (l : i < t.count) (q : Addressℕ) (n : ℕ) (at_q : q ≡ position p i) (size : n ≡ byte_count q (slot_at t i)) where
    tested : (b : Bool) → has q n a ≡ b → has (position p i) (size_in p i) a ≡ b
    tested b e = rw (← at_q, at_program t i l, ← size) e

    pub found_here : origin_from 0 0 p a ≡ from_place p a i → has q n a ≡ true → FoundAs t a (Some ((at_place i), (a - q)))
    found_here e b =
        let o : origin_from 0 0 p a ≡ some (record { place = i; offset = a - q }) =
        e ∙ from_here p a i (omega (arith, length_program t)) (tested true b) ∙ rw (← at_q) in
        found (some (record { place = i; offset = a - q })) o

    pub found_later : origin_from 0 0 p a ≡ from_place p a i → has q n a ≡ false → origin_from 0 0 p a ≡ from_place p a (i + 1)
    found_later e b = e ∙ from_next p a i (omega (arith, length_program t)) (tested false b)
