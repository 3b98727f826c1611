-- Origins and addresses, back and forth: an origin's byte stands at its statement's position plus its offset, and where positions rise each byte
-- of a statement has that statement as its origin.
use mathlib.Core.Path.{◌≡◌, refl, ap, ◌∙◌}
use mathlib.Core.List.{[], ◌∷◌}
use mathlib.Core.Option.{none, some}
use mathlib.Core.Bool.{Bool, true, false, ◌&&◌, cond}
use Prim.Native.Nat.{ℕ, zero, suc, ◌+◌, ◌-◌, ◌≤◌, ◌<◌}
use native.Mathlib.Omega.{arith}
use lib.Dec.{leb, ltb}
use lib.ListN.{length}
use borrow.Author.Tests.{leb-true, ltb-true, le-leb, lt-ltb, le-ltb}
use Rattle.laws.proofs.Tests.{none_some, and_true, and_both, second_false, cond_true, cond_false}
use Rattle.rules.specs.Programs.{Placeℕ, Addressℕ, Stmt, gone, instr, label, variable, comment, org, bytes, words, pad, Program, at, byte_count}
use Rattle.rules.specs.Layout.{after, position_from, position, size_in, Origin, origin_from}
use Rattle.asm.proofs.Passing.{position_start}

-- ---- from an origin to its address

-- the byte at address a of the statement at `index`, the first being at place i and coming at q
record StemsFrom (i : Placeℕ) (q : Addressℕ) (p : Program) (a : Addressℕ) (o : Origin) : Type 0 where
  index : Placeℕ
  is : o.place ≡ i + index
  inside : index < length p
  short : o.offset < byte_count (position_from q p index) (at p index)
  back : position_from q p index + o.offset ≡ a

stems_here : (i : Placeℕ) (q : Addressℕ) (s : Stmt) (p : Program) (a : Addressℕ) (o : Origin) → leb q a && ltb a (q + byte_count q s) ≡ true
    → some (record { place = i; offset = a - q }) ≡ some o → StemsFrom i q (s ∷ p) a o
unfolding position_from
stems_here i q s p a o t e =
    let h = and_true (leb q a) (ltb a (q + byte_count q s)) t in
    let l = leb-true q a h.0 in
    let m = ltb-true a (q + byte_count q s) h.1 in
    let place : i ≡ o.place = ap (λ x. elim x as (λ y. ℕ) [ none ↦ 0 | some z ↦ z.place ]) e in
    let offset : a - q ≡ o.offset = ap (λ x. elim x as (λ y. ℕ) [ none ↦ 0 | some z ↦ z.offset ]) e in
    record { index = 0; is = omega arith; inside = omega arith; short = omega arith; back = omega arith }

stems_from_is : (i : Placeℕ) (q : Addressℕ) (p : Program) (a : Addressℕ) (o : Origin) → origin_from i q p a ≡ some o → StemsFrom i q p a o
unfolding origin_from position_from
stems_from_is i q [] a o e = none_some o e
stems_from_is i q (s ∷ p) a o e = on (leb q a && ltb a (q + byte_count q s)) refl e (stems_from_is (suc i) (after q s) p a o)
  where
    on : (b : Bool) → leb q a && ltb a (q + byte_count q s) ≡ b
        → cond b (some (record { place = i; offset = a - q })) (origin_from (suc i) (after q s) p a) ≡ some o
        → (origin_from (suc i) (after q s) p a ≡ some o → StemsFrom (suc i) (after q s) p a o) → StemsFrom i q (s ∷ p) a o
    on true t f later = stems_here i q s p a o t f
    on false t f later =
        let r = later f in
        record { index = suc r.index; is = omega (arith, r.is); inside = omega (arith, r.inside); short = r.short; back = r.back }

-- the byte at address a is a byte of its origin, and stands there
pub record Stems (p : Program) (a : Addressℕ) (o : Origin) : Type 0 where
  pub inside : o.place < length p
  pub short : o.offset < size_in p o.place
  pub back : position p o.place + o.offset ≡ a

pub origin_stems : (p : Program) (a : Addressℕ) (o : Origin) → origin_from 0 0 p a ≡ some o → Stems p a o
unfolding position
origin_stems p a o e =
    let r = stems_from_is 0 0 p a o e in
    let z : o.place ≡ r.index = omega (arith, r.is) in
    record { inside = omega (arith, r.inside); short = rw z r.short; back = rw z r.back }

-- ---- from a byte to its origin

abbrev pub RisesFrom : (q : Addressℕ) → Program → Type 0
RisesFrom q p = (j : Placeℕ) → j < length p → position_from q p j ≤ position_from q p (suc j)

abbrev pub Rises : Program → Type 0
Rises p = (j : Placeℕ) → j < length p → position p j ≤ position p (suc j)

bytes_before : (q : Addressℕ) (s : Stmt) → q ≤ after q s → q + byte_count q s ≤ after q s
bytes_before q gone h = omega arith
bytes_before q (instr f xs c) h = omega arith
bytes_before q (label n) h = omega arith
bytes_before q (variable n e) h = omega arith
bytes_before q (comment x) h = omega arith
bytes_before q (org l) h = omega arith
bytes_before q (bytes es) h = omega arith
bytes_before q (words es) h = omega arith
bytes_before q (pad add m) h = omega arith

from_first : (q : Addressℕ) (p : Program) → RisesFrom q p → (j : Placeℕ) → j ≤ length p → q ≤ position_from q p j
from_first q p h zero l = omega (arith, position_start q p)
from_first q p h (suc j) l = omega (arith, from_first q p h j (omega arith), h j (omega arith))

byte_from_lem : (i : Placeℕ) (q : Addressℕ) (p : Program) → RisesFrom q p → (j : Placeℕ) (o : ℕ) → j < length p → o < byte_count (position_from q p j) (at p j)
    → origin_from i q p (position_from q p j + o) ≡ some (record { place = i + j; offset = o })
unfolding origin_from position_from
byte_from_lem i q [] h j o l b = absurd (omega arith)
byte_from_lem i q (s ∷ p) h zero o l b =
    let here : i + 0 ≡ i = omega arith in
    let offset : q + o - q ≡ o = omega arith in
    cond_true (leb q (q + o) && ltb (q + o) (q + byte_count q s)) _ _ (and_both _ _ (le-leb q (q + o) (omega arith)) (lt-ltb (q + o) (q + byte_count q s) (omega arith)))
    ∙ rw (here, offset)
byte_from_lem i q (s ∷ p) h (suc j) o l b =
    let next = after q s in
    let rest : RisesFrom next p = λ k m. h (suc k) (omega arith) in
    let first : q ≤ next = omega (arith, h 0 (omega arith), position_start next p) in
    let a : Addressℕ = position_from next p j + o in
    let past : q + byte_count q s ≤ a = omega (arith, bytes_before q s first, from_first next p rest j (omega arith)) in
    let there : suc i + j ≡ i + suc j = omega arith in
    cond_false (leb q a && ltb a (q + byte_count q s)) _ _ (second_false (leb q a) (ltb a (q + byte_count q s)) (le-ltb a (q + byte_count q s) past))
    ∙ byte_from_lem (suc i) next p rest j o (omega arith) b ∙ rw there

pub byte_origin : (p : Program) → Rises p → (i : Placeℕ) (o : ℕ) → i < length p → o < size_in p i
    → origin_from 0 0 p (position p i + o) ≡ some (record { place = i; offset = o })
unfolding position
byte_origin p h i o l b = let z : 0 + i ≡ i = omega arith in byte_from_lem 0 0 p h i o l b ∙ rw z
