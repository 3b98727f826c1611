-- Positions and origins: where they rise, that a byte's origin lies where the byte is, and that a change of operands moves neither.
use mathlib.Core.Path.{◌≡◌, refl, ◌∙◌, ap}
use mathlib.Core.List.{[], ◌∷◌}
use mathlib.Core.Option.{some}
use mathlib.Core.Bool.{Bool, true, false, ◌&&◌, cond}
use Prim.Native.Nat.{ℕ, zero, suc, ◌+◌, ◌-◌, ◌≤◌, ◌<◌}
use native.Mathlib.Omega.{arith}
use lib.Dec.{leb, ltb}
use lib.ListN.{length}
use lib.IntN.{pos, negsuc}
use borrow.Author.Tests.{leb-true, ltb-true, le-leb, lt-ltb, le-ltb}
use Rattle.rules.specs.declared.Unvalued.TheVariants.{Unknown, Nothing}
use Rattle.rules.specs.declared.Unvalued.{Unvalued}
use Rattle.std.specs.Prelude.{ℤ, Result, Err, Ok}
use Rattle.laws.proofs.Tests.{none_some, and_true}
use Rattle.rules.specs.Answers.{ok, check_each}
use Rattle.rules.specs.Programs.{on_last, instr, Placeℕ, Addressℕ, Operand, Stmt, Program, at, byte_count, retarget, Space, empty, exactly, from, space_at, bytes_in}
use Rattle.rules.specs.Layout.{after, position_from, position, Origin, origin_from, origin, behind, size_in}
use Rattle.rules.specs.Names.{enter, placed_from, placed}
use Rattle.rules.specs.Judging.{settles, positions_fit, settles_in}
use Rattle.rules.proofs.Laws.{next_ok, require_ok, by_change}

-- ---- a change that moves nothing
pub record SameRoom (s t : Stmt) : Type 0 where
  pub goes_on : (q : Addressℕ) → after q t ≡ after q s
  pub as_big : (q : Addressℕ) → byte_count q t ≡ byte_count q s

-- nothing changed
pub room_same : (s : Stmt) → SameRoom s s
room_same s = record { goes_on = λ q. refl; as_big = λ q. refl }

-- operands changed
pub room_retarget : (f : Operand → Operand) (s : Stmt) → SameRoom s (retarget f s)
room_retarget f s = by_change SameRoom (λ x. instr x.form (on_last f x.args) x.carried) (λ g xs c. record { goes_on = λ q. refl; as_big = λ q. refl }) (λ s n. room_same s) s

-- two programs of one length whose statements take the same room, place by place
abbrev pub AllSameRoom : Program → Program → Type 0
AllSameRoom p p' = (length p' ≡ length p) × ((i : Placeℕ) → SameRoom (at p i) (at p' i))

position_from_same : (q : Addressℕ) (p p' : Program) → AllSameRoom p p' → (i : Placeℕ) → position_from q p' i ≡ position_from q p i
unfolding position_from
position_from_same q [] [] h i = refl
position_from_same q [] (t ∷ m) h i = absurd (omega (arith, h.0))
position_from_same q (s ∷ l) [] h i = absurd (omega (arith, h.0))
position_from_same q (s ∷ l) (t ∷ m) h zero = refl
position_from_same q (s ∷ l) (t ∷ m) h (suc i) =
    ap (λ (a : ℕ). position_from a m i) ((h.1 0).goes_on q) ∙ position_from_same (after q s) l m (omega (arith, h.0), λ j. h.1 (suc j)) i

-- the positions are the same
pub position_same : (p p' : Program) → AllSameRoom p p' → (i : Placeℕ) → position p' i ≡ position p i
unfolding position
position_same p p' h i = position_from_same 0 p p' h i

-- so are the sizes
pub size_same : (p p' : Program) → AllSameRoom p p' → (i : Placeℕ) → size_in p' i ≡ size_in p i
size_same p p' h i = (h.1 i).as_big (position p' i) ∙ ap (λ (a : ℕ). byte_count a (at p i)) (position_same p p' h i)

origin_from_same : (i : Placeℕ) (q : Addressℕ) (p p' : Program) → AllSameRoom p p' → (a : Addressℕ) → origin_from i q p' a ≡ origin_from i q p a
unfolding origin_from
origin_from_same i q [] [] h a = refl
origin_from_same i q [] (t ∷ m) h a = absurd (omega (arith, h.0))
origin_from_same i q (s ∷ l) [] h a = absurd (omega (arith, h.0))
origin_from_same i q (s ∷ l) (t ∷ m) h a =
    rw ((h.1 0).as_big q, (h.1 0).goes_on q, origin_from_same (suc i) (after q s) l m (omega (arith, h.0), λ j. h.1 (suc j)) a)

-- and the origins
pub origin_same : (p p' : Program) → AllSameRoom p p' → (v : Result ℤ Unvalued) → origin p' v ≡ origin p v
unfolding origin
origin_same p p' h (Ok (pos a)) = origin_from_same 0 0 p p' h a
origin_same p p' h (Ok (negsuc a)) = refl
origin_same p p' h (Err Unknown) = refl
origin_same p p' h (Err Nothing) = refl

-- ---- an origin lies in a statement, at the address
pub record Lies (p : Program) (a : Addressℕ) (g : Origin) : Type 0 where
  pub has_byte : g.offset < size_in p g.place
  pub address_is : position p g.place + g.offset ≡ a

record LiesFrom (i : Placeℕ) (q : Addressℕ) (p : Program) (a : Addressℕ) (g : Origin) : Type 0 where
  n : ℕ
  place_is : g.place ≡ i + n
  has_byte : g.offset < byte_count (position_from q p n) (at p n)
  address_is : position_from q p n + g.offset ≡ a

lies_from : (i : Placeℕ) (q : Addressℕ) (p : Program) (a : Addressℕ) (g : Origin) → origin_from i q p a ≡ some g → LiesFrom i q p a g
unfolding origin_from position_from
lies_from i q [] a g e = none_some g e
lies_from i q (s ∷ p) a g e = on (leb q a && ltb a (q + byte_count q s)) refl e (lies_from (suc i) (after q s) p a g)
  where
    on : (t : Bool) → leb q a && ltb a (q + byte_count q s) ≡ t → cond t (some (record { place = i; offset = a - q })) (origin_from (suc i) (after q s) p a) ≡ some g
        → (origin_from (suc i) (after q s) p a ≡ some g → LiesFrom (suc i) (after q s) p a g) → LiesFrom i q (s ∷ p) a g
    on true d e below =
        let t = and_true (leb q a) (ltb a (q + byte_count q s)) d in
        let low = leb-true q a t.0 in
        let high = ltb-true a (q + byte_count q s) t.1 in
        let z : g ≡ record { place = i; offset = a - q } = cc in
        rw z (record { n = 0; place_is = omega arith; has_byte = omega arith; address_is = omega arith })
    on false d e below = let b = below e in record { n = suc b.n; place_is = omega (arith, b.place_is); has_byte = b.has_byte; address_is = b.address_is }

-- over a whole program
pub origin_lies : (p : Program) (a : Addressℕ) (g : Origin) → origin p (Ok (pos a)) ≡ some g → Lies p a g
unfolding origin position
origin_lies p a g e =
    let l = lies_from 0 0 p a g e in
    let z : g.place ≡ l.n = omega (arith, l.place_is) in
    record { has_byte = rw z l.has_byte; address_is = rw z l.address_is }

-- only an address that is not negative has an origin
pub origin_of : (p : Program) (v : Result ℤ Unvalued) (g : Origin) → origin p v ≡ some g → (a : Addressℕ) × (v ≡ Ok (pos a)) × (Lies p a g)
unfolding origin
origin_of p (Ok (pos a)) g e = (a, refl, origin_lies p a g e)
origin_of p (Ok (negsuc a)) g e = none_some g e
origin_of p (Err Unknown) g e = none_some g e
origin_of p (Err Nothing) g e = none_some g e

-- ---- positions rise where they fit
after_size : (i : Placeℕ) (q : Addressℕ) (s : Stmt) → settles i q s ≡ ok tt → q + byte_count q s ≤ after q s
after_size i q s = on (space_at q s)
  where
    on : (x : Space) → settles_in i q x ≡ ok tt → q + bytes_in x ≤ behind q x
    on empty h = omega arith
    on (exactly n) h = omega arith
    on (from l) h = omega (arith, leb-true q l (require_ok (leb q l) _ _ tt h).0)

pub record Fit (i k q : ℕ) (s : Stmt) (p : Program) : Type 0 where
  pub settled : settles i q s ≡ ok tt
  pub rises : q + byte_count q s ≤ after q s
  pub rest : positions_fit (placed_from (suc i) (enter k s) (after q s) p) ≡ ok tt

-- what a fit says of the first statement and of the rest
pub fit_cons : (i k q : ℕ) (s : Stmt) (p : Program) → positions_fit (placed_from i k q (s ∷ p)) ≡ ok tt → Fit i k q s p
unfolding positions_fit check_each placed_from
fit_cons i k q s p e =
    let h = next_ok (settles i q s) _ tt e in
    let t : settles i q s ≡ ok tt = h.1 in
    record { settled = t; rises = after_size i q s t; rest = h.2 }

position_rises : (i k q : ℕ) (p : Program) → positions_fit (placed_from i k q p) ≡ ok tt → (j : Placeℕ) → q ≤ position_from q p j
unfolding position_from
position_rises i k q [] e j = omega arith
position_rises i k q (s ∷ p) e zero = omega arith
position_rises i k q (s ∷ p) e (suc j) = let f = fit_cons i k q s p e in omega (arith, f.rises, position_rises (suc i) (enter k s) (after q s) p f.rest j)

-- the origin of a statement's byte is that byte
origin_from_at : (i k q : ℕ) (p : Program) (j o : ℕ) → positions_fit (placed_from i k q p) ≡ ok tt → o < byte_count (position_from q p j) (at p j)
    → origin_from i q p (position_from q p j + o) ≡ some (record { place = i + j; offset = o })
unfolding origin_from position_from
origin_from_at i k q [] j o e h = absurd (omega arith)
origin_from_at i k q (s ∷ p) zero o e h =
    rw (le-leb q (q + o) (omega arith), lt-ltb (q + o) (q + byte_count q s) (omega arith))
    (let z : q + o - q ≡ o = omega arith in let y : i + 0 ≡ i = omega arith in rw (z, y))
origin_from_at i k q (s ∷ p) (suc j) o e h =
    let f = fit_cons i k q s p e in
    let up = position_rises (suc i) (enter k s) (after q s) p f.rest j in
    let a : ℕ = position_from (after q s) p j + o in
    let y : i + suc j ≡ suc i + j = omega arith in
    rw (le-leb q a (omega (arith, f.rises)), le-ltb a (q + byte_count q s) (omega (arith, f.rises)), y, origin_from_at (suc i) (enter k s) (after q s) p j o f.rest h)

-- in the whole program
pub origin_at : (p : Program) (j o : ℕ) → positions_fit (placed p) ≡ ok tt → o < size_in p j → origin p (Ok (pos (position p j + o))) ≡ some (record { place = j; offset = o })
unfolding origin position placed
origin_at p j o e h = let y : 0 + j ≡ j = omega arith in origin_from_at 0 0 0 p j o e h ∙ ap (λ (n : ℕ). some (record { place = n; offset = o })) y
