-- By the map, an address comes to the statement that it comes to in the listing, over the zeros before it.
use mathlib.Core.Path.{◌≡◌, refl, sym, ◌∙◌, ap}
use mathlib.Core.Logic.{◌⊎◌, inl, inr, ⊎_elim}
use mathlib.Core.List.{List, [], ◌∷◌, ◌++◌}
use mathlib.Core.Option.{Option, none, some}
use mathlib.Core.Bool.{Bool, true, false, cond, ◌&&◌}
use Prim.Native.Nat.{ℕ, zero, suc, ◌+◌, ◌-◌, ◌*◌, ◌≤◌, ◌<◌}
use native.Mathlib.Omega.{arith}
use lib.Dec.{eqb, leb, ltb}
use lib.ListN.{length, get_or}
use borrow.Author.Tests.{leb-true, le-leb, lt-leb, lt-ltb, le-ltb}
use Rattle.laws.proofs.Tests.{false_true, true_false, eq_or_not, lt_or_le, or_second}
use Rattle.laws.proofs.Stores.{get_in}
use Rattle.rules.specs.Answers.{ok}
use Rattle.rules.specs.Forms.{size_at}
use Rattle.rules.specs.Programs.{Placeℕ, Stmt, gone, instr, label, variable, comment, org, bytes, words, pad, Program, at, byte_count}
use Rattle.rules.specs.Layout.{after, position_from, position, size_in, Origin}
use Rattle.rules.specs.Names.{enter, placed_from, placed}
use Rattle.rules.specs.Judging.{settles, positions_fit}
use Rattle.rules.proofs.Laws.{require_ok}
use Rattle.promises.proofs.Positions.{fit_cons}
use Rattle.decoding.specs.Opcodes.{form_among, form_of_byte}
use Rattle.paths.specs.Walk.{is_code, code_at}
use Rattle.paths.proofs.Layouts.{climbs, code_is, code_off}
use Rattle.endings.proofs.Comes.{ComesFrom, nowhere, comes, comes_from}
use Rattle.decoded.specs.Decoded.{Decodes}
use Rattle.mapwalk.specs.Stands.{Stand, covers, covering, is_below, Found, standing, past, outside, nop, found_in, seek}
use Rattle.mapwalk.specs.Maps.{stand_at, stands_in, stands_up, stands_of}

-- ---- an instruction and data end at 65,536 or below
low_one : (i q : ℕ) (s : Stmt) → settles i q s ≡ ok tt → is_code s ≡ true → q + byte_count q s ≤ 65536
low_one i q gone h e = false_true e
low_one i q (instr f xs c) h e = leb-true (q + size_at f) 65536 (require_ok (leb (q + size_at f) 65536) _ (ok tt) tt h).0
low_one i q (label n) h e = false_true e
low_one i q (variable n d) h e = false_true e
low_one i q (comment x) h e = false_true e
low_one i q (org l) h e = false_true e
low_one i q (bytes es) h e = leb-true (q + length es) 65536 (require_ok (leb (q + length es) 65536) _ (ok tt) tt h).0
low_one i q (words es) h e = leb-true (q + 2 * length es) 65536 (require_ok (leb (q + 2 * length es) 65536) _ (ok tt) tt h).0
low_one i q (pad add m) h e = false_true e

low_from : (i k q : ℕ) (p : Program) → positions_fit (placed_from i k q p) ≡ ok tt → (j : Placeℕ) → is_code (at p j) ≡ true
    → position_from q p j + byte_count (position_from q p j) (at p j) ≤ 65536
unfolding position_from
low_from i k q [] u j e = false_true e
low_from i k q (s ∷ p) u zero e = low_one i q s (fit_cons i k q s p u).settled e
low_from i k q (s ∷ p) u (suc j) e = low_from (suc i) (enter k s) (after q s) p (fit_cons i k q s p u).rest j e

low : (p : Program) → positions_fit (placed p) ≡ ok tt → (j : Placeℕ) → is_code (at p j) ≡ true → position p j + size_in p j ≤ 65536
unfolding position placed
low p u j e = low_from 0 0 0 p u j e

-- ---- the rows of a range of places
both : (b : Bool) → b && false ≡ false
both true = refl
both false = refl

module _ (base p : Program) (a : ℕ) where
  abbrev Away : ℕ → Type 0
  Away j = is_code (at p j) ≡ true → (a < position p j) ⊎ (position p j + size_in p j ≤ a)

  not_covers : (j : ℕ) → (a < position p j) ⊎ (position p j + size_in p j ≤ a) → covers a (stand_at base p j) ≡ false
  not_covers j (inl l) = rw (lt-leb (position p j) a l)
  not_covers j (inr l) = rw (le-ltb a (position p j + size_in p j) l) (both (leb (position p j) a))

  cover_skip : (i : ℕ) (rest : List Stand) → Away i → covering (stands_in base p i ++ rest) a ≡ covering rest a
  unfolding covering
  cover_skip i rest h = split (is_code (at p i)) refl
    where
      split : (t : Bool) → is_code (at p i) ≡ t → covering (cond t (stand_at base p i ∷ []) [] ++ rest) a ≡ covering rest a
      split false e = refl
      split true e = rw (not_covers i (h e))

  cover_none : (i n : ℕ) → ((j : ℕ) → Away j) → covering (stands_up base p i n) a ≡ none
  unfolding covering stands_up
  cover_none i zero h = refl
  cover_none i (suc n) h = cover_skip i (stands_up base p (suc i) n) (h i) ∙ cover_none (suc i) n h

  cover_hit : (i n b : ℕ) → i ≤ b → b < i + n → is_code (at p b) ≡ true → position p b ≤ a → a < position p b + size_in p b → ((j : ℕ) → j < b → Away j)
      → covering (stands_up base p i n) a ≡ some (stand_at base p b)
  unfolding covering stands_up
  cover_hit i zero b l m e x y h = absurd (omega arith)
  cover_hit i (suc n) b l m e x y h =
      ⊎_elim
      (λ (z : b ≡ i). first (ap (λ (k : ℕ). is_code (at p k)) (sym z) ∙ e) (omega (arith, ap (position p) z)) (omega (arith, ap (λ (k : ℕ). position p k + size_in p k) z)) ∙ ap (λ (k : ℕ). some (stand_at base p k)) (sym z))
      (λ ne. cover_skip i (stands_up base p (suc i) n) (h i (omega arith)) ∙ cover_hit (suc i) n b (omega arith) (omega arith) e x y h) (eq_or_not b i)
    where
      first : is_code (at p i) ≡ true → position p i ≤ a → a < position p i + size_in p i → covering (stands_in base p i ++ stands_up base p (suc i) n) a ≡ some (stand_at base p i)
      first e x y = rw (e, le-leb (position p i) a x, lt-ltb a (position p i + size_in p i) y)

  below_none : (i n : ℕ) → ((j : ℕ) → is_code (at p j) ≡ true → position p j + size_in p j ≤ a) → is_below a (stands_up base p i n) ≡ false
  unfolding is_below stands_up
  below_none i zero h = refl
  below_none i (suc n) h = split (is_code (at p i)) refl (below_none (suc i) n h)
    where
      split : (t : Bool) → is_code (at p i) ≡ t → is_below a (stands_up base p (suc i) n) ≡ false → is_below a (cond t (stand_at base p i ∷ []) [] ++ stands_up base p (suc i) n) ≡ false
      split false e below = below
      split true e below = rw (le-ltb a (position p i + size_in p i) (h i e)) below

  below_some : (i n b : ℕ) → i ≤ b → b < i + n → is_code (at p b) ≡ true → a < position p b + size_in p b → is_below a (stands_up base p i n) ≡ true
  unfolding is_below stands_up
  below_some i zero b l m e y = absurd (omega arith)
  below_some i (suc n) b l m e y =
      ⊎_elim (λ (z : b ≡ i). first (ap (λ (k : ℕ). is_code (at p k)) (sym z) ∙ e) (omega (arith, ap (λ (k : ℕ). position p k + size_in p k) z)))
      (λ ne. later (is_code (at p i)) (below_some (suc i) n b (omega arith) (omega arith) e y)) (eq_or_not b i)
    where
      first : is_code (at p i) ≡ true → a < position p i + size_in p i → is_below a (stands_in base p i ++ stands_up base p (suc i) n) ≡ true
      first e y = rw (e, lt-ltb a (position p i + size_in p i) y)

      later : (t : Bool) → is_below a (stands_up base p (suc i) n) ≡ true → is_below a (cond t (stand_at base p i ∷ []) [] ++ stands_up base p (suc i) n) ≡ true
      later false k = k
      later true k = or_second (ltb a (position p i + size_in p i)) (is_below a (stands_up base p (suc i) n)) k

zero_is_nop : eqb (form_of_byte 0) nop ≡ true
unfolding form_of_byte form_among
zero_is_nop = refl

-- ---- over the zeros
abbrev pub found_as : (base p : Program) → Option Origin → Found
found_as base p none = past
found_as base p (some g) = standing (stand_at base p g.place) g.offset

module _ (base p : Program) (image : List ℕ) (d : Decodes p image) (laid : positions_fit (placed p) ≡ ok tt) (solid : (b : Placeℕ) → is_code (at p b) ≡ true → 0 < size_in p b) where
  code_inside : (b : ℕ) → is_code (at p b) ≡ true → b < length p
  code_inside b e = get_in p b gone (λ z. true_false (sym e ∙ ap is_code z))

  abbrev ss : List Stand
  ss = stands_up base p 0 (length p)

  abbrev rest : (n a : ℕ) → Found
  rest n a = cond (is_below a ss) (cond (eqb (form_of_byte (get_or image a 0)) nop) (seek n ss image (suc a)) outside) past

  pub seek_comes : (n a : ℕ) → 65536 < a + n → seek n (stands_of base p) image a ≡ found_as base p (code_at p a)
  unfolding seek stands_of position code_at
  seek_comes zero a h = sym (ap (found_as base p) (code_off p a (λ c e. omega (arith, low p laid c e))))
  seek_comes (suc n) a h = on (comes_from a 0 0 p) (seek_comes n (suc a) (omega arith))
    where
      passing : (b : ℕ) → is_code (at p b) ≡ true → a < position p b → ((c : ℕ) → c < b → is_code (at p c) ≡ true → position p c + size_in p c ≤ a)
          → seek n ss image (suc a) ≡ found_as base p (code_at p (suc a)) → found_in a (rest n a) (covering ss a) ≡ standing (stand_at base p b) (a - position p b)
      passing b e l k below =
          let away : (j : ℕ) → is_code (at p j) ≡ true → (a < position p j) ⊎ (position p j + size_in p j ≤ a) =
          λ j x. ⊎_elim (λ m. inr (k j m x)) (λ m. inl (omega (arith, climbs p laid b j m))) (lt_or_le j b) in
          let zero_there : eqb (form_of_byte (get_or image a 0)) nop ≡ true = ap (λ (n : ℕ). eqb (form_of_byte n) nop) (d.zeros a away) ∙ zero_is_nop in
          let there : code_at p (suc a) ≡ some (record { place = b; offset = suc a - position p b }) =
          code_is p (suc a) b e (omega (arith, solid b e)) (λ c m x. omega (arith, k c m x)) in
          let none_left : suc a - position p b ≡ a - position p b = omega arith in
          rw (cover_none base p a 0 (length p) away, below_some base p a 0 (length p) b (omega arith) (omega (arith, code_inside b e)) e (omega arith), zero_there)
          (below ∙ ap (found_as base p) there ∙ ap (standing (stand_at base p b)) none_left)

      on : {o : Option Origin} → ComesFrom a 0 0 p o → seek n ss image (suc a) ≡ found_as base p (code_at p (suc a)) → found_in a (rest n a) (covering ss a) ≡ found_as base p o
      on (nowhere k) below = rw (cover_none base p a 0 (length p) (λ j x. inr (k j x)), below_none base p a 0 (length p) k)
      on (comes b e l k) below =
          let z : 0 + b ≡ b = omega arith in
          rw z
          (⊎_elim (λ m. passing b e m k below)
          (λ m. ap (found_in a (rest n a)) (cover_hit base p a 0 (length p) b (omega arith) (omega (arith, code_inside b e)) e m l (λ j y x. inr (k j y x)))) (lt_or_le a (position p b)))
