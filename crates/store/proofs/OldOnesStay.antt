-- "a new edition, numbered one above the newest from 1 on, never alters an old one"
use mathlib.Core.Path.{◌≡◌, refl, sym, ap}
use mathlib.Core.Option.{some}
use mathlib.Core.List.{[], ◌∷◌}
use mathlib.Core.Bool.{Bool, true, false, ◌&&◌, ◌||◌, not, cond}
use Prim.Native.Nat.{ℕ, suc, ◌<◌, ◌≤◌, max}
use native.Mathlib.Omega.{arith}
use lib.Dec.{eqb}
use lib.ListN.{length}
use borrow.Author.Tests.{eqb-true, eqb-false, eq-eqb, ne_eqb, le-leb, lt-ltb}
use Rattle.laws.specs.Lists.{every}
use Rattle.laws.proofs.Tests.{and_true, and_both, or_second, false_true, first_false, second_false}
use Rattle.store.specs.declared.Setting.{Setting}
use Rattle.store.specs.Store.{Store, is_free, is_of, in_range, none_holds, alone, none_twice, is_good, find, newest, has_free, put, edition, added}
use Rattle.store.specs.Promise.{Adds}

-- ---- a free place

pub free_is : (s : Setting) → is_free s ≡ true → (s.family ≡ 0) × (s.edition ≡ 0) × (s.switches ≡ 0)
free_is s e =
    let a = and_true (eqb s.family 0) (eqb s.edition 0 && eqb s.switches 0) e in
    let b = and_true (eqb s.edition 0) (eqb s.switches 0) a.1 in
    (eqb-true s.family 0 a.0, eqb-true s.edition 0 b.0, eqb-true s.switches 0 b.1)

-- is no edition's
pub no_edition : (g e : ℕ) (s : Setting) → s.edition ≡ 0 → 1 ≤ e → is_of g e s ≡ false
no_edition g e s z l = second_false (eqb s.family g) (eqb s.edition e) (ne_eqb s.edition e (λ q. omega arith))

max_zero : (t : Bool) (n : ℕ) → cond t (max 0 n) n ≡ n
max_zero true n = omega arith
max_zero false n = refl

pub free_newest : (g : ℕ) (s : Setting) (ss : Store) → s.edition ≡ 0 → newest g (s ∷ ss) ≡ newest g ss
unfolding newest
free_newest g s ss z = rw z (max_zero (eqb s.family g) (newest g ss))

-- ---- no edition is above the newest

pub above_newest : (f n : ℕ) (s : Setting) (ss : Store) → newest f (s ∷ ss) < n → (is_of f n s ≡ false) × (newest f ss < n)
unfolding newest
above_newest f n s ss h = on (eqb s.family f) h
  where
    on : (t : Bool) → cond t (max s.edition (newest f ss)) (newest f ss) < n → (t && eqb s.edition n ≡ false) × (newest f ss < n)
    on true h = (ne_eqb s.edition n (λ q. omega arith), omega arith)
    on false h = (refl, h)

fresh : (f n : ℕ) (ss : Store) → newest f ss < n → none_holds f n ss ≡ true
unfolding none_holds every
fresh f n [] h = refl
fresh f n (s ∷ ss) h = let a = above_newest f n s ss h in rw a.0 (fresh f n ss a.1)

pub eqb_sym : (a b : ℕ) → eqb a b ≡ eqb b a
eqb_sym a b = on (eqb a b) refl
  where
    on : (t : Bool) → eqb a b ≡ t → t ≡ eqb b a
    on true e = sym (eq-eqb b a (sym (eqb-true a b e)))
    on false e = sym (ne_eqb b a (λ q. eqb-false a b e (sym q)))

-- ---- a setting put into the first free place

module _ (x : Setting) where
  put_other : (g e : ℕ) (ss : Store) → 1 ≤ e → is_of g e x ≡ false → find g e (put x ss) ≡ find g e ss
  unfolding put find
  put_other g e [] l h = refl
  put_other g e (s ∷ ss) l h = on (is_free s) refl (put_other g e ss l h)
    where
      on : (t : Bool) → is_free s ≡ t → find g e (put x ss) ≡ find g e ss
          → find g e (cond t (x ∷ ss) (s ∷ put x ss)) ≡ cond (is_of g e s) (some s.switches) (find g e ss)
      on true t below = rw (h, no_edition g e s (free_is s t).1 l)
      on false t below = rw below

  put_new : (ss : Store) → newest x.family ss < x.edition → has_free ss ≡ true
      → find x.family x.edition (put x ss) ≡ some x.switches
  unfolding put find has_free
  put_new [] l h = false_true h
  put_new (s ∷ ss) l h = on (is_free s) h (put_new ss (above_newest x.family x.edition s ss l).1)
    where
      on : (t : Bool) → t || has_free ss ≡ true → (has_free ss ≡ true → find x.family x.edition (put x ss) ≡ some x.switches)
          → find x.family x.edition (cond t (x ∷ ss) (s ∷ put x ss)) ≡ some x.switches
      on true h below = rw (eq-eqb x.family x.family refl, eq-eqb x.edition x.edition refl)
      on false h below = rw (above_newest x.family x.edition s ss l).0 (below h)

  put_newest : (g : ℕ) (ss : Store) → has_free ss ≡ true
      → newest g (put x ss) ≡ cond (eqb x.family g) (max x.edition (newest g ss)) (newest g ss)
  unfolding put newest has_free
  put_newest g [] h = false_true h
  put_newest g (s ∷ ss) h = on (is_free s) refl h (put_newest g ss)
    where
      swap : (a b : Bool) (m n k : ℕ)
          → cond a (max m (cond b (max n k) k)) (cond b (max n k) k) ≡ cond b (max n (cond a (max m k) k)) (cond a (max m k) k)
      swap true true m n k = omega arith
      swap true false m n k = refl
      swap false true m n k = refl
      swap false false m n k = refl

      on : (t : Bool) → is_free s ≡ t → t || has_free ss ≡ true
          → (has_free ss ≡ true → newest g (put x ss) ≡ cond (eqb x.family g) (max x.edition (newest g ss)) (newest g ss))
          → newest g (cond t (x ∷ ss) (s ∷ put x ss)) ≡ cond (eqb x.family g) (max x.edition (newest g (s ∷ ss))) (newest g (s ∷ ss))
      on true t h below = rw (free_newest g s ss (free_is s t).1)
      on false t h below = rw (below h) (swap (eqb s.family g) (eqb x.family g) s.edition x.edition (newest g ss))

  every_put : (P : Setting → Bool) (ss : Store) → P x ≡ true → every P ss ≡ true → every P (put x ss) ≡ true
  unfolding put every
  every_put P [] h k = refl
  every_put P (s ∷ ss) h k = let t = and_true (P s) (every P ss) k in on (is_free s) t (every_put P ss h t.1)
    where
      on : (b : Bool) → (P s ≡ true) × (every P ss ≡ true) → every P (put x ss) ≡ true → every P (cond b (x ∷ ss) (s ∷ put x ss)) ≡ true
      on true t below = rw h t.1
      on false t below = rw t.0 below

  put_alone : (ss : Store) → newest x.family ss < x.edition → is_free x ≡ false → none_twice ss ≡ true → none_twice (put x ss) ≡ true
  unfolding put none_twice none_holds every
  put_alone [] l h k = refl
  put_alone (s ∷ ss) l h k =
      let t = and_true (alone s ss) (none_twice ss) k in
      on (is_free s) t.0 t.1 (put_alone ss (above_newest x.family x.edition s ss l).1 h t.1)
    where
      other : not (is_of s.family s.edition x) ≡ true
      other = rw (eqb_sym x.family s.family, eqb_sym x.edition s.edition, (above_newest x.family x.edition s ss l).0)

      on : (t : Bool) → t || every (λ y. not (is_of s.family s.edition y)) ss ≡ true → none_twice ss ≡ true
          → none_twice (put x ss) ≡ true
          → none_twice (cond t (x ∷ ss) (s ∷ put x ss)) ≡ true
      on true a b below = rw (h, fresh x.family x.edition ss (above_newest x.family x.edition s ss l).1) b
      on false a b below =
          and_both (alone s (put x ss)) (none_twice (put x ss))
          (or_second (is_free s) _ (every_put (λ y. not (is_of s.family s.edition y)) ss other a))
          below

  length_put : (ss : Store) → length (put x ss) ≡ length ss
  unfolding put
  length_put [] = refl
  length_put (s ∷ ss) = on (is_free s) (length_put ss)
    where
      on : (t : Bool) → length (put x ss) ≡ length ss → length (cond t (x ∷ ss) (s ∷ put x ss)) ≡ suc (length ss)
      on true below = refl
      on false below = ap suc below

-- adds: a new edition
pub adds : (ss : Store) (f w : ℕ) → has_free ss ≡ true → Adds ss f w
unfolding added is_good
adds ss f w h =
    let x : Setting = edition f w ss in
    record {
      old_ones = λ g e l n. put_other x g e ss l (not_new g e n);
      new_one = put_new x ss (omega arith) h;
      newest_is = rw (put_newest x f ss h, eq-eqb f f refl) (omega arith);
      others = λ g n. rw (put_newest x g ss h, ne_eqb f g (λ q. n (sym q)));
      good = λ l k. still_good l (and_true (every (λ s. in_range s) ss) (none_twice ss) k);
      as_long = length_put x ss;
    }
  where
    not_new : (g e : ℕ) → (g ≡ f → e ≡ suc (newest f ss) → ⊥) → is_of g e (edition f w ss) ≡ false
    not_new g e n = on (eqb f g) (eqb (suc (newest f ss)) e) refl refl
      where
        on : (a b : Bool) → eqb f g ≡ a → eqb (suc (newest f ss)) e ≡ b → a && b ≡ false
        on true true p q = absurd (n (sym (eqb-true f g p)) (sym (eqb-true (suc (newest f ss)) e q)))
        on true false p q = refl
        on false b p q = refl

    held : is_free (edition f w ss) ≡ false
    held = second_false (eqb f 0) _ (first_false (eqb (suc (newest f ss)) 0) (eqb w 0) (ne_eqb (suc (newest f ss)) 0 (λ q. omega arith)))

    in_range_lem : w < 8 → in_range (edition f w ss) ≡ true
    in_range_lem l = rw (held, le-leb 1 (suc (newest f ss)) (omega arith), lt-ltb w 8 l)

    still_good : w < 8 → (every (λ s. in_range s) ss ≡ true) × (none_twice ss ≡ true)
        → every (λ s. in_range s) (put (edition f w ss) ss) && none_twice (put (edition f w ss) ss) ≡ true
    still_good l t =
        let x : Setting = edition f w ss in
        and_both (every (λ s. in_range s) (put x ss)) (none_twice (put x ss)) (every_put x (λ s. in_range s) ss (in_range_lem l) t.0)
        (put_alone x ss (omega arith) held t.1)
