-- "Dropping old editions of a family gives their room back, and the newest stays."
use mathlib.Core.Path.{◌≡◌, refl, sym, ◌∙◌, ap}
use mathlib.Core.Logic.{⊎_elim}
use mathlib.Core.Option.{none, some}
use mathlib.Core.List.{[], ◌∷◌, map}
use mathlib.Core.Bool.{Bool, true, false, ◌&&◌, ◌||◌, not, cond}
use Prim.Native.Nat.{ℕ, zero, suc, ◌+◌, ◌<◌, ◌≤◌, max}
use native.Mathlib.Omega.{arith}
use lib.Dec.{leb, ltb, eqb}
use lib.ListN.{length-map}
use borrow.Author.Tests.{eqb-true, eq-eqb, ne_eqb, leb-true, le-leb, ltb-true, ltb-false, lt-ltb, le-ltb}
use Rattle.laws.specs.Lists.{total, every}
use Rattle.laws.proofs.Tests.{and_true, and_both, true_false, cond_same, lt_or_le}
use Rattle.store.specs.declared.Setting.{Setting}
use Rattle.store.specs.Store.{Store, free, is_free, is_of, in_range, none_holds, alone, none_twice, is_good, find, newest, is_old, cleared, dropped}
use Rattle.store.specs.Promise.{freed, Drops}
use Rattle.store.proofs.OldOnesStay.{free_is, no_edition, free_newest}

-- a place in range that is not free has an edition
pub in_range_some : (s : Setting) → in_range s ≡ true → is_free s ≡ false → 1 ≤ s.edition
in_range_some s a b =
    let c : leb 1 s.edition && ltb s.switches 8 ≡ true = rw b at a in
    leb-true 1 s.edition (and_true (leb 1 s.edition) (ltb s.switches 8) c).0

-- an old edition
record Old (f top : ℕ) (s : Setting) : Type 0 where
  family : s.family ≡ f
  some : 1 ≤ s.edition
  below : s.edition < top

old_is : (f top : ℕ) (s : Setting) → is_old f top s ≡ true → Old f top s
old_is f top s e =
    let a = and_true (eqb s.family f) (leb 1 s.edition && ltb s.edition top) e in
    let b = and_true (leb 1 s.edition) (ltb s.edition top) a.1 in
    record { family = eqb-true s.family f a.0; some = leb-true 1 s.edition b.0; below = ltb-true s.edition top b.1 }

-- not an old one: of another family, or 0, or at the top or above
not_old : (f top : ℕ) (s : Setting) → is_old f top s ≡ false → s.family ≡ f → 1 ≤ s.edition → top ≤ s.edition
not_old f top s e q l =
    let r = rest (eqb s.family f) (leb 1 s.edition) (ltb s.edition top) (eq-eqb s.family f q) (le-leb 1 s.edition l) in
    ltb-false s.edition top (sym r ∙ e)
  where
    rest : (a b c : Bool) → a ≡ true → b ≡ true → a && (b && c) ≡ c
    rest a b c p q = rw (p, q)

-- n, if it is at the top or above
abbrev from_top : ℕ → ℕ → ℕ
from_top top n = cond (ltb n top) 0 n

top_less : (top n : ℕ) → n < top → from_top top n ≡ 0
top_less top n l = rw (lt-ltb n top l)

top_more : (top n : ℕ) → top ≤ n → from_top top n ≡ n
top_more top n l = rw (le-ltb n top l)

-- with one more: an old one, none, or one at the top or above
old_more : (top e n : ℕ) → e < top → from_top top n ≡ from_top top (max e n)
old_more top e n l =
    ⊎_elim (λ m. top_less top n m ∙ sym (top_less top (max e n) (omega arith)))
    (λ m. top_more top n m ∙ (omega arith) ∙ sym (top_more top (max e n) (omega arith)))
    (lt_or_le n top)

new_more : (top e n : ℕ) → (1 ≤ e → top ≤ e) → max e (from_top top n) ≡ from_top top (max e n)
new_more top zero n h =
    ⊎_elim (λ m. ap (max 0) (top_less top n m) ∙ sym (top_less top (max 0 n) (omega arith)))
    (λ m. ap (max 0) (top_more top n m) ∙ sym (top_more top (max 0 n) (omega arith)))
    (lt_or_le n top)
new_more top (suc e) n h =
    let k : top ≤ suc e = h (omega arith) in
    ⊎_elim (λ m. ap (max (suc e)) (top_less top n m) ∙ below m ∙ sym (top_more top (max (suc e) n) (omega arith)))
    (λ m. ap (max (suc e)) (top_more top n m) ∙ sym (top_more top (max (suc e) n) (omega arith)))
    (lt_or_le n top)
  where
    below : n < top → max (suc e) 0 ≡ max (suc e) n
    below m = omega (arith, h (omega arith))

module _ (f top : ℕ) where
  abbrev kept : Store → Store
  kept ss = map (λ s. cleared f top s) ss

  -- ---- what is found: not an old edition of f, and any other as before
  abbrev hidden : ℕ → ℕ → Bool
  hidden g e = eqb g f && ltb e top

  is_of_lem : (g e : ℕ) (s : Setting) → is_of g e s ≡ true → (s.family ≡ g) × (s.edition ≡ e)
  is_of_lem g e s q =
      let a = and_true (eqb s.family g) (eqb s.edition e) q in (eqb-true s.family g a.0, eqb-true s.edition e a.1)

  find_kept : (g e : ℕ) (ss : Store) → 1 ≤ e → find g e (kept ss) ≡ cond (hidden g e) none (find g e ss)
  unfolding find
  find_kept g e [] l = sym (cond_same (hidden g e) none)
  find_kept g e (s ∷ ss) l = on (is_old f top s) (is_of g e s) (hidden g e) refl refl refl (find_kept g e ss l)
    where
      on : (o t h : Bool) → is_old f top s ≡ o → is_of g e s ≡ t → hidden g e ≡ h → find g e (kept ss) ≡ cond h none (find g e ss)
          → find g e (cond o free s ∷ kept ss) ≡ cond h none (cond t (some s.switches) (find g e ss))
      on true t true p q r below = rw (no_edition g e free refl l) below
      on true true false p q r below =
          let o = old_is f top s p in
          let i = is_of_lem g e s q in
          let l = lt-ltb e top (omega (arith, i.1, o.below)) in
          true_false (sym (and_both (eqb g f) (ltb e top) (eq-eqb g f (sym i.0 ∙ o.family)) l) ∙ r)
      on true false false p q r below = rw (no_edition g e free refl l) below
      on false true true p q r below =
          let h = and_true (eqb g f) (ltb e top) r in
          let i = is_of_lem g e s q in
          absurd (omega (arith, not_old f top s p (i.0 ∙ eqb-true g f h.0) (omega (arith, i.1)), i.1, ltb-true e top h.1))
      on false true false p q r below = rw q
      on false false h p q r below = rw q below

  -- ---- the newest, if one is at the top or above
  newest_kept : (ss : Store) → newest f (kept ss) ≡ from_top top (newest f ss)
  unfolding newest
  newest_kept [] = sym (cond_same (ltb 0 top) 0)
  newest_kept (s ∷ ss) = on (is_old f top s) (eqb s.family f) refl refl (newest_kept ss)
    where
      on : (o t : Bool) → is_old f top s ≡ o → eqb s.family f ≡ t → newest f (kept ss) ≡ from_top top (newest f ss)
          → newest f (cond o free s ∷ kept ss) ≡ from_top top (cond t (max s.edition (newest f ss)) (newest f ss))
      on true true p q below = free_newest f free (kept ss) refl ∙ below ∙ old_more top s.edition (newest f ss) (old_is f top s p).below
      on true false p q below = let o = old_is f top s p in true_false (sym (eq-eqb s.family f o.family) ∙ q)
      on false true p q below = rw (q, below) (new_more top s.edition (newest f ss) (not_old f top s p (eqb-true s.family f q)))
      on false false p q below = rw q below

  newest_other : (g : ℕ) → (g ≡ f → ⊥) → (ss : Store) → newest g (kept ss) ≡ newest g ss
  unfolding newest
  newest_other g n [] = refl
  newest_other g n (s ∷ ss) = on (is_old f top s) refl (newest_other g n ss)
    where
      on : (o : Bool) → is_old f top s ≡ o → newest g (kept ss) ≡ newest g ss → newest g (cond o free s ∷ kept ss) ≡ newest g (s ∷ ss)
      on true p below =
          free_newest g free (kept ss) refl ∙ below ∙ sym (rw (ne_eqb s.family g (λ q. n (sym q ∙ (old_is f top s p).family))))
      on false p below = ap (λ (k : ℕ). cond (eqb s.family g) (max s.edition k) k) below

  -- ---- still good
  range_kept : (ss : Store) → every (λ s. in_range s) ss ≡ true → every (λ s. in_range s) (kept ss) ≡ true
  unfolding every
  range_kept [] h = refl
  range_kept (s ∷ ss) h = let t = and_true (in_range s) (every (λ s. in_range s) ss) h in on (is_old f top s) t.0 (range_kept ss t.1)
    where
      on : (o : Bool) → in_range s ≡ true → every (λ s. in_range s) (kept ss) ≡ true → every (λ s. in_range s) (cond o free s ∷ kept ss) ≡ true
      on true a b = b
      on false a b = rw a b

  -- an edition that no place holds is held by none after
  other_kept : (g e : ℕ) (ss : Store) → 1 ≤ e → none_holds g e ss ≡ true → none_holds g e (kept ss) ≡ true
  unfolding none_holds every
  other_kept g e [] l h = refl
  other_kept g e (s ∷ ss) l h =
      let t = and_true (not (is_of g e s)) (every (λ x. not (is_of g e x)) ss) h in on (is_old f top s) t.0 (other_kept g e ss l t.1)
    where
      on : (o : Bool) → not (is_of g e s) ≡ true → every (λ x. not (is_of g e x)) (kept ss) ≡ true
          → every (λ x. not (is_of g e x)) (cond o free s ∷ kept ss) ≡ true
      on true a b = rw (no_edition g e free refl l) b
      on false a b = rw a b

  twice_kept : (ss : Store) → every (λ s. in_range s) ss ≡ true → none_twice ss ≡ true → none_twice (kept ss) ≡ true
  unfolding none_twice every
  twice_kept [] h k = refl
  twice_kept (s ∷ ss) h k =
      let t = and_true (in_range s) (every (λ s. in_range s) ss) h in
      let u = and_true (alone s ss) (none_twice ss) k in
      on (is_old f top s) (is_free s) refl t.0 u.0 (twice_kept ss t.1 u.1)
    where
      on : (o e : Bool) → is_free s ≡ e → in_range s ≡ true → e || none_holds s.family s.edition ss ≡ true → none_twice (kept ss) ≡ true
          → none_twice (cond o free s ∷ kept ss) ≡ true
      on true e p r a b = b
      on false true p r a b = rw p b
      on false false p r a b = rw (p, other_kept s.family s.edition ss (in_range_some s r p) a) b

  -- ---- room
  free_kept : (ss : Store) → total freed (kept ss) ≡ total freed ss + total (λ s. cond (is_old f top s) 1 0) ss
  unfolding total
  free_kept [] = refl
  free_kept (s ∷ ss) = on (is_old f top s) (is_free s) refl refl (free_kept ss)
    where
      on : (o e : Bool) → is_old f top s ≡ o → is_free s ≡ e
          → total freed (kept ss) ≡ total freed ss + total (λ s. cond (is_old f top s) 1 0) ss
          → total freed (cond o free s ∷ kept ss) ≡ cond e 1 0 + total freed ss + (cond o 1 0 + total (λ s. cond (is_old f top s) 1 0) ss)
      on true true p q below = absurd (omega (arith, (old_is f top s p).some, (free_is s q).1))
      on true false p q below = omega arith
      on false true p q below = rw q (omega arith)
      on false false p q below = rw q (omega arith)

-- drops: all but the newest
pub drops : (ss : Store) (f : ℕ) → Drops ss f
unfolding dropped is_good
drops ss f =
    let top : ℕ = newest f ss in
    record {
      newest_stays = newest_kept f top ss ∙ top_more top top (omega arith);
      still_held = λ l. find_kept f top f top ss l ∙ rw (eq-eqb f f refl, le-ltb top top (omega arith));
      others = λ g e l n. find_kept f top g e ss l ∙ rw (ne_eqb g f n);
      others_newest = λ g n. newest_other f top g n ss;
      old_gone = λ e l m. find_kept f top f e ss l ∙ rw (eq-eqb f f refl, lt-ltb e top m);
      room_back = free_kept f top ss;
      good = λ k. still_good (and_true (every (λ s. in_range s) ss) (none_twice ss) k);
      as_long = length-map ss _;
    }
  where
    still_good : (every (λ s. in_range s) ss ≡ true) × (none_twice ss ≡ true)
        → every (λ s. in_range s) (kept f (newest f ss) ss) && none_twice (kept f (newest f ss) ss) ≡ true
    still_good t =
        let top : ℕ = newest f ss in
        and_both (every (λ s. in_range s) (kept f top ss)) (none_twice (kept f top ss)) (range_kept f top ss t.0)
        (twice_kept f top ss t.0 t.1)
