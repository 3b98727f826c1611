-- The places of a store one after the other, as a loop goes over them, and a place that is written. Assumes nothing.
use mathlib.Core.Path.{◌≡◌, refl, sym, ◌∙◌}
use mathlib.Core.List.{List, [], ◌∷◌, ◌++◌}
use mathlib.Core.Option.{some}
use mathlib.Core.Bool.{Bool, true, false, ◌&&◌, ◌||◌, not, cond}
use Prim.Native.Nat.{ℕ, suc, ◌+◌, ◌<◌, ◌≤◌, max}
use native.Mathlib.Numerals.{add-one}
use native.Mathlib.Omega.{arith}
use lib.Dec.{eqb}
use lib.ListN.{length, set, take, drop, drop_of_length-le}
use lib.Seq.{drop-cons, take-suc, append_snoc, set_split, sets-eq}
use Rattle.laws.specs.Lists.{every}
use Rattle.laws.proofs.Counts.{get_or_tab}
use Rattle.store.specs.declared.Setting.{Setting}
use Rattle.store.specs.Store.{free, is_free, is_of, none_holds, alone, none_twice, find, newest, has_free, put}
use Rattle.store.specs.Rooms.{setting_at, store_in}
use Rattle.store.proofs.RoomHolds.{length_store}

-- five stores in a row
pub five_stores : (l : List ℕ) (i a b c d e : ℕ) → i + 5 ≤ length l
    → set (set (set (set (set l i a) (i + 1) b) (i + 2) c) (i + 3) d) (i + 4) e ≡ take i l ++ (a ∷ b ∷ c ∷ d ∷ e ∷ []) ++ drop (i + 5) l
five_stores l i a b c d e h =
    let p : i + 1 ≡ suc i = omega arith in
    let q : i + 2 ≡ suc (suc i) = omega arith in
    let r : i + 3 ≡ suc (suc (suc i)) = omega arith in
    let s : i + 4 ≡ suc (suc (suc (suc i))) = omega arith in
    rw (p, q, r, s) (sets-eq (a ∷ b ∷ c ∷ d ∷ e ∷ []) l i h)

module _ (room : List ℕ) (k : ℕ) where
  -- behind the last place
  pub none_left : 32 ≤ k → drop k (store_in room) ≡ []
  none_left h = drop_of_length-le (store_in room) {i = k} (omega (arith, length_store room))

  module _ (l : k < 32) where
    pub from_place : drop k (store_in room) ≡ setting_at room k ∷ drop (k + 1) (store_in room)
    unfolding store_in
    from_place = drop-cons (store_in room) k free (omega (arith, length_store room)) ∙ rw (get_or_tab (setting_at room) 32 k free l, add-one k)

    pub every_from : (f : Setting → Bool) → every f (drop k (store_in room)) ≡ f (setting_at room k) && every f (drop (k + 1) (store_in room))
    unfolding every
    every_from f = rw from_place

    pub holds_from : (f e : ℕ)
        → none_holds f e (drop k (store_in room)) ≡ not (is_of f e (setting_at room k)) && none_holds f e (drop (k + 1) (store_in room))
    unfolding none_holds
    holds_from f e = every_from (λ x. not (is_of f e x))

    pub twice_from : none_twice (drop k (store_in room))
        ≡ alone (setting_at room k) (drop (k + 1) (store_in room)) && none_twice (drop (k + 1) (store_in room))
    unfolding none_twice
    twice_from = rw from_place

    pub find_from : (f e : ℕ)
        → find f e (drop k (store_in room))
        ≡ cond (is_of f e (setting_at room k)) (some (setting_at room k).switches) (find f e (drop (k + 1) (store_in room)))
    unfolding find
    find_from f e = rw from_place

    pub newest_from : (f top : ℕ)
        → max top (newest f (drop k (store_in room)))
        ≡ max (cond (eqb (setting_at room k).family f) (max (setting_at room k).edition top) top) (newest f (drop (k + 1) (store_in room)))
    unfolding newest
    newest_from f top =
        rw from_place (swap (eqb (setting_at room k).family f) (setting_at room k).edition (newest f (drop (k + 1) (store_in room))))
      where
        swap : (t : Bool) (e n : ℕ) → max top (cond t (max e n) n) ≡ max (cond t (max e top) top) n
        swap true e n = omega arith
        swap false e n = refl

    pub free_from : has_free (drop k (store_in room)) ≡ is_free (setting_at room k) || has_free (drop (k + 1) (store_in room))
    unfolding has_free
    free_from = rw from_place

    -- what is put into the places from k on
    put_from : (x : Setting)
        → put x (drop k (store_in room))
        ≡ cond (is_free (setting_at room k)) (x ∷ drop (k + 1) (store_in room)) (setting_at room k ∷ put x (drop (k + 1) (store_in room)))
    unfolding put
    put_from x = rw from_place

    pub put_hit : (x : Setting) → is_free (setting_at room k) ≡ true
        → take k (store_in room) ++ put x (drop k (store_in room)) ≡ set (store_in room) k x
    put_hit x e = rw (put_from x, e, add-one k) (sym (set_split (store_in room) k x (omega (arith, length_store room))))

    pub put_miss : (x : Setting) → is_free (setting_at room k) ≡ false
        → take k (store_in room) ++ put x (drop k (store_in room)) ≡ take (k + 1) (store_in room) ++ put x (drop (k + 1) (store_in room))
    unfolding store_in
    put_miss x e =
        let t = take-suc (store_in room) k free (omega (arith, length_store room)) in
        rw (put_from x, e, add-one k, t, get_or_tab (setting_at room) 32 k free l)
        (sym (append_snoc (take k (store_in room)) (setting_at room k) (put x (drop (suc k) (store_in room)))))
