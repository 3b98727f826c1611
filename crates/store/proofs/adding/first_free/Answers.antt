-- `store::adding::first_free` meets its contract: no place before the one that is found is free.
use Rattle.std.proofs.Common.{◌≡◌, List, ◌++◌, ℕ, zero, suc, ◌<◌, ◌≤◌, true, false, Option, Some, None, MatchOption, unwrap_or, refl, ◌∙◌, rules, arith, take, drop, add-one}
use borrow.Author.Tests.{lt-ltb}
use Rattle.std.proofs.lemmas.Iterator.{first_from_Range}
use Rattle.store.specs.declared.Setting.{Setting}
use Rattle.store.specs.Changes.{FirstFree}
use Rattle.store.specs.Store.{is_free, has_free, put}
use Rattle.store.specs.Rooms.{setting_at, store_in}
use Rattle.store.proofs.PlaceByPlace.{none_left, free_from, put_hit, put_miss}
use Rattle.store.proofs.adding.first_free.Goals as goal

module _ (room : List ℕ) where
  -- no place below i is free
  taken : (i : ℕ) → i ≤ 32 → ((k : ℕ) → k < i → is_free (setting_at room k) ≡ false)
      → (has_free (store_in room) ≡ has_free (drop i (store_in room)))
      × ((x : Setting) → put x (store_in room) ≡ take i (store_in room) ++ put x (drop i (store_in room)))
  taken zero l h = (refl, λ x. refl)
  taken (suc i) l h =
      let t = taken i (omega arith) (λ k a. h k (omega arith)) in
      let m : i < 32 = omega arith in
      let e : is_free (setting_at room i) ≡ false = h i (omega arith) in
      (t.0 ∙ free_from room i m ∙ rw (e, add-one i), λ x. t.1 x ∙ put_miss room i m x e ∙ rw (add-one i))

  found : (o : Option ℕ)
      → MatchOption o ((k : ℕ) → 0 ≤ k → k < 32 → is_free (setting_at room k) ≡ false)
      (λ i. (0 ≤ i) × (i < 32) × (is_free (setting_at room i) ≡ true) × ((k : ℕ) → 0 ≤ k → k < i → is_free (setting_at room k) ≡ false))
      → FirstFree (store_in room) (unwrap_or o 32)
  unfolding has_free
  found None h =
      record {
        bound = omega arith;
        some = (taken 32 (omega arith) (λ k l. h k (omega arith) l)).0 ∙ rw (none_left room 32 (omega arith));
        there = λ x l. absurd (omega arith);
      }
  found (Some i) h =
      let t = taken i (omega arith) (λ k l. h.3 k (omega arith) l) in
      record {
        bound = omega arith;
        some = t.0 ∙ free_from room i h.1 ∙ rw (h.2, lt-ltb i 32 h.1);
        there = λ x l. t.1 x ∙ put_hit room i l x h.2;
      }

pub returns : goal.returns
returns c =
    let t = λ (k : ℕ). is_free (setting_at c.args.room.now k) in
    rw c.unwrap_or.ensures (found c.args.room.now _
    (first_from_Range _ _ _ _ (λ k. t k ≡ true) (λ k. t k ≡ false) c.find.ensures.ran (λ x q k. search rules) (λ x q k. search rules)))
