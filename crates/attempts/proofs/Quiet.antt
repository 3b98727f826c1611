-- A statement that defines no name and enters no context may take the place of one that enters none: contexts stay, and no name is defined twice.
use mathlib.Core.Path.{◌≡◌, refl, sym, ap, ◌∙◌}
use mathlib.Core.Logic.{◌⊎◌, inl, inr}
use mathlib.Core.List.{List, [], ◌∷◌, ◌++◌}
use mathlib.Core.Option.{Option, none, some}
use mathlib.Core.Bool.{Bool, true, false, not}
use Prim.Native.Nat.{ℕ, zero, suc, ◌<◌}
use native.Mathlib.Omega.{arith}
use lib.ListN.{length, set}
use Rattle.laws.proofs.Tests.{or_true, or_first, or_second, false_true, decide}
use Rattle.rules.specs.declared.Refusal.{Refusal}
use Rattle.rules.specs.declared.Refusal.TheVariants.{Again}
use Rattle.rules.specs.Answers.{at_place, ok, Check, require}
use Rattle.rules.specs.Programs.{Placeℕ, Stmt, Program, at, as_name}
use Rattle.rules.specs.Layout.{after}
use Rattle.rules.specs.Names.{Key, same_key, key_of, enter, context_from, context_at, placed_from, placed}
use Rattle.rules.specs.Judging.{is_seen, keys_in, are_new, no_name_twice}
use Rattle.rules.proofs.Laws.{require_ok}

-- ---- contexts

set_context_from : (k : ℕ) (p : Program) (i : Placeℕ) (s : Stmt) (j : Placeℕ) → i < length p → ((k : ℕ) → enter k (at p i) ≡ k) → ((k : ℕ) → enter k s ≡ k)
    → context_from k (set p i s) j ≡ context_from k p j
unfolding context_from
set_context_from k [] i s j h old new = refl
set_context_from k (x ∷ p) zero s zero h old new = new k ∙ sym (old k)
set_context_from k (x ∷ p) zero s (suc j) h old new = ap (λ c. context_from c p j) (new k ∙ sym (old k))
set_context_from k (x ∷ p) (suc i) s zero h old new = refl
set_context_from k (x ∷ p) (suc i) s (suc j) h old new = set_context_from (enter k x) p i s j (omega arith) old new

pub set_context : (p : Program) (i : Placeℕ) (s : Stmt) (j : Placeℕ) → i < length p → ((k : ℕ) → enter k (at p i) ≡ k) → ((k : ℕ) → enter k s ≡ k)
    → context_at (set p i s) j ≡ context_at p j
unfolding context_at
set_context p i s j h old new = set_context_from 0 p i s j h old new

-- ---- names

-- what is seen among the first is seen among the second
Fewer : (few many : List Key) → Type 0
Fewer few many = (x : Key) → is_seen few x ≡ true → is_seen many x ≡ true

fewer_both : (k : ℕ) (o : Option ℕ) (few many : List Key) → Fewer few many → Fewer (keys_in k o ++ few) (keys_in k o ++ many)
unfolding Fewer
fewer_both k none few many h x e = h x e
fewer_both k (some n) few many h x e = on (or_true (same_key (key_of k n) x) (is_seen few x) (unfold is_seen in e))
  where
    on : (same_key (key_of k n) x ≡ true) ⊎ (is_seen few x ≡ true) → is_seen (key_of k n ∷ many) x ≡ true
    on (inl a) = unfold is_seen in or_first (same_key (key_of k n) x) (is_seen many x) a
    on (inr b) = unfold is_seen in or_second (same_key (key_of k n) x) (is_seen many x) (h x b)

new_fewer : (k : ℕ) (o : Option ℕ) (few many : List Key) → Fewer few many → are_new many (keys_in k o) ≡ true → are_new few (keys_in k o) ≡ true
unfolding Fewer
new_fewer k none few many h e = refl
new_fewer k (some n) few many h e = on (decide (is_seen few (key_of k n)))
  where
    on : (is_seen few (key_of k n) ≡ true) ⊎ (is_seen few (key_of k n) ≡ false) → not (is_seen few (key_of k n)) ≡ true
    on (inl a) = false_true (ap not (sym (h (key_of k n) a)) ∙ e)
    on (inr b) = ap not b

-- a check that passes passes too where its test does
pass : (t : Bool) (r : Refusal) (y : Check) → t ≡ true → y ≡ ok tt → require t r y ≡ ok tt
unfolding require
pass true r y e f = f
pass false r y e f = false_true e

-- fewer names above, and other positions
once_fewer : (few many : List Key) (i k q q' : ℕ) (p : Program) → Fewer few many → no_name_twice many (placed_from i k q p) ≡ ok tt → no_name_twice few (placed_from i k q' p) ≡ ok tt
unfolding no_name_twice placed_from
once_fewer few many i k q q' [] h e = refl
once_fewer few many i k q q' (s ∷ p) h e =
    let o = as_name s in
    let c = enter k s in
    let m = require_ok (are_new many (keys_in c o)) _ (no_name_twice (keys_in c o ++ many) (placed_from (suc i) c (after q s) p)) tt e in
    pass (are_new few (keys_in c o)) _ (no_name_twice (keys_in c o ++ few) (placed_from (suc i) c (after q' s) p)) (new_fewer c o few many h m.0)
    (once_fewer (keys_in c o ++ few) (keys_in c o ++ many) (suc i) c (after q s) (after q' s) p (fewer_both c o few many h) m.1)

-- one more name above
fewer_one : (k : ℕ) (o : Option ℕ) (few many : List Key) → Fewer few many → Fewer few (keys_in k o ++ many)
unfolding Fewer
fewer_one k none few many h x e = h x e
fewer_one k (some n) few many h x e = unfold is_seen in or_second (same_key (key_of k n) x) (is_seen many x) (h x e)

set_named_from : (few many : List Key) (i k q q' : ℕ) (p : Program) (j : Placeℕ) (s : Stmt) → Fewer few many → j < length p
    → ((k : ℕ) → enter k (at p j) ≡ k) → ((k : ℕ) → enter k s ≡ k) → as_name s ≡ none
    → no_name_twice many (placed_from i k q p) ≡ ok tt → no_name_twice few (placed_from i k q' (set p j s)) ≡ ok tt
unfolding no_name_twice placed_from
set_named_from few many i k q q' [] j s h b old new n e = absurd (omega arith)
set_named_from few many i k q q' (x ∷ p) zero s h b old new n e =
    let o = as_name x in
    let c = enter k x in
    let m = require_ok (are_new many (keys_in c o)) _ (no_name_twice (keys_in c o ++ many) (placed_from (suc i) c (after q x) p)) tt e in
    first (as_name s) n (enter k s) (old k ∙ sym (new k))
    (once_fewer few (keys_in c o ++ many) (suc i) c (after q x) (after q' s) p (fewer_one c o few many h) m.1)
  where
    first : (a : Option ℕ) → a ≡ none → (c : ℕ) → enter k x ≡ c → no_name_twice few (placed_from (suc i) (enter k x) (after q' s) p) ≡ ok tt
        → require (are_new few (keys_in c a)) (Again (at_place i)) (no_name_twice (keys_in c a ++ few) (placed_from (suc i) c (after q' s) p)) ≡ ok tt
    first a f c g l = pass (are_new few (keys_in c a)) _ _ (ap (λ y. are_new few (keys_in c y)) f) (ap (λ y. no_name_twice (keys_in c y ++ few) (placed_from (suc i) c (after q' s) p)) f ∙ (ap (λ y. no_name_twice few (placed_from (suc i) y (after q' s) p)) (sym g) ∙ l))
set_named_from few many i k q q' (x ∷ p) (suc j) s h b old new n e =
    let o = as_name x in
    let c = enter k x in
    let m = require_ok (are_new many (keys_in c o)) _ (no_name_twice (keys_in c o ++ many) (placed_from (suc i) c (after q x) p)) tt e in
    pass (are_new few (keys_in c o)) _ (no_name_twice (keys_in c o ++ few) (placed_from (suc i) c (after q' x) (set p j s))) (new_fewer c o few many h m.0)
    (set_named_from (keys_in c o ++ few) (keys_in c o ++ many) (suc i) c (after q x) (after q' x) p j s (fewer_both c o few many h) (omega arith) old new n m.1)

pub set_named : (p : Program) (i : Placeℕ) (s : Stmt) → i < length p → ((k : ℕ) → enter k (at p i) ≡ k) → ((k : ℕ) → enter k s ≡ k) → as_name s ≡ none
    → no_name_twice [] (placed p) ≡ ok tt → no_name_twice [] (placed (set p i s)) ≡ ok tt
unfolding placed Fewer
set_named p i s h old new n e = set_named_from [] [] 0 0 0 0 p i s (λ x f. f) h old new n e
