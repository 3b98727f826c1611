-- No name is defined twice: then at most one place defines what a name means.
use mathlib.Core.Path.{◌≡◌, refl, sym, ap, ◌∙◌}
use mathlib.Core.Bool.{Bool, true, false, ◌||◌, cond, not}
use mathlib.Core.Logic.{◌⊎◌, inl, inr, ⊎_elim}
use mathlib.Core.List.{List, []}
use Prim.Native.Nat.{ℕ, zero, suc, ◌+◌, ◌≤◌, ◌<◌}
use native.Mathlib.Omega.{arith}
use lib.Dec.{eqb, ltb}
use lib.ListN.{get_or}
use borrow.Author.Tests.{eqb-true, ltb-true, eq-eqb}
use Rattle.laws.proofs.Tests.{and_true, and_both, eq_or_not, lt_or_le, both_ways}
use Rattle.rules.specs.declared.Refusal.TheVariants.{Again}
use Rattle.rules.specs.Answers.{at_place, ok}
use Rattle.rules.specs.Programs.{Placeℕ, Program}
use Rattle.rules.specs.Names.{is_local, key_of, same_key, placed}
use Rattle.rules.specs.Judging.{keys_in, are_new, no_name_twice}
use Rattle.rules.proofs.Laws.{require_ok}
use Rattle.expression.specs.Environment.{is_here, keys_of}
use Rattle.expression.proofs.Keys.{seen, here, seen_here, seen_below}
use Rattle.env.specs.Tables.{name_said, Named}
use Rattle.env.specs.Linking.{OneAtMost}
use Rattle.env.proofs.Naming.{said_some, OnceTo, once_start, once_turn, once_goes}

-- where no place below the limit has a key, each of them has another
unseen : (names contexts : List ℕ) (k m limit : ℕ) → seen names contexts k m limit ≡ false → (j : ℕ) → j < limit → here names contexts k m j ≡ false
unseen names contexts k m zero e j l = absurd (omega arith)
unseen names contexts k m (suc i) e j l = on (here names contexts k m i) refl (unseen names contexts k m i)
  where
    seen_more : (b : Bool) → here names contexts k m i ≡ b → seen names contexts k m (suc i) ≡ b || seen names contexts k m i
    seen_more true h = seen_here names contexts k m (suc i) (omega arith) (ap (here names contexts k m) (omega arith) ∙ h)
    seen_more false h =
        seen_below names contexts k m (suc i) (omega arith) (ap (here names contexts k m) (omega arith) ∙ h) ∙ ap (seen names contexts k m) (omega arith)

    on : (b : Bool) → here names contexts k m i ≡ b → (seen names contexts k m i ≡ false → (j : ℕ) → j < i → here names contexts k m j ≡ false)
        → here names contexts k m j ≡ false
    on true h before = both_ways (seen names contexts k m (suc i)) (seen_more true h) e
    on false h before =
        ⊎_elim (λ q. ap (here names contexts k m) q ∙ h)
        (λ q. before (sym (seen_more false h) ∙ e) j (omega arith))
        (eq_or_not j i)

-- two statements that define what m means in context k define the same
same_here : (n c n' c' m k : ℕ) → is_here n c m k ≡ true → is_here n' c' m k ≡ true → is_here n c n' c' ≡ true
same_here n c n' c' m k a b =
    let x = and_true (ltb n 65536) (same_key (key_of c n) (key_of k m)) a in
    let y = and_true (ltb n' 65536) (same_key (key_of c' n') (key_of k m)) b in
    let u = and_true (eqb n m) (eqb (cond (is_local n) c 0) (cond (is_local m) k 0)) x.1 in
    let v = and_true (eqb n' m) (eqb (cond (is_local n') c' 0) (cond (is_local m) k 0)) y.1 in
    and_both (ltb n 65536) (same_key (key_of c n) (key_of c' n')) x.0
    (and_both (eqb n n') (eqb (cond (is_local n) c 0) (cond (is_local n') c' 0)) (eq-eqb n n' (eqb-true n m u.0 ∙ sym (eqb-true n' m v.0)))
    (eq-eqb (cond (is_local n) c 0) (cond (is_local n') c' 0)
    (eqb-true (cond (is_local n) c 0) (cond (is_local m) k 0) u.1 ∙ sym (eqb-true (cond (is_local n') c' 0) (cond (is_local m) k 0) v.1))))

module _ (p : Program) (n : ℕ) (names contexts : List ℕ) (h : Named p n names contexts) (once : no_name_twice [] (placed p) ≡ ok tt) where
  new_at : (i : Placeℕ) → i < n → OnceTo p n names contexts h i → are_new (keys_of names contexts i) (keys_in (get_or contexts i 0) (name_said (get_or names i 0))) ≡ true
  new_at i l o = (require_ok _ (Again (at_place i)) _ tt (sym (o ∙ once_turn p n names contexts h i l) ∙ once)).0

  come_to : (i : Placeℕ) → i ≤ n → OnceTo p n names contexts h i
  come_to zero l = once_start p n names contexts h
  come_to (suc i) l =
      let o = come_to i (omega arith) in
      let z : i + 1 ≡ suc i = omega arith in
      rw z at (once_goes p n names contexts h i (omega arith) (new_at i (omega arith) o) o)

  not_seen : (i : Placeℕ) → i < n → get_or names i 0 < 65536 → seen names contexts (get_or contexts i 0) (get_or names i 0) i ≡ false
  not_seen i l s = on (seen names contexts (get_or contexts i 0) (get_or names i 0) i) (rw (said_some (get_or names i 0) s) at (new_at i l (come_to i (omega arith))))
    where
      on : (b : Bool) → not b ≡ true → b ≡ false
      on true e = sym e
      on false e = refl

  apart : (k m i j : ℕ) → i < n → j < i → is_here (get_or names i 0) (get_or contexts i 0) m k ≡ true → is_here (get_or names j 0) (get_or contexts j 0) m k ≡ true → ⊥
  apart k m i j l less a b =
      let two = ltb-true (get_or names i 0) 65536 (and_true (ltb (get_or names i 0) 65536) (same_key (key_of (get_or contexts i 0) (get_or names i 0)) (key_of k m)) a).0 in
      both_ways (here names contexts (get_or contexts i 0) (get_or names i 0) j)
      (same_here (get_or names j 0) (get_or contexts j 0) (get_or names i 0) (get_or contexts i 0) m k b a)
      (unseen names contexts (get_or contexts i 0) (get_or names i 0) i (not_seen i l two) j less)

  pub one_at_most : OneAtMost names contexts n
  one_at_most = record { same = λ k m i j p q a b. on k m i j p q a b (eq_or_not i j) }
    where
      on : (k m i j : ℕ) → i < n → j < n → is_here (get_or names i 0) (get_or contexts i 0) m k ≡ true → is_here (get_or names j 0) (get_or contexts j 0) m k ≡ true
          → (i ≡ j) ⊎ (i ≡ j → ⊥) → i ≡ j
      on k m i j p q a b (inl e) = e
      on k m i j p q a b (inr d) = ⊎_elim (λ less. absurd (apart k m j i q less b a)) (λ le. absurd (apart k m i j p (omega (arith, d)) a b)) (lt_or_le i j)
