-- Names that stand for a label: its own, and those of variables that are only other names for it. Each is worth the label's position.
use mathlib.Core.Path.{◌≡◌, refl, sym, ◌∙◌, ap}
use mathlib.Core.Logic.{⊎_elim}
use mathlib.Core.List.{List, [], ◌∷◌, ◌++◌}
use mathlib.Core.Option.{some}
use mathlib.Core.Bool.{Bool, true, false, cond}
use Prim.Native.Nat.{ℕ, zero, suc, ◌≤◌, ◌<◌}
use native.Mathlib.Omega.{arith}
use lib.ListN.{length}
use lib.IntN.{ℤ, pos}
use Rattle.rules.specs.declared.Unvalued.{Unvalued}
use Rattle.std.specs.Prelude.{Result, Ok}
use Rattle.laws.proofs.Tests.{false_true, true_false, clash, or_first, or_second, or_true, lt_or_le, decide}
use Rattle.laws.proofs.Stores.{get_in}
use Rattle.rules.specs.Answers.{ok}
use Rattle.rules.specs.Expressions.{Expr, num, name, two, one, eval_tree}
use Rattle.rules.specs.Programs.{Placeℕ, Stmt, gone, label, variable, Naming, unnamed, labels, binds, naming_of, name_in, Program, at, as_name}
use Rattle.rules.specs.Layout.{after, position}
use Rattle.rules.specs.Names.{enter, context_from, context_at, placed_from, placed, Key, key_of, same_key, Entry, lookup}
use Rattle.rules.specs.Judging.{is_seen, keys_in, no_name_twice, entry, value_at, worth, define_in, define, define_all, names_of}
use Rattle.rules.proofs.Laws.{require_ok, then_ok}
use Rattle.promises.proofs.Passes.{names_are}
use Rattle.walk.proofs.Lookups.{key_same, same_key_lem}
use Rattle.walk.proofs.Inputs.{value_ok}
use Rattle.paths.specs.Walk.{is_name_in, stands_in, names_before, label_names}
use Rattle.paths.proofs.Names.{later, label_worth, naming_label, naming_variable, Kin, kin_label, kin_variable}

-- the key is defined at place b, and stands for the label at d
pub data Stands (p : Program) : (key : Key) (b d : Placeℕ) → Type 0 where
  own : {key : Key} (d n : ℕ) → at p d ≡ label n → key_of (context_at p d) n ≡ key → Stands p key d d
  other : {key : Key} {d : ℕ} (b v n l : ℕ) → at p v ≡ variable n (name l) → key_of (context_at p v) n ≡ key → b < v → Stands p (key_of (context_at p v) l) b d → Stands p key v d

pub record Standing (p : Program) (key : Key) : Type 0 where
  pub at_place : Placeℕ
  pub for_label : Placeℕ
  pub stands : Stands p key at_place for_label

-- ---- in the list of such names
module _ (p : Program) where
  record Before (i : ℕ) (key : Key) : Type 0 where
    it : Standing p key
    sooner : it.at_place < i

  found_before : (i : ℕ) (key : Key) → is_seen (names_before p i) key ≡ true → Before i key
  unfolding names_before is_seen
  found_before zero key e = false_true e
  found_before (suc i) key e = split (naming_of (at p i)) refl e (found_before i)
    where
      more : Before i key → Before (suc i) key
      more x = record { it = x.it; sooner = omega (arith, x.sooner) }

      bound : (n : ℕ) (e : Expr) → at p i ≡ variable n e → is_name_in (names_before p i) (context_at p i) e ≡ true → key_of (context_at p i) n ≡ key → ((key : Key) → is_seen (names_before p i) key ≡ true → Before i key)
          → Before (suc i) key
      bound n (num z) s h k below = false_true h
      bound n (name l) s h k below =
          let x = below (key_of (context_at p i) l) h in
          record { it = record { at_place = i; for_label = x.it.for_label; stands = other x.it.at_place i n l s k x.sooner x.it.stands }; sooner = omega arith }
      bound n (two o a b) s h k below = false_true h
      bound n (one o a) s h k below = false_true h

      split : (x : Naming) → naming_of (at p i) ≡ x → is_seen (stands_in (names_before p i) (context_at p i) x) key ≡ true → ((key : Key) → is_seen (names_before p i) key ≡ true → Before i key) → Before (suc i) key
      split unnamed s e below = more (below key e)
      split (labels n) s e below =
          ⊎_elim (λ z. record { it = record { at_place = i; for_label = i; stands = own i n (naming_label (at p i) n s) (same_key_lem _ _ z) }; sooner = omega arith })
          (λ z. more (below key z)) (or_true (same_key (key_of (context_at p i) n) key) (is_seen (names_before p i) key) e)
      split (binds n d) s e below = on (is_name_in (names_before p i) (context_at p i) d) refl e
        where
          on : (b : Bool) → is_name_in (names_before p i) (context_at p i) d ≡ b → is_seen (cond b (key_of (context_at p i) n ∷ names_before p i) (names_before p i)) key ≡ true → Before (suc i) key
          on true h e =
              ⊎_elim (λ z. bound n d (naming_variable (at p i) n d s) h (same_key_lem _ _ z) below) (λ z. more (below key z))
              (or_true (same_key (key_of (context_at p i) n) key) (is_seen (names_before p i) key) e)
          on false h e = more (below key e)

  pub stands_found : (key : Key) → is_seen (label_names p) key ≡ true → Standing p key
  unfolding label_names
  stands_found key e = (found_before (length p) key e).it

  -- what is seen stays seen
  seen_next : (i : ℕ) (key : Key) → is_seen (names_before p i) key ≡ true → is_seen (names_before p (suc i)) key ≡ true
  unfolding names_before is_seen
  seen_next i key e = split (naming_of (at p i))
    where
      split : (x : Naming) → is_seen (stands_in (names_before p i) (context_at p i) x) key ≡ true
      split unnamed = e
      split (labels n) = or_second (same_key (key_of (context_at p i) n) key) (is_seen (names_before p i) key) e
      split (binds n d) = on (is_name_in (names_before p i) (context_at p i) d)
        where
          on : (b : Bool) → is_seen (cond b (key_of (context_at p i) n ∷ names_before p i) (names_before p i)) key ≡ true
          on true = or_second (same_key (key_of (context_at p i) n) key) (is_seen (names_before p i) key) e
          on false = e

  seen_later : (i j : ℕ) (key : Key) → i ≤ j → is_seen (names_before p i) key ≡ true → is_seen (names_before p j) key ≡ true
  seen_later i zero key l e = let z : i ≡ 0 = omega arith in ap (λ (n : ℕ). is_seen (names_before p n) key) (sym z) ∙ e
  seen_later i (suc j) key l e =
      ⊎_elim (λ h. seen_next j key (seen_later i j key (omega arith) e)) (λ h. let z : i ≡ suc j = omega arith in ap (λ (n : ℕ). is_seen (names_before p n) key) (sym z) ∙ e) (lt_or_le i (suc j))

  seen_at : {key : Key} {b d : ℕ} → Stands p key b d → is_seen (names_before p (suc b)) key ≡ true
  unfolding names_before is_seen
  seen_at {key} (own d n s k) = rw s (or_first (same_key (key_of (context_at p d) n) key) (is_seen (names_before p d) key) (key_same (key_of (context_at p d) n) key k))
  seen_at {key} (other b v n l s k h r) =
      let above : is_seen (names_before p v) (key_of (context_at p v) l) ≡ true = seen_later (suc b) v (key_of (context_at p v) l) h (seen_at r) in
      rw (s, above) (or_first (same_key (key_of (context_at p v) n) key) (is_seen (names_before p v) key) (key_same (key_of (context_at p v) n) key k))

  inside : {key : Key} {b d : ℕ} → Stands p key b d → b < length p
  inside (own d n s k) = get_in p d gone (λ e. clash (cc))
  inside (other b v n l s k h r) = get_in p v gone (λ e. clash (cc))

  pub stands_seen : {key : Key} {b d : ℕ} → Stands p key b d → is_seen (label_names p) key ≡ true
  unfolding label_names
  stands_seen {key} {b} r = seen_later (suc b) (length p) key (inside r) (seen_at r)

-- ---- what such a name is worth
-- every name that has a value is one of those seen
abbrev Covers : List Key → List Entry → Type 0
Covers seen above = (key : Key) (z : ℤ) → lookup above key ≡ Ok z → is_seen seen key ≡ true

covers_more : (seen : List Key) (above : List Entry) (k n : ℕ) (v : ℤ) → Covers seen above → Covers (keys_in k (some n) ++ seen) (entry k n v ∷ above)
unfolding lookup is_seen
covers_more seen above k n v c key z e = split (same_key (key_of k n) key) refl e
  where
    split : (b : Bool) → same_key (key_of k n) key ≡ b → cond b (Ok v) (lookup above key) ≡ Ok z → is_seen (key_of k n ∷ seen) key ≡ true
    split true h e = or_first (same_key (key_of k n) key) (is_seen seen key) h
    split false h e = or_second (same_key (key_of k n) key) (is_seen seen key) (c key z e)

covers_define : (seen : List Key) (above : List Entry) (i k q : ℕ) (x : Naming) (names : List Entry) → define_in above i k q x ≡ ok names → Covers seen above → Covers (keys_in k (name_in x) ++ seen) names
covers_define seen above i k q unnamed names e c = let z : above ≡ names = cc in rw (← z) c
covers_define seen above i k q (labels n) names e c = let z : entry k n (pos q) ∷ above ≡ names = cc in rw (← z) (covers_more seen above k n (pos q) c)
covers_define seen above i k q (binds n d) names e c =
    let a = then_ok (value_at i (worth above k d)) _ names e in
    let z : entry k n a.0 ∷ above ≡ names = cc a.2 in
    rw (← z) (covers_more seen above k n a.0 c)

-- a variable that is bound to a name alone is worth what that name is worth
module _ (seen : List Key) (above : List Entry) (i k q : ℕ) (p : Program) (names : List Entry) (n l : ℕ) where
  first_bound : Covers seen above → no_name_twice seen (placed_from i k q (variable n (name l) ∷ p)) ≡ ok tt → define_all above (placed_from i k q (variable n (name l) ∷ p)) ≡ ok names
      → lookup names (key_of k n) ≡ lookup names (key_of k l)
  unfolding no_name_twice placed_from define_all is_seen lookup eval_tree as_name
  first_bound c t e =
      let r = require_ok _ _ _ tt t in
      let a = then_ok (define above i k q (variable n (name l))) _ names e in
      let b = then_ok (value_at i (worth above k (name l))) _ a.0 a.1 in
      let value : lookup above (key_of k l) ≡ Ok b.0 = value_ok i (lookup above (key_of k l)) b.0 b.1 in
      let z : entry k n b.0 ∷ above ≡ a.0 = cc b.2 in
      let own_seen : is_seen (key_of k n ∷ seen) (key_of k n) ≡ true = or_first (same_key (key_of k n) (key_of k n)) (is_seen seen (key_of k n)) (key_same (key_of k n) (key_of k n) refl) in
      let its_seen : is_seen (key_of k n ∷ seen) (key_of k l) ≡ true = or_second (same_key (key_of k n) (key_of k l)) (is_seen seen (key_of k l)) (c (key_of k l) b.0 value) in
      let up : (key : Key) → is_seen (key_of k n ∷ seen) key ≡ true → lookup names key ≡ cond (same_key (key_of k n) key) (Ok b.0) (lookup above key) =
      λ key s. later (key_of k n ∷ seen) a.0 (suc i) k q p names key r.1 s a.2 ∙ ap (λ (x : List Entry). lookup x key) (sym z) in
      up (key_of k n) own_seen ∙ hit b.0 (lookup above (key_of k n)) (same_key (key_of k n) (key_of k n)) (key_same (key_of k n) (key_of k n) refl)
      ∙ sym (up (key_of k l) its_seen ∙ either b.0 (lookup above (key_of k l)) (same_key (key_of k n) (key_of k l)) value)
    where
      hit : (v : ℤ) (o : Result ℤ Unvalued) (b : Bool) → b ≡ true → cond b (Ok v) o ≡ Ok v
      hit v o true e = refl
      hit v o false e = false_true e

      either : (v : ℤ) (o : Result ℤ Unvalued) (b : Bool) → o ≡ Ok v → cond b (Ok v) o ≡ Ok v
      either v o true e = refl
      either v o false e = e

bound_from : (seen : List Key) (above : List Entry) (i k q : ℕ) (p : Program) (names : List Entry) → Covers seen above → no_name_twice seen (placed_from i k q p) ≡ ok tt → define_all above (placed_from i k q p) ≡ ok names
    → (j n l : ℕ) → at p j ≡ variable n (name l) → lookup names (key_of (context_from k p j) n) ≡ lookup names (key_of (context_from k p j) l)
unfolding context_from no_name_twice placed_from define_all as_name
bound_from seen above i k q [] names c t e j n l h = clash (cc)
bound_from seen above i k q (x ∷ p) names c t e zero n l h =
    let same : enter k x ≡ k = rw h in
    rw same
    (first_bound seen above i k q p names n l c (ap (λ (y : Stmt). no_name_twice seen (placed_from i k q (y ∷ p))) (sym h) ∙ t) (ap (λ (y : Stmt). define_all above (placed_from i k q (y ∷ p))) (sym h) ∙ e))
bound_from seen above i k q (x ∷ p) names c t e (suc j) n l h =
    let r = require_ok _ _ _ tt t in
    let a = then_ok (define above i (enter k x) q x) _ names e in
    bound_from (keys_in (enter k x) (as_name x) ++ seen) a.0 (suc i) (enter k x) (after q x) p names (covers_define seen above i (enter k x) q (naming_of x) a.0 a.1 c) r.1 a.2 j n l h

module _ (p : Program) (names : List Entry) (once : no_name_twice [] (placed p) ≡ ok tt) (defined : define_all [] (placed p) ≡ ok names) where
  bound_worth : (v n l : ℕ) → at p v ≡ variable n (name l) → lookup (names_of p) (key_of (context_at p v) n) ≡ lookup (names_of p) (key_of (context_at p v) l)
  unfolding placed context_at
  bound_worth v n l h = rw (names_are p names defined) (bound_from [] [] 0 0 0 p names (λ key z e. unfold lookup in clash (cc)) once defined v n l h)

  -- stands-worth: the label's position
  pub stands_worth : {key : Key} {b d : ℕ} → Stands p key b d → lookup (names_of p) key ≡ Ok (pos (position p d))
  stands_worth (own d n s k) = rw (← k) (label_worth p names once defined d n s)
  stands_worth (other b v n l s k h r) = rw (← k) (bound_worth v n l s ∙ stands_worth r)

-- ---- in another program
-- what stands for a label in q does in p
pub kin_stands : (p q : Program) → Kin p q → ((n : ℕ) → context_at q n ≡ context_at p n) → {key : Key} {b d : ℕ} → Stands q key b d → Stands p key b d
kin_stands p q f c (own d n s k) = own d n (kin_label p q f d n s) (ap (λ (j : ℕ). key_of j n) (sym (c d)) ∙ k)
kin_stands p q f c {d = d} (other b v n l s k h r) =
    other b v n l (kin_variable p q f v n (name l) s) (ap (λ (j : ℕ). key_of j n) (sym (c v)) ∙ k) h (rw (c v) at (kin_stands p q f c r))

-- so what is no such name in p is none in q
pub kin_names : (p q : Program) → Kin p q → ((n : ℕ) → context_at q n ≡ context_at p n) → (k : ℕ) (e : Expr) → is_name_in (label_names p) k e ≡ false → is_name_in (label_names q) k e ≡ false
kin_names p q f c k (num z) h = refl
kin_names p q f c k (name n) h = ⊎_elim (λ t. true_false (sym (stands_seen p (kin_stands p q f c (stands_found q (key_of k n) t).stands)) ∙ h)) (λ t. t) (decide (is_seen (label_names q) (key_of k n)))
kin_names p q f c k (two o e d) h = refl
kin_names p q f c k (one o e) h = refl

-- where labels and variables stay, names go on standing for labels
pub stands_stay : (p q : Program) → ((n : ℕ) → context_at q n ≡ context_at p n) → ((d n : ℕ) → at p d ≡ label n → at q d ≡ label n) → ((v n : ℕ) (e : Expr) → at p v ≡ variable n e → at q v ≡ variable n e)
    → {key : Key} {b d : ℕ} → Stands p key b d → Stands q key b d
stands_stay p q c h g (own d n s k) = own d n (h d n s) (ap (λ (j : ℕ). key_of j n) (c d) ∙ k)
stands_stay p q c h g (other b v n l s k u r) =
    other b v n l (g v n (name l) s) (ap (λ (j : ℕ). key_of j n) (c v) ∙ k) u (rw (sym (c v)) at (stands_stay p q c h g r))

-- where a label may go, but none that a variable names, and P is said of those
module _ (p q : Program) (P : ℕ → Type 0) (contexts : (n : ℕ) → context_at q n ≡ context_at p n) (stay : (v n : ℕ) (e : Expr) → at p v ≡ variable n e → at q v ≡ variable n e)
    (kept : (v n l d : ℕ) → at p v ≡ variable n (name l) → at p d ≡ label l → key_of (context_at p d) l ≡ key_of (context_at p v) l → (at q d ≡ label l) × P d) where
  pub named_kept : {key : Key} {b d : ℕ} → Stands p key b d → (v n l : ℕ) → at p v ≡ variable n (name l) → key_of (context_at p v) l ≡ key → Stands q key b d × P d
  named_kept (own d m s k) v n l a z =
      let same : m ≡ l = ap (λ (x : Key). x.called) (k ∙ sym z) in
      let there : at p d ≡ label l = s ∙ ap label same in
      let x = kept v n l d a there (ap (λ (m : ℕ). key_of (context_at p d) m) (sym same) ∙ k ∙ sym z) in
      (own d l x.0 (ap (λ (j : ℕ). key_of j l) (contexts d) ∙ ap (λ (m : ℕ). key_of (context_at p d) m) (sym same) ∙ k), x.1)
  named_kept (other b w m y s k u r) v n l a z =
      let x = named_kept r w m y s refl in
      (other b w m y (stay w m (name y) s) (ap (λ (j : ℕ). key_of j m) (contexts w) ∙ k) u (rw (sym (contexts w)) at x.0), x.1)
