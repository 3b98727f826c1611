-- Names found once: what an expression is worth by its links, node by node, and that links made of the names as read stay right when statements go.
use mathlib.Core.Path.{◌≡◌, refl, sym, ap, ◌∙◌}
use mathlib.Core.Bool.{Bool, true, false, cond}
use mathlib.Core.Logic.{◌⊎◌, inl, inr}
use mathlib.Core.List.{List}
use Prim.Native.Nat.{ℕ, zero, suc, ◌+◌, ◌-◌, ◌≤◌, ◌<◌}
use native.Mathlib.Omega.{arith}
use lib.Dec.{leb, ltb, eqb}
use lib.IntN.{ℤ, pos}
use lib.ListN.{length, get_or, drop, take, set, length-drop}
use lib.Seq.{get_or-drop, drop-drop, get_or-set_same, get_or-set_other}
use borrow.Author.Tests.{leb-true, lt-ltb, le-ltb, eq-eqb, ne_eqb}
use Rattle.rules.specs.declared.Unvalued.TheVariants.{Nothing}
use Rattle.rules.specs.declared.Unvalued.{Unvalued}
use Rattle.std.specs.Prelude.{Result, Err, Ok}
use Rattle.laws.proofs.Stores.{rest_is}
use Rattle.laws.proofs.Tests.{eq_or_not, lt_or_le}
use Rattle.rules.specs.declared.Op1.{Op1}
use Rattle.rules.specs.declared.Op2.{Op2}
use Rattle.rules.specs.declared.Tag.TheVariants.{Number, Name, Two, One, Bad}
use Rattle.rules.specs.Values.{in_range}
use Rattle.rules.specs.Names.{key_of, same_key, lookup}
use Rattle.rules.specs.Expressions.{number_of, name_of, tag_of, eval_tree, with1, with2}
use Rattle.expression.specs.declared.Valued.{Valued}
use Rattle.expression.specs.Environment.{is_here, entries_of}
use Rattle.expression.specs.Evaluating.{no_value, number_at}
use Rattle.expression.specs.Linked.{stands_at, link_at, Linked, Evaluated, Links, Shown, stands, dropped}
use Rattle.expression.proofs.Alongs.{empty_along, bad_along, number_along, name_along, one_along, two_along}
use Rattle.expression.proofs.Entries.{at_place, found, here}

-- ---- evaluating

value : Valued → Result ℤ Unvalued
value v = v.value

taken : Valued → ℕ
taken v = v.taken

same_leaf : (b : Bool) (x y d : Valued) → (b ≡ true → x ≡ y) → cond b x d ≡ cond b y d
same_leaf true x y d h = h refl
same_leaf false x y d h = refl

module _ (s links : List ℕ) (values : List ℤ) (limit : ℕ) where
  -- the links beside the rest
  pub linked_drop : (env : ℕ → Result ℤ Unvalued) (k : ℕ) → Linked env s links values limit → Linked env (drop k s) (drop k links) values limit
  linked_drop env k h =
      record {
        name = λ j l t.
            let there = h.name (k + j) (omega (arith, length-drop k s)) (sym (ap (λ b. tag_of b) (get_or-drop k s j 0)) ∙ t) in
            ap (λ b. stands_at values limit b) (get_or-drop k links j 0) ∙ there ∙ ap (λ r. env (name_of r)) (sym (drop-drop j k s));
      }

  pub rest_evaluated : (k : ℕ) (v : Result ℤ Unvalued) (t : ℕ)
      → Evaluated (take (length s - k) (drop k s)) (take (length links - k) (drop k links)) values limit v t
      → Evaluated (drop k s) (drop k links) values limit v t
  rest_evaluated k v t w = rw (rest_is k s, rest_is k links) at w

  pub empty_evaluated : length s ≤ 0 → (v : Result ℤ Unvalued) → Evaluated s links values limit v 0
  empty_evaluated h v = record { within = omega arith; worth = λ env l. empty_along (eval_tree env) s h v }

  pub bad_evaluated : tag_of (get_or s 0 0) ≡ Bad → (v : Result ℤ Unvalued) → Evaluated s links values limit v 0
  bad_evaluated q v = record { within = omega arith; worth = λ env l. bad_along (eval_tree env) s q v }

  leaf_within : (k : ℕ) (r : Valued) → taken r ≡ k → taken (cond (leb k (length s)) r no_value) ≤ length s
  unfolding taken
  leaf_within k r e = on (leb k (length s)) refl
    where
      on : (b : Bool) → leb k (length s) ≡ b → taken (cond b r no_value) ≤ length s
      on true h = omega (arith, leb-true k (length s) h)
      on false h = omega arith

  pub number_evaluated : tag_of (get_or s 0 0) ≡ Number → Evaluated s links values limit (number_at s).value (number_at s).taken
  unfolding value taken eval_tree
  number_evaluated q =
      let r : Valued = record { value = Ok (number_of s); taken = 5 } in
      record { within = leaf_within 5 r refl; worth = λ env l. number_along (eval_tree env) s value taken r no_value q refl refl refl }

  pub name_evaluated : tag_of (get_or s 0 0) ≡ Name → Evaluated s links values limit (link_at values limit links s).value (link_at values limit links s).taken
  unfolding value taken eval_tree
  name_evaluated q =
      let r : Valued = record { value = stands_at values limit (get_or links 0 0); taken = 3 } in
      record {
        within = leaf_within 3 r refl;
        worth = λ env l.
            let m : Valued = record { value = env (name_of s); taken = 3 } in
            let same : cond (leb 3 (length s)) r no_value ≡ cond (leb 3 (length s)) m no_value = same_leaf (leb 3 (length s)) r m no_value
            (λ b. ap (λ (v : Result ℤ Unvalued). record { value = v; taken = 3 }) (l.name 0 (omega (arith, leb-true 3 (length s) b)) q)) in
            rw same (name_along (eval_tree env) s value taken m no_value q refl refl refl);
      }

  pub one_evaluated : (o : Op1) → tag_of (get_or s 0 0) ≡ One o → 1 ≤ length s → (v : Result ℤ Unvalued) (t : ℕ) → Evaluated (drop 1 s) (drop 1 links) values limit v t
      → Evaluated s links values limit (with1 o v) (1 + t)
  unfolding eval_tree
  one_evaluated o q h v t w =
      record {
        within = omega (arith, w.within, length-drop 1 s);
        worth = λ env l. one_along (eval_tree env) s o q h (with1 o) (λ e. refl) v t (w.worth env (linked_drop env 1 l));
      }

  pub two_evaluated : (o : Op2) → tag_of (get_or s 0 0) ≡ Two o → 1 ≤ length s → (v : Result ℤ Unvalued) (t : ℕ) → Evaluated (drop 1 s) (drop 1 links) values limit v t
      → (w : Result ℤ Unvalued) (u : ℕ) → Evaluated (drop (1 + t) s) (drop (1 + t) links) values limit w u → Evaluated s links values limit (with2 o v w) (1 + t + u)
  unfolding eval_tree
  two_evaluated o q h v t a w u b =
      record {
        within = omega (arith, a.within, b.within, length-drop 1 s, length-drop (1 + t) s);
        worth = λ env l.
            two_along (eval_tree env) s o q h (with2 o) (λ e d. refl) v t (a.worth env (linked_drop env 1 l)) w u (b.worth env (linked_drop env (1 + t) l));
      }

-- ---- links of the names as read

module _ (names names' contexts : List ℕ) (values : List ℤ) (n k m l : ℕ)
    (only : (i : ℕ) → i < n → is_here (get_or names i 0) (get_or contexts i 0) m k ≡ eqb i l)
    (shown : (i : ℕ) → i < n → Shown names names' values i) where
  abbrev now_here : (i : ℕ) → Bool
  now_here i = here names' contexts values k m i

  abbrev now_found : (i : ℕ) → Result ℤ Unvalued
  now_found i = found names' contexts values k m i

  after : (i : ℕ) (b : Bool) → now_here i ≡ b → now_found (suc i) ≡ cond b (Ok (get_or values i (pos 0))) (now_found i)
  after i b e =
      at_place names' contexts values k m i (ltb (get_or names' i 0) 65536) (same_key (key_of (get_or contexts i 0) (get_or names' i 0)) (key_of k m)) refl refl
      ∙ ap (λ (t : Bool). cond t (Ok (get_or values i (pos 0))) (now_found i)) e

  kept : (i : ℕ) → i < n → get_or names' i 0 ≡ get_or names i 0 → now_here i ≡ eqb i l
  kept i h e = ap (λ (a : ℕ). is_here a (get_or contexts i 0) m k) e ∙ only i h

  none : (i : ℕ) → get_or names' i 0 ≡ 65536 → now_here i ≡ false
  none i e = ap (λ (a : ℕ). is_here a (get_or contexts i 0) m k) e

  -- a place that the link does not name changes nothing
  past : (i : ℕ) → (i ≡ l → ⊥) → ltb l i ≡ ltb l (suc i)
  past i d = on (lt_or_le l i)
    where
      on : (l < i) ⊎ (i ≤ l) → ltb l i ≡ ltb l (suc i)
      on (inl q) = lt-ltb l i q ∙ sym (lt-ltb l (suc i) (omega arith))
      on (inr q) = let far : suc i ≤ l = omega (arith, d) in le-ltb l i q ∙ sym (le-ltb l (suc i) far)

  one_more : (i : ℕ) → i < n → now_found i ≡ stands_at values i l → now_found (suc i) ≡ stands_at values (suc i) l
  one_more i h e = by (eq_or_not i l) (shown i h)
    where
      by : (i ≡ l) ⊎ (i ≡ l → ⊥) → Shown names names' values i → now_found (suc i) ≡ stands_at values (suc i) l
      by (inl q) (stands a b) = after i true (kept i h a ∙ eq-eqb i l q) ∙ rw (← q, lt-ltb i (suc i) (omega arith), b)
      by (inl q) (dropped a b) = after i false (none i a) ∙ e ∙ rw (← q, le-ltb i i (omega arith), lt-ltb i (suc i) (omega arith), b)
      by (inr q) (stands a b) = after i false (kept i h a ∙ ne_eqb i l q) ∙ e ∙ rw (past i q)
      by (inr q) (dropped a b) = after i false (none i a) ∙ e ∙ rw (past i q)

  -- what the name means among the places below the limit is what the link's place stands for
  pub found_linked : (limit : ℕ) → limit ≤ n → now_found limit ≡ stands_at values limit l
  unfolding entries_of lookup
  found_linked zero h = rw (le-ltb l 0 (omega arith))
  found_linked (suc i) h = one_more i (omega arith) (found_linked i (omega arith))

-- links made of the names as read say what the names mean in a program of which some statements are gone
pub links_say : (names names' contexts : List ℕ) (values : List ℤ) (n k limit : ℕ) (s links : List ℕ) → limit ≤ n
    → Links names contexts n k s links → ((i : ℕ) → i < n → Shown names names' values i)
    → Linked (λ m. lookup (entries_of names' contexts values limit) (key_of k m)) s links values limit
links_say names names' contexts values n k limit s links few h shown =
    record { name = λ j l t. sym (found_linked names names' contexts values n k (name_of (drop j s)) (get_or links j 0) (h.place j l t) shown limit few) }

-- a statement that goes: its name goes from the table and its number becomes none; what is shown elsewhere stays
pub shown_drop : (names names' : List ℕ) (values : List ℤ) (i : ℕ) (z : ℤ) → i < length names' → i < length values → in_range z ≡ Err Nothing
    → (j : ℕ) → Shown names names' values j → Shown names (set names' i 65536) (set values i z) j
shown_drop names names' values i z ln lv out j h = on (eq_or_not j i) h
  where
    on : (j ≡ i) ⊎ (j ≡ i → ⊥) → Shown names names' values j → Shown names (set names' i 65536) (set values i z) j
    on (inl q) x = dropped (rw q (get_or-set_same names' i 65536 0 ln)) (rw (q, get_or-set_same values i z (pos 0) lv) out)
    on (inr q) (stands a b) = stands (get_or-set_other names' i j 65536 0 q ∙ a) (rw (get_or-set_other values i j z (pos 0) q) b)
    on (inr q) (dropped a b) = dropped (get_or-set_other names' i j 65536 0 q ∙ a) (rw (get_or-set_other values i j z (pos 0) q) b)
