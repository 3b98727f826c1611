-- Names counted by their links, node by node.
use mathlib.Core.Path.{◌≡◌, refl, sym, ap, ◌∙◌}
use mathlib.Core.Bool.{Bool, true, false, cond}
use mathlib.Core.List.{List}
use Prim.Native.Nat.{ℕ, ◌+◌, ◌-◌, ◌≤◌}
use native.Mathlib.Omega.{arith}
use lib.Dec.{leb, eqb}
use lib.ListN.{length, get_or, drop, take, length-drop}
use lib.Seq.{get_or-drop, drop-drop}
use borrow.Author.Tests.{leb-true}
use Rattle.laws.proofs.Stores.{rest_is}
use Rattle.rules.specs.declared.Op1.{Op1}
use Rattle.rules.specs.declared.Op2.{Op2}
use Rattle.rules.specs.declared.Tag.TheVariants.{Number, Name, Two, One, Bad}
use Rattle.rules.specs.Expressions.{name_of, tag_of, mentions}
use Rattle.expression.specs.declared.Tally.{Tally}
use Rattle.expression.specs.Naming.{no_names, leaf_tally, link_tally, Referred, Counted}
use Rattle.expression.proofs.Alongs.{empty_along, bad_along, number_along, name_along, one_along, two_along}

found : Tally → ℕ
found a = a.found

taken : Tally → ℕ
taken a = a.taken

abbrev leaf : (k n : ℕ) → Tally
leaf k n = record { found = n; taken = k }

same_leaf : (b : Bool) (x y d : Tally) → (b ≡ true → x ≡ y) → cond b x d ≡ cond b y d
same_leaf true x y d h = h refl
same_leaf false x y d h = refl

module _ (s links : List ℕ) (place : ℕ) where
  -- the links beside the rest
  pub referred_drop : (f : ℕ → Bool) (k : ℕ) → Referred f s links place → Referred f (drop k s) (drop k links) place
  referred_drop f k h =
      record {
        name = λ j l t.
            let there = h.name (k + j) (omega (arith, length-drop k s)) (sym (ap (λ b. tag_of b) (get_or-drop k s j 0)) ∙ t) in
            ap (λ b. eqb b place) (get_or-drop k links j 0) ∙ there ∙ ap (λ r. f (name_of r)) (sym (drop-drop j k s));
      }

  pub rest_counted : (k n t : ℕ) → Counted (take (length s - k) (drop k s)) (take (length links - k) (drop k links)) place n t
      → Counted (drop k s) (drop k links) place n t
  rest_counted k n t w = rw (rest_is k s, rest_is k links) at w

  pub empty_counted : length s ≤ 0 → (n : ℕ) → Counted s links place n 0
  empty_counted h n = record { within = omega arith; mentioned = λ f l. empty_along (mentions f) s h n }

  pub bad_counted : tag_of (get_or s 0 0) ≡ Bad → (n : ℕ) → Counted s links place n 0
  bad_counted q n = record { within = omega arith; mentioned = λ f l. bad_along (mentions f) s q n }

  leaf_within : (k n : ℕ) → taken (cond (leb k (length s)) (leaf k n) no_names) ≤ length s
  unfolding taken
  leaf_within k n = on (leb k (length s)) refl
    where
      on : (b : Bool) → leb k (length s) ≡ b → taken (cond b (leaf k n) no_names) ≤ length s
      on true h = omega (arith, leb-true k (length s) h)
      on false h = omega arith

  pub number_counted : tag_of (get_or s 0 0) ≡ Number → Counted s links place (leaf_tally 5 0 s).found (leaf_tally 5 0 s).taken
  unfolding found taken mentions
  number_counted q = record { within = leaf_within 5 0; mentioned = λ f l. number_along (mentions f) s found taken (leaf 5 0) no_names q refl refl refl }

  pub name_counted : tag_of (get_or s 0 0) ≡ Name → Counted s links place (link_tally place links s).found (link_tally place links s).taken
  unfolding found taken mentions
  name_counted q =
      let n : ℕ = cond (eqb (get_or links 0 0) place) 1 0 in
      record {
        within = leaf_within 3 n;
        mentioned = λ f l.
            let m : ℕ = cond (f (name_of s)) 1 0 in
            let same : cond (leb 3 (length s)) (leaf 3 n) no_names ≡ cond (leb 3 (length s)) (leaf 3 m) no_names = same_leaf (leb 3 (length s)) (leaf 3 n) (leaf 3 m) no_names
            (λ b. ap (λ (t : Bool). leaf 3 (cond t 1 0)) (l.name 0 (omega (arith, leb-true 3 (length s) b)) q)) in
            rw same (name_along (mentions f) s found taken (leaf 3 m) no_names q refl refl refl);
      }

  pub one_counted : (o : Op1) → tag_of (get_or s 0 0) ≡ One o → 1 ≤ length s → (n t : ℕ) → Counted (drop 1 s) (drop 1 links) place n t
      → Counted s links place n (1 + t)
  unfolding mentions
  one_counted o q h n t w =
      record {
        within = omega (arith, w.within, length-drop 1 s);
        mentioned = λ f l. one_along (mentions f) s o q h (λ m. m) (λ e. refl) n t (w.mentioned f (referred_drop f 1 l));
      }

  pub two_counted : (o : Op2) → tag_of (get_or s 0 0) ≡ Two o → 1 ≤ length s → (n t : ℕ) → Counted (drop 1 s) (drop 1 links) place n t
      → (m u : ℕ) → Counted (drop (1 + t) s) (drop (1 + t) links) place m u → Counted s links place (n + m) (1 + t + u)
  unfolding mentions
  two_counted o q h n t a m u b =
      record {
        within = omega (arith, a.within, b.within, length-drop 1 s, length-drop (1 + t) s);
        mentioned = λ f l.
            two_along (mentions f) s o q h ◌+◌ (λ e d. refl) n t (a.mentioned f (referred_drop f 1 l)) m u (b.mentioned f (referred_drop f (1 + t) l));
      }
