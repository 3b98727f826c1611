-- 4 and 7 in an expression: it is worth `Err Unknown` where a name is not found, and `Err Nothing` where a node has no value, left before right.
use mathlib.Core.Path.{◌≡◌, refl}
use mathlib.Core.List.{List, [], ◌∷◌}
use mathlib.Core.Bool.{Bool, true, false, cond}
use Prim.Native.Nat.{ℕ, ◌^◌}
use lib.Dec.{ltb, eqb}
use lib.IntN.{ℤ, neg_ℤ, nat_abs, ◌+ℤ◌, ◌-ℤ◌, ◌*ℤ◌}
use lib.Signed.{mag, quot_z}
use Rattle.rules.specs.declared.Unvalued.TheVariants.{Unknown, Nothing}
use Rattle.rules.specs.declared.Unvalued.{Unvalued}
use Rattle.std.specs.Prelude.{Result, Err, Ok}
use Rattle.laws.proofs.Tests.{clash}
use Rattle.rules.specs.declared.Op1.{Op1}
use Rattle.rules.specs.declared.Op1.TheVariants.{Negate, Upper, Lower}
use Rattle.rules.specs.declared.Op2.{Op2}
use Rattle.rules.specs.declared.Op2.TheVariants.{Plus, Minus, Times, Divide, Xor, And, Or}
use Rattle.rules.specs.Values.{in_range, apply1, apply2}
use Rattle.rules.specs.Expressions.{Expr, num, name, two, one, with1, with2, eval_tree}
use Rattle.rules.specs.Names.{Key, Entry, lookup, same_key}
use Rattle.believed.specs.Causes.{NotFound, here, left, right, under, NodeWithout, node_two, node_one, node_left, node_right, node_under}

-- ---- an operator never gives Unknown, and a name never Nothing
known_range : (z : ℤ) → in_range z ≡ Err Unknown → ⊥
known_range z = on (ltb (mag z) (2 ^ 31))
  where
    on : (b : Bool) → cond b (Ok z) (Err Nothing) ≡ Err Unknown → ⊥
    on true e = clash (cc)
    on false e = clash (cc)

known_two : (o : Op2) (a b : ℤ) → apply2 o a b ≡ Err Unknown → ⊥
known_two Plus a b e = known_range (a +ℤ b) e
known_two Minus a b e = known_range (a -ℤ b) e
known_two Times a b e = known_range (a *ℤ b) e
known_two Divide a b e = on (eqb (nat_abs b) 0) e
  where
    on : (t : Bool) → cond t (Err Nothing) (in_range (quot_z a b)) ≡ Err Unknown → ⊥
    on true e = clash (cc)
    on false e = known_range (quot_z a b) e
known_two Xor a b e = clash (cc)
known_two And a b e = clash (cc)
known_two Or a b e = clash (cc)

known_one : (o : Op1) (a : ℤ) → apply1 o a ≡ Err Unknown → ⊥
known_one Negate a e = known_range (neg_ℤ a) e
known_one Upper a e = clash (cc)
known_one Lower a e = clash (cc)

name_valued : (names : List Entry) (k : Key) → lookup names k ≡ Err Nothing → ⊥
unfolding lookup
name_valued [] k e = clash (cc)
name_valued (x ∷ names) k e = on (same_key x.key k) (name_valued names k) e
  where
    on : (b : Bool) → (lookup names k ≡ Err Nothing → ⊥) → cond b (Ok x.stands_for) (lookup names k) ≡ Err Nothing → ⊥
    on true below e = clash (cc)
    on false below e = below e

-- ---- 4
module _ (env : ℕ → Result ℤ Unvalued) where
  pub unknown : (e : Expr) → eval_tree env e ≡ Err Unknown → NotFound env e
  unfolding eval_tree
  unknown (num z) h = clash (cc)
  unknown (name n) h = here n h
  unknown (two o e d) h = on (eval_tree env e) (eval_tree env d) refl refl h (unknown e) (unknown d)
    where
      on : (x y : Result ℤ Unvalued) → eval_tree env e ≡ x → eval_tree env d ≡ y → with2 o x y ≡ Err Unknown → (eval_tree env e ≡ Err Unknown → NotFound env e)
          → (eval_tree env d ≡ Err Unknown → NotFound env d) → NotFound env (two o e d)
      on (Ok a) (Ok b) p q h l r = absurd (known_two o a b h)
      on (Ok a) (Err Unknown) p q h l r = right o e d a p (r q)
      on (Ok a) (Err Nothing) p q h l r = clash (cc)
      on (Err Unknown) y p q h l r = left o e d (l p)
      on (Err Nothing) y p q h l r = clash (cc)
  unknown (one o e) h = on (eval_tree env e) refl h (unknown e)
    where
      on : (x : Result ℤ Unvalued) → eval_tree env e ≡ x → with1 o x ≡ Err Unknown → (eval_tree env e ≡ Err Unknown → NotFound env e) → NotFound env (one o e)
      on (Ok a) p h l = absurd (known_one o a h)
      on (Err Unknown) p h l = under o e (l p)
      on (Err Nothing) p h l = clash (cc)

  pub not_found : {e : Expr} → NotFound env e → eval_tree env e ≡ Err Unknown
  unfolding eval_tree
  not_found (here n h) = h
  not_found (left o e d h) = rw (not_found h)
  not_found (right o e d a p h) = rw (p, not_found h)
  not_found (under o e h) = rw (not_found h)

  -- ---- 7
  module _ (valued : (n : ℕ) → env n ≡ Err Nothing → ⊥) where
    pub nothing : (e : Expr) → eval_tree env e ≡ Err Nothing → NodeWithout env e
    unfolding eval_tree
    nothing (num z) h = clash (cc)
    nothing (name n) h = absurd (valued n h)
    nothing (two o e d) h = on (eval_tree env e) (eval_tree env d) refl refl h (nothing e) (nothing d)
      where
        on : (x y : Result ℤ Unvalued) → eval_tree env e ≡ x → eval_tree env d ≡ y → with2 o x y ≡ Err Nothing
            → (eval_tree env e ≡ Err Nothing → NodeWithout env e)
            → (eval_tree env d ≡ Err Nothing → NodeWithout env d) → NodeWithout env (two o e d)
        on (Ok a) (Ok b) p q h l r = node_two o e d a b p q h
        on (Ok a) (Err Unknown) p q h l r = clash (cc)
        on (Ok a) (Err Nothing) p q h l r = node_right o e d a p (r q)
        on (Err Unknown) y p q h l r = clash (cc)
        on (Err Nothing) y p q h l r = node_left o e d (l p)
    nothing (one o e) h = on (eval_tree env e) refl h (nothing e)
      where
        on : (x : Result ℤ Unvalued) → eval_tree env e ≡ x → with1 o x ≡ Err Nothing → (eval_tree env e ≡ Err Nothing → NodeWithout env e)
            → NodeWithout env (one o e)
        on (Ok a) p h l = node_one o e a p h
        on (Err Unknown) p h l = clash (cc)
        on (Err Nothing) p h l = node_under o e (l p)

  pub node_without : {e : Expr} → NodeWithout env e → eval_tree env e ≡ Err Nothing
  unfolding eval_tree
  node_without (node_two o e d a b p q h) = rw (p, q) h
  node_without (node_one o e a p h) = rw p h
  node_without (node_left o e d h) = rw (node_without h)
  node_without (node_right o e d a p h) = rw (p, node_without h)
  node_without (node_under o e h) = rw (node_without h)

-- among entries a name is found or not
pub entries_valued : (names : List Entry) (f : ℕ → Key) (n : ℕ) → lookup names (f n) ≡ Err Nothing → ⊥
entries_valued names f n = name_valued names (f n)
