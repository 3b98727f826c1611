-- The keys of the places below a limit: one place more, a name looked for from the latest place down, and a store that is not seen
-- below it. Assumes nothing.
use mathlib.Core.Path.{◌≡◌, refl, ap, ◌∙◌}
use mathlib.Core.Option.{none, some}
use mathlib.Core.Bool.{Bool, true, false, ◌&&◌, ◌||◌, cond}
use mathlib.Core.List.{List, ◌∷◌, ◌++◌}
use Prim.Native.Nat.{ℕ, zero, suc, ◌-◌, ◌≤◌, ◌<◌}
use native.Mathlib.Omega.{arith}
use lib.Dec.{ltb}
use lib.ListN.{get_or, set}
use lib.Seq.{get_or-set_other}
use Rattle.rules.specs.Names.{key_of, same_key}
use Rattle.rules.specs.Judging.{is_seen, keys_in}
use Rattle.expression.specs.Environment.{is_here, keys_of}

module _ (names contexts : List ℕ) where
  pub keys_more : (i : ℕ)
      → keys_of names contexts (suc i)
      ≡ keys_in (get_or contexts i 0) (cond (ltb (get_or names i 0) 65536) (some (get_or names i 0)) none) ++ keys_of names contexts i
  unfolding keys_of
  keys_more i = on (ltb (get_or names i 0) 65536)
    where
      on : (b : Bool) → cond b (key_of (get_or contexts i 0) (get_or names i 0) ∷ keys_of names contexts i) (keys_of names contexts i)
          ≡ keys_in (get_or contexts i 0) (cond b (some (get_or names i 0)) none) ++ keys_of names contexts i
      on true = refl
      on false = refl

  module _ (k m : ℕ) where
    abbrev pub seen : (limit : ℕ) → Bool
    seen limit = is_seen (keys_of names contexts limit) (key_of k m)

    abbrev pub here : (i : ℕ) → Bool
    here i = is_here (get_or names i 0) (get_or contexts i 0) m k

    at_place : (i : ℕ) → seen (suc i) ≡ here i || seen i
    unfolding keys_of is_seen
    at_place i = on (ltb (get_or names i 0) 65536)
      where
        on : (b : Bool) → is_seen (cond b (key_of (get_or contexts i 0) (get_or names i 0) ∷ keys_of names contexts i) (keys_of names contexts i)) (key_of k m)
            ≡ (b && same_key (key_of (get_or contexts i 0) (get_or names i 0)) (key_of k m)) || seen i
        on true = refl
        on false = refl

    from : (i : ℕ) → 0 < i → seen i ≡ here (i - 1) || seen (i - 1)
    from i h = let q : i ≡ suc (i - 1) = omega arith in ap seen q ∙ at_place (i - 1)

    pub seen_here : (i : ℕ) → 0 < i → here (i - 1) ≡ true → seen i ≡ true
    seen_here i h e = from i h ∙ rw e

    pub seen_below : (i : ℕ) → 0 < i → here (i - 1) ≡ false → seen i ≡ seen (i - 1)
    seen_below i h e = from i h ∙ rw e

    pub seen_end : (i : ℕ) → i ≤ 0 → seen i ≡ false
    unfolding keys_of is_seen
    seen_end i h = let q : i ≡ 0 = omega arith in ap seen q

-- a store at j is not seen below j
pub keys_set : (names contexts : List ℕ) (j n i : ℕ) → i ≤ j → keys_of (set names j n) contexts i ≡ keys_of names contexts i
unfolding keys_of
keys_set names contexts j n zero l = refl
keys_set names contexts j n (suc i) l = rw (keys_set names contexts j n i (omega arith), get_or-set_other names j i n 0 (λ e. omega arith))
