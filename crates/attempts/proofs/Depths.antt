-- The table of depths: one more label stored, and what it says of "no inner label with offset 1 or more".
use mathlib.Core.Path.{◌≡◌, refl, sym, ap, ◌∙◌}
use mathlib.Core.List.{List}
use mathlib.Core.Bool.{Bool, true, false, ◌&&◌, not, cond}
use mathlib.Core.Logic.{◌⊎◌, inl, inr}
use Prim.Native.Nat.{ℕ, zero, suc, ◌+◌, ◌≤◌, ◌<◌, max}
use native.Mathlib.Numerals.{add-one}
use native.Mathlib.Omega.{arith}
use lib.Dec.{eqb, leb, ltb}
use lib.ListN.{length, get_or, set, replicate}
use borrow.Author.Tests.{lt-ltb, le-ltb, le-leb, lt-leb, eq-eqb, ne_eqb}
use Rattle.std.specs.Prelude.{Option, None, Some}
use Rattle.laws.specs.Counts.{all_to}
use Rattle.laws.proofs.Tests.{eq_or_not, lt_or_le}
use Rattle.laws.proofs.Stores.{Set, here, there, set_view}
use Rattle.rules.specs.declared.Place.{Place}
use Rattle.rules.specs.Programs.{Placeℕ}
use Rattle.rules.specs.Rewriting.{no_interior_label_at}
use Rattle.slots.specs.Slots.{Slots, program_of, Sound}
use Rattle.patterns.specs.Labels.{label_at, of_label, OwnerIn}
use Rattle.patterns.proofs.InnerLabels.{labels_by}
use Rattle.attempts.specs.Deepest.{depth_of, wanted_of, deepest_to, Deepest}

-- ---- the test

-- not of offset 1 or more in the run right before place i
abbrev passes : (i : Placeℕ) → Option (Place × ℕ) → Bool
passes i l = of_label (λ owner o. not (eqb owner i && leb 1 o)) l

shallow : (o : ℕ) → ltb (depth_of o) 2 ≡ not (leb 1 o)
shallow o = on (lt_or_le o 1)
  where
    on : (o < 1) ⊎ (1 ≤ o) → ltb (depth_of o) 2 ≡ not (leb 1 o)
    on (inl l) = lt-ltb (depth_of o) 2 (omega arith) ∙ sym (ap not (lt-leb 1 o l))
    on (inr l) = le-ltb (depth_of o) 2 (omega arith) ∙ sym (ap not (le-leb 1 o l))

label_passes : (i : Placeℕ) (l : Option (Place × ℕ)) → ltb (wanted_of i l) 2 ≡ passes i l
label_passes i (Some (w, o)) = on (eqb w.0 i)
  where
    on : (b : Bool) → ltb (cond b (depth_of o) 0) 2 ≡ not (b && leb 1 o)
    on true = shallow o
    on false = refl
label_passes i None = refl

max_below : (a b k : ℕ) → ltb (max a b) k ≡ cond (ltb a k) (ltb b k) false
max_below a b k = on (lt_or_le a k) (lt_or_le b k)
  where
    on : (a < k) ⊎ (k ≤ a) → (b < k) ⊎ (k ≤ b) → ltb (max a b) k ≡ cond (ltb a k) (ltb b k) false
    on (inl l) (inl m) = rw (lt-ltb a k l, lt-ltb b k m) (lt-ltb (max a b) k (omega arith))
    on (inl l) (inr m) = rw (lt-ltb a k l, le-ltb b k m) (le-ltb (max a b) k (omega arith))
    on (inr l) m = rw (le-ltb a k l) (le-ltb (max a b) k (omega arith))

all_pass : (t : Slots) (i : Placeℕ) (n : ℕ) → ltb (deepest_to t i n) 2 ≡ all_to (λ j. passes i (label_at t j)) n
unfolding deepest_to all_to
all_pass t i zero = refl
all_pass t i (suc n) =
    max_below (deepest_to t i n) (wanted_of i (label_at t n)) 2 ∙ rw (all_pass t i n, label_passes i (label_at t n))

-- "A replaced instruction may have no inner label with offset 1 or more in the run right before it."
pub deepest_says : (t : Slots) (deepest : List ℕ) → Sound t → Deepest t deepest → (i : Placeℕ) → i < t.count → no_interior_label_at (program_of t) i ≡ ltb (get_or deepest i 0) 2
unfolding no_interior_label_at
deepest_says t deepest s d i l =
    labels_by t s (λ owner o. not (eqb owner i && leb 1 o)) ∙ sym (all_pass t i t.count) ∙ ap (λ (n : ℕ). ltb n 2) (sym (d.is i l))

-- ---- the fill

pub none_yet : (n i : ℕ) → ◌≡◌ {A = ℕ} (get_or (replicate n 0) i 0) 0
none_yet zero i = refl
none_yet (suc n) zero = refl
none_yet (suc n) (suc i) = none_yet n i

pub one_more : (t : Slots) (i n : ℕ) → deepest_to t i (n + 1) ≡ max (deepest_to t i n) (wanted_of i (label_at t n))
unfolding deepest_to
one_more t i n = rw (add-one n)

-- one label stored, where it wants more, and where not
module _ (l : List ℕ) (w v : ℕ) where
  pub deeper : w < length l → get_or l w 0 < v → (i : ℕ) → get_or (set l w v) i 0 ≡ max (get_or l i 0) (cond (eqb w i) v 0)
  deeper h m i = on (set_view l w v i 0 h)
    where
      on : Set l w v i 0 → get_or (set l w v) i 0 ≡ max (get_or l i 0) (cond (eqb w i) v 0)
      on (here e q) = rw (eq-eqb w i (sym e)) (q ∙ omega (arith, m, ap (λ (k : ℕ). get_or l k 0) e))
      on (there n q) = rw (ne_eqb w i (λ e. n (sym e))) (q ∙ omega arith)

  pub not_deeper : v ≤ get_or l w 0 → (i : ℕ) → get_or l i 0 ≡ max (get_or l i 0) (cond (eqb w i) v 0)
  not_deeper m i = on (eq_or_not w i)
    where
      on : (w ≡ i) ⊎ (w ≡ i → ⊥) → get_or l i 0 ≡ max (get_or l i 0) (cond (eqb w i) v 0)
      on (inl e) = rw (eq-eqb w i e) (omega (arith, m, ap (λ (k : ℕ). get_or l k 0) e))
      on (inr n) = rw (ne_eqb w i n) (omega arith)

-- the same, by the label
module _ (l : List ℕ) {x : Option (Place × ℕ)} {w : Place} {o : ℕ} (v : ℕ) (e : x ≡ Some (w, o)) (d : v ≡ depth_of o) where
  wants : (i : ℕ) → max (get_or l i 0) (cond (eqb w.0 i) v 0) ≡ max (get_or l i 0) (wanted_of i x)
  wants i = ap (λ (n : ℕ). max (get_or l i 0) n) (ap (λ (n : ℕ). cond (eqb w.0 i) n 0) d ∙ sym (ap (wanted_of i) e))

  pub stored : w.0 < length l → get_or l w.0 0 < v → (i : ℕ) → get_or (set l w.0 v) i 0 ≡ max (get_or l i 0) (wanted_of i x)
  stored h m i = deeper l w.0 v h m i ∙ wants i

  pub not_stored : v ≤ get_or l w.0 0 → (i : ℕ) → get_or l i 0 ≡ max (get_or l i 0) (wanted_of i x)
  not_stored m i = not_deeper l w.0 v m i ∙ wants i

pub no_label : (l : List ℕ) (x : Option (Place × ℕ)) → x ≡ None → (i : ℕ) → get_or l i 0 ≡ max (get_or l i 0) (wanted_of i x)
no_label l x e i = let z : get_or l i 0 ≡ max (get_or l i 0) 0 = omega arith in z ∙ ap (λ (n : ℕ). max (get_or l i 0) n) (sym (ap (wanted_of i) e))

pub owner_within : (n : ℕ) (l : Option (Place × ℕ)) → n ≤ 1024 → OwnerIn n l → OwnerIn 1024 l
owner_within n (Some (w, o)) h m = omega arith
owner_within n None h m = tt
