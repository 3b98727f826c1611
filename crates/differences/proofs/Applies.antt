-- "Applying the differences to the first gives exactly the second", for every pairing in order.
use mathlib.Core.Path.{◌≡◌, refl, sym, ◌∙◌, ap}
use mathlib.Core.List.{List, [], ◌∷◌, ◌++◌, append-nil}
use mathlib.Core.Option.{Option, some}
use mathlib.Core.Bool.{Bool, true, false, cond}
use Prim.Native.Nat.{ℕ, zero, suc, ◌+◌, ◌-◌, ◌≤◌}
use native.Mathlib.Omega.{arith}
use lib.ListN.{length, get_or, take, drop, take-append-drop, length-drop, drop_of_length-le}
use lib.Seq.{drop-cons, drop-drop, take_all}
use Rattle.laws.specs.Lists.{same}
use Rattle.laws.specs.Options.{given, bind}
use Rattle.laws.proofs.Lists.{same_true, same_refl}
use Rattle.pairing.specs.Pairings.{Frame, Frames, Pair}
use Rattle.differences.specs.Changes.{Change, kept, changed, paired, removed_from, added_from, between, changes_of, taking, onto, apply}
use Rattle.pairing.specs.Promise.{InOrder}
use Rattle.differences.specs.Promise.{GivesSecond}

-- the statement that is mentioned is the next one
taking_own : (f : Frame) (a : Frames) (go : Frames → Option Frames) → taking f (f ∷ a) go ≡ go a
unfolding given
taking_own f a go = rw (same_refl f)

onto_some : (f : Frame) (o : Option Frames) (b : Frames) → o ≡ some b → onto f o ≡ some (f ∷ b)
unfolding bind
onto_some f o b e = rw e

-- a run of removed statements is left out
apply_removed : (a : Frames) (n i : ℕ) (ds : List Change) → i + n ≤ length a
    → apply (removed_from a n i ++ ds) (drop i a) ≡ apply ds (drop (i + n) a)
unfolding removed_from apply
apply_removed a zero i ds l = let z : i + 0 ≡ i = omega arith in rw z
apply_removed a (suc n) i ds l =
    let z : i + suc n ≡ suc i + n = omega arith in
    ap (λ (x : Frames). taking (get_or a i []) x (λ rest. apply (removed_from a n (suc i) ++ ds) rest)) (drop-cons a i [] (omega arith))
    ∙ taking_own (get_or a i []) (drop (suc i) a) (λ rest. apply (removed_from a n (suc i) ++ ds) rest)
    ∙ rw z (apply_removed a n (suc i) ds (omega arith))

-- a run of added ones is put in
apply_added : (b : Frames) (n j : ℕ) (ds : List Change) (xs ys : Frames) → j + n ≤ length b → apply ds xs ≡ some ys
    → apply (added_from b n j ++ ds) xs ≡ some (take n (drop j b) ++ ys)
unfolding added_from apply
apply_added b zero j ds xs ys l e = e
apply_added b (suc n) j ds xs ys l e =
    onto_some (get_or b j []) _ _ (apply_added b n (suc j) ds xs ys (omega arith) e) ∙ rw (drop-cons b j [] (omega arith))

-- a pair gives the second's statement
apply_paired : (i j : ℕ) (x y : Frame) (ds : List Change) (xs ys : Frames) → apply ds xs ≡ some ys
    → apply (paired i j x y ∷ ds) (x ∷ xs) ≡ some (y ∷ ys)
unfolding apply
apply_paired i j x y ds xs ys e = on (same x y) refl
  where
    on : (t : Bool) → same x y ≡ t → apply (cond t (kept i j y) (changed i j x y) ∷ ds) (x ∷ xs) ≡ some (y ∷ ys)
    on true h =
        ap (λ (z : Frame). taking y (z ∷ xs) (λ rest. onto y (apply ds rest))) (same_true x y h) ∙ taking_own y xs
        (λ rest. onto y (apply ds rest)) ∙ onto_some y (apply ds xs) ys e
    on false h = taking_own x xs (λ rest. onto y (apply ds rest)) ∙ onto_some y (apply ds xs) ys e

apply_none : apply [] [] ≡ some []
unfolding apply
apply_none = refl

-- what is left of a list behind a part of it
behind : {A : Type 0} (b : List A) (j k : ℕ) → j ≤ k → drop (k - j) (drop j b) ≡ drop k b
behind b j k l = let z : j + (k - j) ≡ k = omega arith in drop-drop (k - j) j b ∙ ap (λ (n : ℕ). drop n b) z

from_places : (a b : Frames) (i j : ℕ) (ps : List Pair) → InOrder (length a) (length b) i j ps
    → apply (between a b i j ps) (drop i a) ≡ some (drop j b)
unfolding between
from_places a b i j [] h =
    apply_removed a (length a - i) i (added_from b (length b - j) j) (omega (arith, h.0)) ∙ last (drop (i + (length a - i)) a)
    (drop_of_length-le a {i = i + (length a - i)} (omega (arith, h.0)))
  where
    last : (xs : Frames) → xs ≡ [] → apply (added_from b (length b - j) j) xs ≡ some (drop j b)
    last xs e =
        ap (λ (ds : List Change). apply ds xs) (sym (append-nil (added_from b (length b - j) j)))
        ∙ apply_added b (length b - j) j [] xs [] (omega (arith, h.1)) (ap (apply []) e ∙ apply_none)
        ∙ ap some (append-nil (take (length b - j) (drop j b)) ∙ take_all (length b - j) (drop j b) (omega (arith, length-drop j b)))
from_places a b i j (p ∷ ps) h =
    let m : ℕ = p.first in
    let n : ℕ = p.second in
    let rest : List Change = between a b (suc m) (suc n) ps in
    let pr : Change = paired m n (get_or a m []) (get_or b n []) in
    let x : i + (m - i) ≡ m = omega (arith, h.0) in
    let here : drop (i + (m - i)) a ≡ get_or a m [] ∷ drop (suc m) a = ap (λ (k : ℕ). drop k a) x ∙ drop-cons a m [] h.1 in
    let next = apply_paired m n (get_or a m []) (get_or b n []) rest (drop (suc m) a) (drop (suc n) b) (from_places a b (suc m) (suc n) ps
    h.4) in
    let whole : get_or b n [] ∷ drop (suc n) b ≡ drop (n - j) (drop j b) = sym (drop-cons b n [] h.3) ∙ sym (behind b j n h.2) in
    apply_removed a (m - i) i (added_from b (n - j) j ++ (pr ∷ rest)) (omega (arith, h.0, h.1))
    ∙ apply_added b (n - j) j (pr ∷ rest) (drop (i + (m - i)) a) (get_or b n [] ∷ drop (suc n) b) (omega (arith, h.2, h.3))
    (ap (apply (pr ∷ rest)) here ∙ next)
    ∙ ap some (ap (λ (s : Frames). take (n - j) (drop j b) ++ s) whole ∙ take-append-drop (n - j) (drop j b))

-- gives-second: every pairing in order
pub gives_second : (a b : Frames) (ps : List Pair) → InOrder (length a) (length b) 0 0 ps → GivesSecond a b ps
unfolding changes_of
gives_second a b ps h = from_places a b 0 0 ps h
