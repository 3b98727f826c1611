-- Under the places that the slots left over stem from, the differences are one for each slot: removed where it is gone, a pair where it is not.
use mathlib.Core.Path.{◌≡◌, refl, ap, ◌∙◌}
use mathlib.Core.List.{List, [], ◌∷◌, ◌++◌, append_assoc}
use mathlib.Core.Bool.{Bool, true, false, cond}
use Prim.Native.Nat.{ℕ, zero, suc, ◌+◌, ◌-◌, ◌≤◌, ◌<◌}
use native.Mathlib.Omega.{arith}
use lib.ListN.{length, get_or}
use Rattle.rules.specs.Programs.{Placeℕ, Program, at, is_gone}
use Rattle.rules.specs.Output.{compact, stems_from, stems}
use Rattle.promises.proofs.Ranks.{rank}
use Rattle.pairing.specs.Pairings.{Frames, pairs_from}
use Rattle.differences.specs.Changes.{Change, removed, paired, removed_from, added_from, between, changes_of}

unfoldable pub slot_changes : (a b : Frames) (i j : Placeℕ) → Program → List Change
slot_changes a b i j [] = []
slot_changes a b i j (s ∷ q) =
    cond (is_gone s) (removed i (get_or a i []) ∷ slot_changes a b (suc i) j q)
    (paired i j (get_or a i []) (get_or b j []) ∷ slot_changes a b (suc i) (suc j) q)

-- one more that is removed
removed_more : (a : Frames) (n : ℕ) (i : Placeℕ) → removed_from a (suc n) i ≡ removed_from a n i ++ (removed (i + n) (get_or a (i + n) []) ∷ [])
unfolding removed_from
removed_more a zero i = let z : i + 0 ≡ i = omega arith in rw z
removed_more a (suc n) i =
    let z : suc i + n ≡ i + suc n = omega arith in
    ap (λ (ds : List Change). removed i (get_or a i []) ∷ ds) (removed_more a n (suc i) ∙ rw z)

-- the slots from i on, of which those from k up to i are gone and not yet said
slots_from : (a b : Frames) (k i j : Placeℕ) (q : Program) → k ≤ i → i + length q ≡ length a → j + length (compact q) ≡ length b
    → between a b k j (pairs_from j (stems_from i q)) ≡ removed_from a (i - k) k ++ slot_changes a b i j q
unfolding between pairs_from stems_from compact slot_changes
slots_from a b k i j [] h n m =
    let x : length a - k ≡ i - k = omega arith in
    let y : length b - j ≡ 0 = omega arith in
    rw (x, y) (unfold added_from in refl)
slots_from a b k i j (s ∷ q) h n m = on (is_gone s) m (slots_from a b k (suc i) j q (omega arith) (omega arith)) (slots_from a b (suc i) (suc i) (suc j) q (omega arith) (omega arith))
  where
    on : (t : Bool) → j + length (cond t (compact q) (s ∷ compact q)) ≡ length b
        → (j + length (compact q) ≡ length b → between a b k j (pairs_from j (stems_from (suc i) q)) ≡ removed_from a (suc i - k) k ++ slot_changes a b (suc i) j q)
        → (suc j + length (compact q) ≡ length b
        → between a b (suc i) (suc j) (pairs_from (suc j) (stems_from (suc i) q)) ≡ removed_from a (suc i - suc i) (suc i) ++ slot_changes a b (suc i) (suc j) q)
        → between a b k j (pairs_from j (cond t (stems_from (suc i) q) (i ∷ stems_from (suc i) q)))
        ≡ removed_from a (i - k) k
        ++ cond t (removed i (get_or a i []) ∷ slot_changes a b (suc i) j q) (paired i j (get_or a i []) (get_or b j []) ∷ slot_changes a b (suc i) (suc j) q)
    on true l u v =
        let x : suc i - k ≡ suc (i - k) = omega arith in
        let y : k + (i - k) ≡ i = omega arith in
        u l ∙ rw (x, removed_more a (i - k) k, y) (append_assoc (removed_from a (i - k) k) (removed i (get_or a i []) ∷ []) (slot_changes a b (suc i) j q))
    on false l u v =
        let x : suc i - suc i ≡ 0 = omega arith in
        let y : j - j ≡ 0 = omega arith in
        let rest : between a b (suc i) (suc j) (pairs_from (suc j) (stems_from (suc i) q)) ≡ slot_changes a b (suc i) (suc j) q = v (omega arith) ∙ rw x (unfold removed_from in refl) in
        unfold between pairs_from in rw (y, rest) (unfold added_from in refl)

pub slot_by_slot : (a b : Frames) (q : Program) → length q ≡ length a → length (compact q) ≡ length b
    → changes_of a b (pairs_from 0 (stems q)) ≡ slot_changes a b 0 0 q
unfolding changes_of stems
slot_by_slot a b q n m = slots_from a b 0 0 0 q (omega arith) (omega arith) (omega arith) ∙ (unfold removed_from in refl)

pub slots_many : (a b : Frames) (i j : Placeℕ) (q : Program) → length (slot_changes a b i j q) ≡ length q
unfolding slot_changes
slots_many a b i j [] = refl
slots_many a b i j (s ∷ q) = on (is_gone s) (slots_many a b (suc i) j q) (slots_many a b (suc i) (suc j) q)
  where
    on : (t : Bool) → length (slot_changes a b (suc i) j q) ≡ length q → length (slot_changes a b (suc i) (suc j) q) ≡ length q
        → length
        (cond t (removed i (get_or a i []) ∷ slot_changes a b (suc i) j q)
        (paired i j (get_or a i []) (get_or b j []) ∷ slot_changes a b (suc i) (suc j) q)) ≡ suc (length q)
    on true u v = ap suc u
    on false u v = ap suc v

-- what is said of slot k: it is removed, or paired with the statement that stems from it
pub slot_at : (a b : Frames) (i j : Placeℕ) (q : Program) (k : Placeℕ) (d : Change) → k < length q
    → get_or (slot_changes a b i j q) k d
    ≡ cond (is_gone (at q k)) (removed (i + k) (get_or a (i + k) [])) (paired (i + k) (j + rank q k) (get_or a (i + k) []) (get_or b (j + rank q k) []))
unfolding slot_changes
slot_at a b i j [] k d h = absurd (omega arith)
slot_at a b i j (s ∷ q) zero d h = let x : i + 0 ≡ i = omega arith in let y : j + 0 ≡ j = omega arith in rw (x, y) (on (is_gone s))
  where
    on : (t : Bool) → get_or (cond t (removed i (get_or a i []) ∷ slot_changes a b (suc i) j q) (paired i j (get_or a i []) (get_or b j []) ∷ slot_changes a b (suc i) (suc j) q)) 0 d
        ≡ cond t (removed i (get_or a i [])) (paired i j (get_or a i []) (get_or b j []))
    on true = refl
    on false = refl
slot_at a b i j (s ∷ q) (suc k) d h =
    let x : suc i + k ≡ i + suc k = omega arith in
    rw (← x) (on (is_gone s) (slot_at a b (suc i) j q k d (omega arith)) (slot_at a b (suc i) (suc j) q k d (omega arith)))
  where
    says : Placeℕ → Change
    says r = cond (is_gone (at q k)) (removed (suc i + k) (get_or a (suc i + k) [])) (paired (suc i + k) r (get_or a (suc i + k) []) (get_or b r []))

    on : (t : Bool) → get_or (slot_changes a b (suc i) j q) k d ≡ says (j + rank q k) → get_or (slot_changes a b (suc i) (suc j) q) k d ≡ says (suc j + rank q k)
        → get_or (cond t (removed i (get_or a i []) ∷ slot_changes a b (suc i) j q) (paired i j (get_or a i []) (get_or b j []) ∷ slot_changes a b (suc i) (suc j) q)) (suc k) d
        ≡ says (j + cond t (rank q k) (suc (rank q k)))
    on true u v = u
    on false u v = let y : suc j + rank q k ≡ j + suc (rank q k) = omega arith in v ∙ ap says y
