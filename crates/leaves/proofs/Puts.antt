-- Bytes put behind those that stand in the room, and an operator put in front of its operands. Assumes nothing.
use mathlib.Core.Path.{◌≡◌, refl, sym, ap, ◌∙◌}
use mathlib.Core.Logic.{◌⊎◌, inl, inr, ⊎_elim}
use mathlib.Core.List.{List, [], ◌∷◌, ◌++◌, append_assoc, append-nil}
use mathlib.Core.Bool.{Bool, true, false}
use lib.Dec.{leb}
use borrow.Author.Tests.{leb-true, leb-false}
use Prim.Native.Nat.{ℕ, suc, ◌+◌, ◌-◌, ◌≤◌, ◌<◌}
use native.Mathlib.Numerals.{add-one}
use native.Mathlib.Omega.{arith}
use lib.ListN.{length, take, drop, set, length-set, length-append, length-drop}
use lib.Seq.{take-suc-set, take-set-lt, take-take, length-take-le, set_split, take_at, drop_at, length-paste}
use borrow.Rule.Slice.PartMut.{put_mid, same_len_mid}
use Rattle.std.specs.List.{copy_within}
use Rattle.std.proofs.lemmas.Slice.{take-put_mid}
use Rattle.std.proofs.lemmas.List.{take-append-le, drop-take}
use Rattle.leaves.specs.Answering.{Put, Inserted}

le_or_lt : (a b : ℕ) → (a ≤ b) ⊎ (b < a)
le_or_lt a b = on (leb a b) refl
  where
    on : (t : Bool) → leb a b ≡ t → (a ≤ b) ⊎ (b < a)
    on true e = inl (leb-true a b e)
    on false e = inr (leb-false a b e)

-- one more byte behind the first n
pub put_one : (b a x : List ℕ) (at n v : ℕ) → n < length a → take n a ≡ take at b ++ x
    → take (n + 1) (set a n v) ≡ take at b ++ (x ++ (v ∷ []))
put_one b a x at n v h e =
    ap (λ m. take m (set a n v)) (add-one n) ∙ take-suc-set a n v h ∙ ap (λ y. y ++ (v ∷ [])) e ∙ append_assoc (take at b) x (v ∷ [])

pub too_long : (b a e : List ℕ) (at : ℕ) → length a ≡ 32 → 32 < at + length e → Put b a at e 33
too_long b a e at s h =
    record { size = s; within = omega arith; ends = λ k. absurd (omega arith); stands = λ k. absurd (omega arith); over = λ k. h }

pub fits : (b a e : List ℕ) (at to : ℕ) → length a ≡ 32 → to ≤ 32 → to ≡ at + length e → take to a ≡ take at b ++ e → Put b a at e to
fits b a e at to s h k q = record { size = s; within = omega arith; ends = λ z. k; stands = λ z. q; over = λ z. absurd (omega arith) }

-- three and five bytes stored one behind the other
pub put_three : (b : List ℕ) (at x y z : ℕ) → at + 3 ≤ length b
    → take (at + 3) (set (set (set b at x) (at + 1) y) (at + 2) z) ≡ take at b ++ (x ∷ y ∷ z ∷ [])
put_three b at x y z h =
    let b1 = set b at x in
    let b2 = set b1 (at + 1) y in
    let l1 : length b1 ≡ length b = length-set b at x in
    let l2 : length b2 ≡ length b1 = length-set b1 (at + 1) y in
    let s0 : take at b ≡ take at b ++ [] = sym (append-nil (take at b)) in
    let s1 : take (at + 1) b1 ≡ take at b ++ (x ∷ []) = put_one b b [] at at x (omega arith) s0 in
    let s2 : take (at + 1 + 1) b2 ≡ take at b ++ (x ∷ y ∷ []) = put_one b b1 (x ∷ []) at (at + 1) y (omega arith) s1 in
    let e2 : at + 1 + 1 ≡ at + 2 = omega arith in
    let s3 : take (at + 2 + 1) (set b2 (at + 2) z) ≡ take at b ++ (x ∷ y ∷ z ∷ []) =
    put_one b b2 (x ∷ y ∷ []) at (at + 2) z (omega arith) (ap (λ n. take n b2) (sym e2) ∙ s2) in
    let e3 : at + 3 ≡ at + 2 + 1 = omega arith in
    ap (λ n. take n (set b2 (at + 2) z)) e3 ∙ s3

pub put_five : (b : List ℕ) (at v x y z w : ℕ) → at + 5 ≤ length b
    → take (at + 5) (set (set (set (set (set b at v) (at + 1) x) (at + 2) y) (at + 3) z) (at + 4) w) ≡ take at b ++ (v ∷ x ∷ y ∷ z ∷ w ∷ [])
put_five b at v x y z w h =
    let b1 = set b at v in
    let b2 = set b1 (at + 1) x in
    let b3 = set b2 (at + 2) y in
    let b4 = set b3 (at + 3) z in
    let l1 : length b1 ≡ length b = length-set b at v in
    let l2 : length b2 ≡ length b1 = length-set b1 (at + 1) x in
    let l3 : length b3 ≡ length b2 = length-set b2 (at + 2) y in
    let l4 : length b4 ≡ length b3 = length-set b3 (at + 3) z in
    let s3 : take (at + 3) b3 ≡ take at b ++ (v ∷ x ∷ y ∷ []) = put_three b at v x y (omega arith) in
    let s4 : take (at + 3 + 1) b4 ≡ take at b ++ (v ∷ x ∷ y ∷ z ∷ []) = put_one b b3 (v ∷ x ∷ y ∷ []) at (at + 3) z (omega arith) s3 in
    let e4 : at + 3 + 1 ≡ at + 4 = omega arith in
    let s5 : take (at + 4 + 1) (set b4 (at + 4) w) ≡ take at b ++ (v ∷ x ∷ y ∷ z ∷ w ∷ []) =
    put_one b b4 (v ∷ x ∷ y ∷ z ∷ []) at (at + 4) w (omega arith) (ap (λ n. take n b4) (sym e4) ∙ s4) in
    let e5 : at + 5 ≡ at + 4 + 1 = omega arith in
    ap (λ n. take n (set b4 (at + 4) w)) e5 ∙ s5

-- a byte and, behind it, a piece copied into its part of the room
pub put_behind : (b x y : List ℕ) (at v k to : ℕ) → length b ≡ 32 → y ≡ x → length x ≡ k → to ≡ at + 1 + k → to ≤ 32
    → Put b (put_mid (at + 1) (to - (at + 1)) (set b at v) y) at (v ∷ x) to
put_behind b x y at v k to s q l e h =
    let d : List ℕ = set b at v in
    let n : to - (at + 1) ≡ k = omega arith in
    let z : length d ≡ 32 = length-set b at v ∙ s in
    let ly : length y ≡ k = ap (λ (t : List ℕ). length t) q ∙ l in
    let m : length (take (to - (at + 1)) (drop (at + 1) d)) ≡ k =
    length-take-le (to - (at + 1)) (drop (at + 1) d) (omega (arith, length-drop (at + 1) d)) ∙ n in
    let one : take (at + 1) d ≡ take at b ++ (v ∷ []) = ap (λ j. take j d) (add-one at) ∙ take-suc-set b at v (omega arith) in
    fits b (put_mid (at + 1) (to - (at + 1)) d y) (v ∷ x) at to (same_len_mid (at + 1) (to - (at + 1)) d y (ly ∙ sym m) ∙ z) h
    (omega arith)
    (take-put_mid (at + 1) (to - (at + 1)) d y to (omega arith) (omega arith) ∙ rw (one, q, append_assoc (take at b) (v ∷ []) x))

-- ---- an operator in front of its operands

-- b is now a, where the bytes from i to `end` have moved up by one
pub record Moved (b a : List ℕ) (end i : ℕ) : Type 0 where
  pub size : length a ≡ length b
  pub below : take i a ≡ take i b
  pub above : drop (i + 1) (take (end + 1) a) ≡ drop i (take end b)

-- moved by the library
pub moved_within : (b a : List ℕ) (end i : ℕ) → i ≤ end → end < length b → a ≡ copy_within b i end (i + 1) → Moved b a end i
moved_within b a end i h k e =
    let p : List ℕ = take (i + 1) b in
    let q : List ℕ = take (end - i) (drop i b) in
    let r : List ℕ = drop (i + 1 + (end - i)) b in
    let lp : length p ≡ i + 1 = length-take-le (i + 1) b (omega arith) in
    let lq : length q ≡ end - i = length-take-le (end - i) (drop i b) (omega (arith, length-drop i b)) in
    let z : i + (end - i) ≡ end = omega arith in
    let lx : length (p ++ q) ≡ end + 1 = omega (arith, length-append p q) in
    record {
      size = ap (λ (t : List ℕ). length t) e ∙ length-paste b (i + 1) (drop i b) (end - i) (omega arith) (omega (arith, length-drop i b));
      below =
          ap (take i) e ∙ take-append-le i (p ++ q) r (omega arith) ∙ take-append-le i p q (omega arith)
          ∙ take-take i (i + 1) b (omega arith);
      above =
          ap (λ (t : List ℕ). drop (i + 1) (take (end + 1) t)) e
          ∙ ap (drop (i + 1)) (take_at (p ++ q) r (end + 1) lx)
          ∙ drop_at p q (i + 1) lp
          ∙ sym (drop-take i (end - i) b)
          ∙ ap (λ n. drop i (take n b)) z;
    }

pub moved_put : (b a : List ℕ) (end at code : ℕ) → at ≤ end → end < length b → Moved b a end at
    → take (end + 1) (set a at code) ≡ take at b ++ (code ∷ drop at (take end b))
moved_put b a end at code h k m =
    let t : List ℕ = take (end + 1) a in
    let la : length a ≡ length b = m.size in
    let lt : length t ≡ end + 1 = length-take-le (end + 1) a (omega arith) in
    take-set-lt (end + 1) a at code (omega arith)
    ∙ set_split t at code (omega arith)
    ∙ ap (λ y. y ++ (code ∷ drop (suc at) t)) (take-take at (end + 1) a (omega arith) ∙ m.below)
    ∙ ap (λ y. take at b ++ (code ∷ y)) (ap (λ n. drop n t) (sym (add-one at)) ∙ m.above)

-- an operator and two operands; for a prefix operator the first is empty
pub put_two : (b a₀ a₁ a₂ e d : List ℕ) (at to end code r : ℕ) → length b ≡ 32 → Put b a₀ at e to → Put a₀ a₁ to d end
    → Inserted a₁ a₂ at end code r
    → Put b a₂ at (code ∷ (e ++ d)) r
put_two b a₀ a₁ a₂ e d at to end code r lb p q i =
    record {
      size = i.size;
      within = within;
      ends = λ h. ends h (small h);
      stands = λ h. stands (small h);
      over = over;
    }
  where
    l : length (e ++ d) ≡ length e + length d
    l = length-append e d

    split : (end ≤ 31) ⊎ (31 < end)
    split = le_or_lt end 31

    within : r ≤ 33
    within = ⊎_elim (λ h. omega (arith, i.ends h)) (λ h. omega (arith, i.full h)) split

    small : r ≤ 32 → end ≤ 31
    small h = ⊎_elim (λ k. k) (λ k. absurd (omega (arith, i.full k))) split

    ends : r ≤ 32 → end ≤ 31 → r ≡ at + suc (length (e ++ d))
    ends h k = omega (arith, l, i.ends k, q.ends (omega arith), p.ends (omega (arith, q.ends (omega arith))))

    stands : end ≤ 31 → take r a₂ ≡ take at b ++ (code ∷ (e ++ d))
    stands k =
        let u = q.ends (omega arith) in
        let v = p.ends (omega arith) in
        let lt : length (take at b) ≡ at = length-take-le at b (omega arith) in
        let w : take end a₁ ≡ take at b ++ (e ++ d) = q.stands (omega arith) ∙ ap (λ y. y ++ d) (p.stands (omega arith))
        ∙ append_assoc (take at b) e d in
        i.stands k
        ∙ ap (λ y. y ++ (code ∷ drop at (take end a₁))) (sym (take-take at end a₁ (omega arith)) ∙ ap (take at) w
        ∙ take_at (take at b) (e ++ d) at lt)
        ∙ ap (λ y. take at b ++ (code ∷ y)) (ap (drop at) w ∙ drop_at (take at b) (e ++ d) at lt)

    over : 32 < r → 32 < at + suc (length (e ++ d))
    over h = ⊎_elim (λ k. absurd (omega (arith, i.ends k))) (λ k. far k) split
      where
        first : (to ≤ 32) ⊎ (32 < to)
        first = le_or_lt to 32

        second : (end ≤ 32) ⊎ (32 < end)
        second = le_or_lt end 32

        far : 31 < end → 32 < at + suc (length (e ++ d))
        far k =
            ⊎_elim (λ x. ⊎_elim (λ y. omega (arith, l, p.ends x, q.ends y)) (λ y. omega (arith, l, p.ends x, q.over y)) second)
            (λ x. omega (arith, l, p.over x)) first

pub put_none : (b : List ℕ) (at : ℕ) → length b ≡ 32 → at ≤ 33 → Put b b at [] at
put_none b at l h =
    record { size = l; within = h; ends = λ k. omega arith; stands = λ k. sym (append-nil (take at b)); over = λ k. omega arith }
