-- The part of a text that the code reads has the lines before statement n, and no other.
use mathlib.Core.Path.{◌≡◌, refl, sym, ap, ◌∙◌}
use mathlib.Core.Bool.{Bool, true, false, cond}
use mathlib.Core.List.{List, [], ◌∷◌}
use Prim.Native.Nat.{ℕ, zero, suc, ◌+◌, ◌≤◌, ◌<◌}
use native.Mathlib.Omega.{arith}
use lib.Dec.{eqb}
use lib.ListN.{length, get_or, take, drop, length-drop}
use lib.Seq.{drop-cons, take_all}
use borrow.Author.Tests.{eqb-true, ne_eqb}
use Rattle.laws.specs.Lists.{same}
use Rattle.laws.proofs.Tests.{and_true}
use Rattle.rules.specs.Listing.{Line, onto_line, lines_of, old_form, new_form, is_mark, form_in}
use Rattle.listing.specs.Form.{form_of, is_marked}
use Rattle.listing.proofs.Forms.{mark_form, marked_long}
use Rattle.sits.specs.Before.{lines_length, length_before}
use Rattle.sits.specs.Sits.{lines_before}

-- ---- n lines from where the text begins

pub lines_within : (n : ℕ) (t : List ℕ) → lines_length n t ≤ length t
unfolding lines_length
lines_within n [] = omega arith
lines_within zero (c ∷ t) = omega arith
lines_within (suc n) (c ∷ t) = on (eqb c 10) (lines_within n t) (lines_within (suc n) t)
  where
    on : (b : Bool) → lines_length n t ≤ length t → lines_length (suc n) t ≤ length t
        → suc (cond b (lines_length n t) (lines_length (suc n) t)) ≤ suc (length t)
    on true h k = omega arith
    on false h k = omega arith

pub lines_part : (n : ℕ) (t : List ℕ) → lines_of (take (lines_length n t) t) ≡ take n (lines_of t)
unfolding lines_length lines_of
lines_part zero [] = refl
lines_part (suc n) [] = refl
lines_part zero (c ∷ t) = refl
lines_part (suc n) (c ∷ t) = on (eqb c 10) refl (lines_part n t) (lines_part (suc n) t)
  where
    onto : (ls : List Line) → onto_line c (take (suc n) ls) ≡ take (suc n) (onto_line c ls)
    onto [] = ap (λ (ls : List Line). record { chars = c ∷ []; ended = false } ∷ ls) (sym (take_all n [] (omega arith)))
    onto (l ∷ ls) = refl

    on : (b : Bool) → eqb c 10 ≡ b → lines_of (take (lines_length n t) t) ≡ take n (lines_of t)
        → lines_of (take (lines_length (suc n) t) t) ≡ take (suc n) (lines_of t)
        → lines_of (c ∷ take (cond b (lines_length n t) (lines_length (suc n) t)) t)
        ≡ take (suc n) (cond b (record { chars = []; ended = true } ∷ lines_of t) (onto_line c (lines_of t)))
    on true e h k = rw (e, h)
    on false e h k = rw (e, k) (onto (lines_of t))

-- ---- one byte after the other

pub lines_end : (n : ℕ) (t : List ℕ) (i : ℕ) → length t ≤ i → lines_length n (drop i t) ≡ 0
lines_end n t i h = omega (arith, lines_within n (drop i t), length-drop i t)

pub lines_none : (t : List ℕ) → lines_length 0 t ≡ 0
unfolding lines_length
lines_none [] = refl
lines_none (c ∷ t) = refl

-- at byte i, where some lines are still to pass: a line feed ends one of them
module _ (t : List ℕ) (i : ℕ) (h : i < length t) where
  pub lines_feed : (m : ℕ) → get_or t i 0 ≡ 10 → lines_length (suc m) (drop i t) ≡ suc (lines_length m (drop (suc i) t))
  unfolding lines_length
  lines_feed m e = rw (drop-cons t i 0 h, e)

  pub lines_more : (m : ℕ) → (get_or t i 0 ≡ 10 → ⊥) → lines_length (suc m) (drop i t) ≡ suc (lines_length (suc m) (drop (suc i) t))
  unfolding lines_length
  lines_more m e = rw (drop-cons t i 0 h, ne_eqb (get_or t i 0) 10 e)

-- ---- with the line that marks the form

pub before_none : (n : ℕ) (t : List ℕ) → n ≡ 0 → length_before n t ≡ 0
unfolding length_before
before_none zero t z = refl
before_none (suc n) t z = absurd (omega arith)

pub before_marked : (n : ℕ) (t : List ℕ) → (n ≡ 0 → ⊥) → is_marked t ≡ true → length_before n t ≡ 5 + lines_length n (drop 5 t)
unfolding length_before
before_marked zero t z e = absurd (z refl)
before_marked (suc n) t z e = rw e

pub before_unmarked : (n : ℕ) (t : List ℕ) → (n ≡ 0 → ⊥) → is_marked t ≡ false → length_before n t ≡ lines_length n t
unfolding length_before
before_unmarked zero t z e = absurd (z refl)
before_unmarked (suc n) t z e = rw e

pub before_within : (n : ℕ) (t : List ℕ) → length_before n t ≤ length t
unfolding length_before
before_within zero t = omega arith
before_within (suc n) t = on (is_marked t) refl
  where
    on : (b : Bool) → is_marked t ≡ b → cond b (5 + lines_length (suc n) (drop 5 t)) (lines_length (suc n) t) ≤ length t
    on true e = omega (arith, marked_long t e, lines_within (suc n) (drop 5 t), length-drop 5 t)
    on false e = lines_within (suc n) t

-- the mark, and what comes behind it
marked_is : (t : List ℕ) → is_marked t ≡ true → t ≡ 55 ∷ 68 ∷ 48 ∷ 50 ∷ 10 ∷ drop 5 t
unfolding is_marked
marked_is [] e = absurd (omega (arith, marked_long [] e))
marked_is (a ∷ []) e = absurd (omega (arith, marked_long (a ∷ []) e))
marked_is (a ∷ b ∷ []) e = absurd (omega (arith, marked_long (a ∷ b ∷ []) e))
marked_is (a ∷ b ∷ c ∷ []) e = absurd (omega (arith, marked_long (a ∷ b ∷ c ∷ []) e))
marked_is (a ∷ b ∷ c ∷ d ∷ []) e = absurd (omega (arith, marked_long (a ∷ b ∷ c ∷ d ∷ []) e))
marked_is (a ∷ b ∷ c ∷ d ∷ f ∷ t) e =
    let g = and_true (eqb a 55) _ e in
    let h = and_true (eqb b 68) _ g.1 in
    let k = and_true (eqb c 48) _ h.1 in
    let l = and_true (eqb d 50) (eqb f 10) k.1 in
    rw (eqb-true a 55 g.0, eqb-true b 68 h.0, eqb-true c 48 k.0, eqb-true d 50 l.0, eqb-true f 10 l.1)

behind_mark : (n : ℕ) (s : List ℕ) → lines_of (55 ∷ 68 ∷ 48 ∷ 50 ∷ 10 ∷ take (lines_length (suc n) s) s)
    ≡ lines_before (suc n) (lines_of (55 ∷ 68 ∷ 48 ∷ 50 ∷ 10 ∷ s))
unfolding lines_of lines_before same
behind_mark n s = rw (lines_part (suc n) s)

take_five : (k : ℕ) (s : List ℕ) → take (5 + k) (55 ∷ 68 ∷ 48 ∷ 50 ∷ 10 ∷ s) ≡ 55 ∷ 68 ∷ 48 ∷ 50 ∷ 10 ∷ take k s
take_five k s = let z : 5 + k ≡ suc (suc (suc (suc (suc k)))) = omega arith in rw z

-- no mark: the first n lines
unmarked : (n : ℕ) (ls : List Line) → form_in ls ≡ old_form → lines_before (suc n) ls ≡ take (suc n) ls
unfolding lines_before
unmarked n [] e = refl
unmarked n (l ∷ ls) e = on (is_mark l) e
  where
    on : (b : Bool) → cond b new_form old_form ≡ old_form → cond b (l ∷ take (suc n) ls) (l ∷ take n ls) ≡ l ∷ take n ls
    on true e = absurd (let z : ◌≡◌ {A = ℕ} 0 1 = cc in omega arith)
    on false e = refl

pub before_part : (n : ℕ) (t : List ℕ) → lines_of (take (length_before n t) t) ≡ lines_before n (lines_of t)
unfolding length_before
before_part zero t = unfold lines_of lines_before in refl
before_part (suc n) t = on (is_marked t) refl
  where
    on : (b : Bool) → is_marked t ≡ b → lines_of (take (cond b (5 + lines_length (suc n) (drop 5 t)) (lines_length (suc n) t)) t)
        ≡ lines_before (suc n) (lines_of t)
    on true e =
        let s : List ℕ = drop 5 t in
        let m : t ≡ 55 ∷ 68 ∷ 48 ∷ 50 ∷ 10 ∷ s = marked_is t e in
        ap (λ (u : List ℕ). lines_of (take (5 + lines_length (suc n) s) u)) m
        ∙ ap lines_of (take_five (lines_length (suc n) s) s) ∙ behind_mark n s ∙ ap (λ (u : List ℕ). lines_before (suc n) (lines_of u)) (sym m)
    on false e = lines_part (suc n) t ∙ sym (unmarked n (lines_of t) (mark_form t ∙ ap form_of e))
