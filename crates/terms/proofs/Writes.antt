-- Texts put one behind the other.
use mathlib.Core.Path.{◌≡◌, refl, sym, ap, ◌∙◌, subst}
use mathlib.Core.Logic.{⊎_elim}
use mathlib.Core.List.{List, [], ◌∷◌, ◌++◌, append_assoc, append-nil}
use mathlib.Core.Bool.{Bool, true, false, cond}
use Prim.Native.Nat.{ℕ, zero, suc, ◌+◌, ◌-◌, ◌/◌, ◌%◌, ◌≤◌, ◌<◌}
use native.Mathlib.Numerals.{add-one}
use native.Mathlib.Omega.{arith}
use lib.ListN.{length, get_or, drop, take, set, length-set, length-append}
use lib.Seq.{take-suc-set}
use lib.Dec.{ltb, eqb}
use lib.IntN.{pos, negsuc}
use mir.Syntax.{w32}
use mir.Val.{to_z}
use borrow.Author.Tests.{lt-ltb, le-ltb, eq-eqb, ne_eqb}
use Rattle.laws.proofs.Tests.{lt_or_le, cond_true, cond_false}
use Rattle.laws.proofs.Stores.{rest_is}
use Rattle.text.specs.Text.{digits_of, five, name_text, number}
use Rattle.text.specs.Words.{said}
use Rattle.terms.specs.Writing.{Wrote, Digited}

pub wrote_over : (b : List ℕ) (at c : ℕ) → length b ≡ 1024 → 1023 < at → Wrote b b at (c ∷ []) 1025
wrote_over b at c s h =
    record { size = s; within = omega arith; ends = λ k. absurd (omega arith); stands = λ k. absurd (omega arith); over = λ k. omega arith }

pub wrote_one : (b : List ℕ) (at c : ℕ) → length b ≡ 1024 → at ≤ 1023 → Wrote b (set b at c) at (c ∷ []) (at + 1)
wrote_one b at c s h =
    record {
      size = length-set b at c ∙ s;
      within = omega arith;
      ends = λ k. refl;
      stands = λ k. ap (λ m. take m (set b at c)) (add-one at) ∙ take-suc-set b at c (omega arith);
      over = λ k. absurd (omega arith);
    }

pub wrote_none : (b : List ℕ) (at : ℕ) → length b ≡ 1024 → at ≤ 1025 → Wrote b b at [] at
wrote_none b at s h =
    record { size = s; within = h; ends = λ k. omega arith; stands = λ k. sym (append-nil (take at b)); over = λ k. omega arith }

-- one text, then another
pub wrote_then : {b a₀ a₁ x y : List ℕ} {at to end : ℕ} → Wrote b a₀ at x to → Wrote a₀ a₁ to y end → Wrote b a₁ at (x ++ y) end
wrote_then {b} {a₀} {a₁} {x} {y} {at} {to} {end} p q =
    let l = length-append x y in
    record {
      size = q.size;
      within = q.within;
      ends = λ h. let e = q.ends h in omega (arith, l, p.ends (omega arith));
      stands =
          λ h.
          let e = q.ends h in q.stands h ∙ ap (λ z. z ++ y) (p.stands (omega arith)) ∙ append_assoc (take at b) x y;
      over =
          λ h.
          let k = q.over h in ⊎_elim (λ u. omega (arith, l, p.over u)) (λ u. omega (arith, l, p.ends u)) (lt_or_le 1024 to);
    }

pub same_text : {b a x y : List ℕ} {at to : ℕ} → x ≡ y → Wrote b a at x to → Wrote b a at y to
same_text {b = b} {a = a} {at = at} {to = to} e p = subst (λ z. Wrote b a at z to) e p

-- a byte, then a text
pub wrote_step : {b a₀ a₁ y : List ℕ} {at to end c d : ℕ} → c ≡ d → Wrote b a₀ at (c ∷ []) to → Wrote a₀ a₁ to y end
    → Wrote b a₁ at (d ∷ y) end
wrote_step e p q = wrote_then (same_text (ap (λ z. z ∷ []) e) p) q

pub wrote_if : {b a : List ℕ} {at to c : ℕ} (w : Bool) → w ≡ true → Wrote b a at (c ∷ []) to → Wrote b a at (cond w (c ∷ []) []) to
wrote_if {c = c} w e p = same_text (ap (λ z. cond z (c ∷ []) []) (sym e)) p

pub wrote_if_not : (b : List ℕ) (at c : ℕ) (w : Bool) → w ≡ false → length b ≡ 1024 → at ≤ 1025 → Wrote b b at (cond w (c ∷ []) []) at
wrote_if_not b at c w e s h = same_text (ap (λ z. cond z (c ∷ []) []) (sym e)) (wrote_none b at s h)

-- ---- numbers and names

pub few_digits : {b a : List ℕ} {at to c : ℕ} (n : ℕ) → n < 10 → c ≡ 48 + n → Wrote b a at (c ∷ []) to → Digited b a at n to
unfolding digits_of
few_digits n h e p = λ k l. same_text (ap (λ z. z ∷ []) e
    ∙ sym (cond_true (ltb n 10) ((48 + n) ∷ []) (digits_of k (n / 10) ++ ((48 + n % 10) ∷ [])) (lt-ltb n 10 h))) p

pub more_digits : {b a₀ a₁ : List ℕ} {at mid to c : ℕ} (n : ℕ) → 10 ≤ n → Digited b a₀ at (n / 10) mid → c ≡ 48 + n % 10
    → Wrote a₀ a₁ mid (c ∷ []) to → Digited b a₁ at n to
unfolding digits_of
more_digits {b} {a₀} {a₁} {at} {mid} {to} {c} n h d e p = on
  where
    on : Digited b a₁ at n to
    on zero l = absurd (omega arith)
    on (suc k) l =
        same_text (sym (cond_false (ltb n 10) ((48 + n) ∷ []) (digits_of (suc k) (n / 10) ++ ((48 + n % 10) ∷ [])) (le-ltb n 10 h)))
        (wrote_then (d k (omega arith)) (same_text (ap (λ z. z ∷ []) e) p))

pub name_global : {b a : List ℕ} {at to : ℕ} (n : ℕ) → n < 0x8000 → Wrote b a at (103 ∷ five n) to → Wrote b a at (name_text n) to
name_global n h p = same_text (sym (cond_true (ltb n 0x8000) (103 ∷ five n) (46 ∷ 108 ∷ five (n - 0x8000)) (lt-ltb n 0x8000 h))) p

pub name_local : {b a : List ℕ} {at to : ℕ} (n : ℕ) → 0x8000 ≤ n → Wrote b a at (46 ∷ 108 ∷ five (n - 0x8000)) to
    → Wrote b a at (name_text n) to
name_local n h p = same_text (sym (cond_false (ltb n 0x8000) (103 ∷ five n) (46 ∷ 108 ∷ five (n - 0x8000)) (le-ltb n 0x8000 h))) p

pub number_plain : {b a : List ℕ} {at to : ℕ} (n : ℕ) → n < 2147483648 → Digited b a at n to → Wrote b a at (number (to_z w32 n)) to
number_plain n h d =
    let z : to_z w32 n ≡ pos n = rw (lt-ltb n 2147483648 h) in
    same_text (ap number (sym z)) (d 9 (omega arith))

pub number_minus : {b a₀ a₁ : List ℕ} {at mid to : ℕ} (n : ℕ) → 2147483648 ≤ n → n < 4294967296 → Wrote b a₀ at (45 ∷ []) mid
    → Digited a₀ a₁ mid (4294967296 - n) to
    → Wrote b a₁ at (number (to_z w32 n)) to
number_minus n h k p d =
    let z : to_z w32 n ≡ negsuc (4294967296 - suc n) = rw (le-ltb n 2147483648 h) in
    let q : suc (4294967296 - suc n) ≡ 4294967296 - n = omega arith in
    same_text (ap (λ y. 45 ∷ digits_of 10 y) (sym q) ∙ ap number (sym z)) (wrote_then p (d 9 (omega arith)))

-- ---- words, up to their first space

pub no_word : (b s : List ℕ) (at : ℕ) → length s < 1 → length b ≡ 1024 → at ≤ 1025 → Wrote b b at (said s) at
unfolding said
no_word b [] at h z m = wrote_none b at z m
no_word b (c ∷ s) at h z m = absurd (omega arith)

pub word_ends : (b s : List ℕ) (at : ℕ) → 1 ≤ length s → get_or s 0 0 ≡ 32 → length b ≡ 1024 → at ≤ 1025 → Wrote b b at (said s) at
unfolding said
word_ends b [] at h e z m = absurd (omega arith)
word_ends b (c ∷ s) at h e z m = same_text (sym (cond_true (eqb c 32) [] (c ∷ said s) (eq-eqb c 32 e))) (wrote_none b at z m)

pub more_word : {b a₀ a₁ : List ℕ} {at mid to : ℕ} (s : List ℕ) → 1 ≤ length s → (get_or s 0 0 ≡ 32 → ⊥)
    → Wrote b a₀ at (get_or s 0 0 ∷ []) mid
    → Wrote a₀ a₁ mid (said (take (length s - 1) (drop 1 s))) to → Wrote b a₁ at (said s) to
unfolding said
more_word [] h n p q = absurd (omega arith)
more_word (c ∷ s) h n p q =
    same_text (sym (cond_false (eqb c 32) [] (c ∷ said s) (ne_eqb c 32 n))) (wrote_then p (same_text (ap said (rest_is 1 (c ∷ s))) q))
