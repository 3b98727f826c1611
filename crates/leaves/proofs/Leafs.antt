-- Operands that are numbers and names, as the code reads them. Assumes nothing.
use mathlib.Core.Path.{◌≡◌, refl, sym, ap, ◌∙◌, subst}
use mathlib.Core.List.{List, [], ◌∷◌}
use mathlib.Core.Bool.{Bool, true, false, cond}
use mathlib.Core.Option.{Option, none, some}
use Prim.Native.Nat.{ℕ, zero, suc, ◌+◌, ◌-◌, ◌≤◌, ◌<◌}
use native.Mathlib.Omega.{arith}
use lib.Dec.{eqb}
use lib.IntN.{pos, neg_ℤ}
use lib.ListN.{length, take, drop, length-drop}
use lib.Seq.{drop-drop, take_all}
use mir.Syntax.{w32}
use mir.Val.{of_z}
use borrow.Author.Tests.{ne_eqb, eq-eqb, eqb-true}
use Rattle.std.specs.Prelude.{Err, Result, Ok}
use Rattle.laws.proofs.Tests.{clash, both_ways}
use Rattle.rules.specs.declared.Op1.TheVariants.{Negate}
use Rattle.rules.specs.declared.Op2.{Op2}
use Rattle.rules.specs.declared.Op2.TheVariants.{Plus, Minus, Times, Divide, Xor, And, Or}
use Rattle.rules.specs.Expressions.{Expr, num, name, bytes_of, code2}
use Rattle.grammar.specs.Reading.{is_decimal, look, level_of}
use Rattle.grammar.specs.Going as going
use Rattle.grammar.specs.Going.{Read, got, stuck, on_got, digits, fixed, Class, class_of, leaf, sign, nothing, led_by, led, start_by, start, skip, infix_of, op_at, alone, Goes, leafs, nones}
use Rattle.leaves.specs.Answering.{Valued, Put, Answered, code_of, sign_code, takes, after_of}
use Rattle.grammar.proofs.Classes as classes
use Rattle.grammar.proofs.Classes.{class_is, class_digit}
use Rattle.grammar.proofs.Starts.{start_global, start_local, start_dot}
use Rattle.grammar.proofs.Spaces.{skip_clear}

-- ---- parts of a text

pub rest_is : (k : ℕ) (s : List ℕ) → take (length s - k) (drop k s) ≡ drop k s
rest_is k s = take_all (length s - k) (drop k s) (omega (arith, length-drop k s))

pub drop_plus : (k n : ℕ) (s : List ℕ) → drop n (drop k s) ≡ drop (n + k) s
drop_plus k n s = let e : k + n ≡ n + k = omega arith in drop-drop n k s ∙ ap (λ m. drop m s) e

pub some_byte : (s : List ℕ) (c : ℕ) → look s ≡ suc c → 1 ≤ length s
some_byte [] c e = absurd (omega arith)
some_byte (b ∷ s) c e = omega arith

pub two_bytes : (s : List ℕ) (c : ℕ) → look (drop 1 s) ≡ suc c → 2 ≤ length s
two_bytes [] c e = absurd (omega arith)
two_bytes (a ∷ []) c e = absurd (omega arith)
two_bytes (a ∷ b ∷ s) c e = omega arith

-- ---- how an operand starts

pub plain_starts : (s : List ℕ) → is_decimal (look s) ≡ true → start s ≡ leaf (on_got (λ v. num (pos v)) (digits 2147483647 0 s))
unfolding start
plain_starts [] e = clash (cc)
plain_starts (c ∷ t) e = rw (class_digit c e)

pub minus_starts : (s : List ℕ) → look s ≡ 45 → is_decimal (look (drop 1 s)) ≡ true
    → start s ≡ leaf (on_got (λ v. num (neg_ℤ (pos v))) (digits 2147483648 0 (drop 1 s)))
unfolding start class_of
minus_starts [] e d = absurd (omega arith)
minus_starts (c ∷ t) e d = subst (λ x. start_by (class_of x) x t ≡ leaf (on_got (λ v. num (neg_ℤ (pos v))) (digits 2147483648 0 t))) (sym e)
    (rw d)

pub global_starts : (s : List ℕ) → look s ≡ 103 → start s ≡ leaf (on_got (λ n. name n) (fixed 32767 5 0 (drop 1 s)))
global_starts [] e = absurd (omega arith)
global_starts (c ∷ t) e = ap (λ x. start (x ∷ t)) e ∙ start_global t

pub local_starts : (s : List ℕ) → look s ≡ 46 → look (drop 1 s) ≡ 108
    → start s ≡ leaf (on_got (λ n. name (0x8000 + n)) (fixed 32767 5 0 (drop 2 s)))
local_starts [] e d = absurd (omega arith)
local_starts (c ∷ []) e d = absurd (omega arith)
local_starts (c ∷ b ∷ t) e d = ap (λ x. start (x ∷ b ∷ t)) e ∙ ap (λ x. start (46 ∷ x ∷ t)) d ∙ start_local t

pub dot_starts : (s : List ℕ) → look s ≡ 46 → (look (drop 1 s) ≡ 108 → ⊥) → start s ≡ leaf (stuck (drop 1 s))
dot_starts [] e d = absurd (omega arith)
dot_starts (c ∷ t) e d = ap (λ x. start (x ∷ t)) e ∙ start_dot t (ne_eqb (look t) 108 d)

-- the byte of a sign

pub sign_upper : (s : List ℕ) → look s ≡ 62 → sign_code (led s) ≡ 0x21
unfolding led class_of
sign_upper [] e = absurd (omega arith)
sign_upper (c ∷ t) e = ap (λ x. sign_code (led (x ∷ t))) e

pub sign_lower : (s : List ℕ) → look s ≡ 60 → sign_code (led s) ≡ 0x22
unfolding led class_of
sign_lower [] e = absurd (omega arith)
sign_lower (c ∷ t) e = ap (λ x. sign_code (led (x ∷ t))) e

pub sign_minus : (s : List ℕ) (b : Bool) → look s ≡ 45 → is_decimal (look (drop 1 s)) ≡ b → sign_code (led s) ≡ cond b 0 0x20
unfolding led class_of
sign_minus [] b e d = absurd (omega arith)
sign_minus (c ∷ t) true e d = ap (λ x. sign_code (led (x ∷ t))) e ∙ rw d
sign_minus (c ∷ t) false e d = ap (λ x. sign_code (led (x ∷ t))) e ∙ rw d

pub sign_none : (s : List ℕ) → (look s ≡ 62 → ⊥) → (look s ≡ 60 → ⊥) → (look s ≡ 45 → ⊥) → sign_code (led s) ≡ 0
unfolding led
sign_none [] e f g = refl
sign_none (c ∷ t) e f g = by (class_of c) (class_is c)
  where
    by : (k : Class) → classes.Is c k → sign_code (led_by k c t) ≡ 0
    by going.digit p = refl
    by going.minus p = absurd (g p)
    by going.global p = refl
    by going.dot p = refl
    by going.bracket p = refl
    by going.upper p = absurd (e p)
    by going.lower p = absurd (f p)
    by going.space p = refl
    by going.other p = refl

-- with spaces before it
pub space_led : (s : List ℕ) → look s ≡ 32 → start s ≡ led (skip s)
unfolding start class_of skip
space_led [] e = absurd (omega arith)
space_led (c ∷ t) e = subst (λ x. start (x ∷ t) ≡ led (skip (x ∷ t))) (sym e) refl

pub sign_led : (s : List ℕ) → sign_code (start s) ≡ sign_code (led (skip s))
unfolding start led skip
sign_led [] = refl
sign_led (c ∷ t) = on (eqb c 32) refl
  where
    on : (b : Bool) → eqb c 32 ≡ b → sign_code (start (c ∷ t)) ≡ sign_code (led (skip (c ∷ t)))
    on true q = ap sign_code (space_led (c ∷ t) (eqb-true c 32 q))
    on false q = by (class_of c) (class_is c) ∙ ap (λ x. sign_code (led x)) (sym (skip_clear (c ∷ t) q))
      where
        by : (k : Class) → classes.Is c k → sign_code (start_by k c t) ≡ sign_code (led_by k c t)
        by going.digit p = refl
        by going.minus p = at (is_decimal (look t))
          where
            at : (b : Bool) → sign_code (cond b (leaf (on_got (λ v. num (neg_ℤ (pos v))) (digits 2147483648 0 t))) (sign Negate t))
                ≡ sign_code (cond b (nothing t) (sign Negate t))
            at true = refl
            at false = refl
        by going.global p = refl
        by going.dot p = refl
        by going.bracket p = refl
        by going.upper p = refl
        by going.lower p = refl
        by going.space p = both_ways (eqb c 32) (eq-eqb c 32 p) q
        by going.other p = refl

-- a minus that is no sign touches a digit
led_digit : (s : List ℕ) → look s ≡ 45 → sign_code (led s) ≡ 0 → is_decimal (look (drop 1 s)) ≡ true
led_digit s e z = on (is_decimal (look (drop 1 s))) refl
  where
    on : (b : Bool) → is_decimal (look (drop 1 s)) ≡ b → b ≡ true
    on true d = refl
    on false d = absurd (omega (arith, sign_minus s false e d))

pub digit_next : (s : List ℕ) → look s ≡ 45 → sign_code (start s) ≡ 0 → is_decimal (look (drop 1 s)) ≡ true
digit_next s e z =
    let k : skip s ≡ s = skip_clear s (ap (λ c. eqb c 32) e) in
    led_digit s e (ap (λ x. sign_code (led x)) (sym k) ∙ sym (sign_led s) ∙ z)

-- behind spaces that no sign follows
pub led_minus : (s : List ℕ) → look s ≡ 45 → sign_code (led s) ≡ 0 → led s ≡ nothing (drop 1 s)
unfolding led class_of
led_minus [] e z = absurd (omega arith)
led_minus (c ∷ t) e z =
    ap (λ x. led (x ∷ t)) e ∙ ap (λ b. cond b (nothing t) (sign Negate t)) (led_digit (c ∷ t) e z)

pub led_other : (s : List ℕ) → (look s ≡ 45 → ⊥) → sign_code (led s) ≡ 0 → led s ≡ nothing s
unfolding led
led_other [] m z = refl
led_other (c ∷ t) m z = by (class_of c) (class_is c) z
  where
    by : (k : Class) → classes.Is c k → sign_code (led_by k c t) ≡ 0 → led_by k c t ≡ nothing (c ∷ t)
    by going.digit p z = refl
    by going.minus p z = absurd (m p)
    by going.global p z = refl
    by going.dot p z = refl
    by going.bracket p z = refl
    by going.upper p z = absurd (omega arith)
    by going.lower p z = absurd (omega arith)
    by going.space p z = refl
    by going.other p z = refl

module _ (s : List ℕ) (j : ℕ) (p : look s ≡ 32) (z : sign_code (start s) ≡ 0) (h : j ≤ length s) (d : drop j s ≡ skip s) where
  no_sign : sign_code (led (drop j s)) ≡ 0
  no_sign = ap (λ x. sign_code (led x)) d ∙ sym (sign_led s) ∙ z

  pub blank_minus : look (drop j s) ≡ 45 → (start s ≡ nothing (drop (j + 1) s)) × (j + 1 ≤ length s)
  blank_minus m = (
    space_led s p ∙ ap led (sym d) ∙ led_minus (drop j s) m no_sign ∙ ap (λ x. nothing x) (drop-drop 1 j s),
    omega (arith, length-drop j s, some_byte (drop j s) 44 m),
  )

  pub blank_other : (look (drop j s) ≡ 45 → ⊥) → start s ≡ nothing (drop j s)
  blank_other m = space_led s p ∙ ap led (sym d) ∙ led_other (drop j s) m no_sign

pub none_starts : (s : List ℕ) → is_decimal (look s) ≡ false → (look s ≡ 45 → ⊥) → (look s ≡ 103 → ⊥) → (look s ≡ 46 → ⊥)
    → (look s ≡ 40 → ⊥) → (look s ≡ 32 → ⊥)
    → sign_code (start s) ≡ 0 → start s ≡ nothing s
unfolding start
none_starts [] d m g o b l z = refl
none_starts (c ∷ t) d m g o b l z = by (class_of c) (class_is c) z
  where
    by : (k : Class) → classes.Is c k → sign_code (start_by k c t) ≡ 0 → start_by k c t ≡ nothing (c ∷ t)
    by going.digit p z = both_ways (is_decimal c) p d
    by going.minus p z = absurd (m p)
    by going.global p z = absurd (g p)
    by going.dot p z = absurd (o p)
    by going.bracket p z = absurd (b p)
    by going.upper p z = absurd (omega arith)
    by going.lower p z = absurd (omega arith)
    by going.space p z = absurd (l p)
    by going.other p z = refl

-- ---- answers

-- what a number's reader says of the part from k on, as of the whole text
pub valued_after : (k : ℕ) (s : List ℕ) (rd : List ℕ → Read ℕ) (most : ℕ) (r x : Result (ℕ × ℕ) ℕ) → k ≤ length s
    → Valued (take (length s - k) (drop k s)) (rd (take (length s - k) (drop k s))) most r → x ≡ after_of k r
    → Valued s (rd (drop k s)) most x
valued_after k s rd most r x h g e = subst (λ y. Valued s (rd (drop k s)) most y) (sym e) (on r (subst (λ t. Valued t (rd t) most r) (rest_is k s) g))
  where
    on : (r : Result (ℕ × ℕ) ℕ) → Valued (drop k s) (rd (drop k s)) most r → Valued s (rd (drop k s)) most (after_of k r)
    on (Ok (n, v)) w = (w.0 ∙ ap (λ t. got v t) (drop-drop n k s), omega (arith, w.1, length-drop k s), w.2)
    on (Err n) w = (w.0 ∙ ap (λ t. stuck t) (drop-drop n k s), omega (arith, w.1, length-drop k s))

pub valued_takes : (t : List ℕ) (o : Read ℕ) (most : ℕ) (r : Result (ℕ × ℕ) ℕ) → Valued t o most r → takes r ≤ length t
valued_takes t o most (Ok (n, v)) w = w.1
valued_takes t o most (Err n) w = w.1

-- a leaf's answer, from that of its number x
module _ (s b a : List ℕ) (at : ℕ) (f : ℕ → Expr) (rd : Read ℕ) (most : ℕ) (starts : start s ≡ leaf (on_got f rd)) (x : Result (ℕ × ℕ) ℕ)
    (w : Valued s rd most x)
  where
    pub leaf_ends : (n v to : ℕ) → x ≡ Ok (n, v) → Put b a at (bytes_of (f v)) to → Answered alone s b a at (Ok (n, to))
    leaf_ends n v to e p =
        let h = subst (λ y. Valued s rd most y) e w in
        (f v, (leafs (starts ∙ ap (λ y. leaf (on_got f y)) h.0), (h.1, p)))

    pub leaf_stuck : (n : ℕ) → x ≡ Err n → (r : Result (ℕ × ℕ) ℕ) → r ≡ Err n → Answered alone s b a at r
    leaf_stuck n e r q =
        let h = subst (λ y. Valued s rd most y) e w in
        subst (λ y. Answered alone s b a at y) (sym q) (leafs (starts ∙ ap (λ y. leaf (on_got f y)) h.0), h.1)

pub negative_is : (v : ℕ) → 1 ≤ v → v ≤ 2147483648 → of_z w32 (neg_ℤ (pos v)) ≡ 4294967296 - v
negative_is zero h k = absurd (omega arith)
negative_is (suc v) h k = refl

-- ---- operators

pub infix_none : (c : ℕ) → (c ≡ 42 → ⊥) → (c ≡ 47 → ⊥) → (c ≡ 43 → ⊥) → (c ≡ 45 → ⊥) → (c ≡ 38 → ⊥) → (c ≡ 94 → ⊥) → (c ≡ 124 → ⊥)
    → infix_of c ≡ none
unfolding infix_of
infix_none c e f g h i j k =
    rw (ne_eqb c 42 e, ne_eqb c 47 f, ne_eqb c 43 g, ne_eqb c 45 h, ne_eqb c 38 i, ne_eqb c 94 j, ne_eqb c 124 k)

pub code_some : (o : Op2) → 1 ≤ code2 o
code_some Plus = omega arith
code_some Minus = omega arith
code_some Times = omega arith
code_some Divide = omega arith
code_some Xor = omega arith
code_some And = omega arith
code_some Or = omega arith

-- the operator at a level, by the code of the operator and its level
pub op_none : (l c k : ℕ) → k ≡ code_of (infix_of c) → k < 1 → 0 ≡ code_of (op_at l c)
op_none l c k e h = on (infix_of c) e
  where
    on : (x : Option Op2) → k ≡ code_of x → 0 ≡ code_of (going.at_level l x)
    on none e = refl
    on (some o) e = absurd (omega (arith, code_some o))

pub op_level : (l c k m : ℕ) → k ≡ code_of (infix_of c) → 1 ≤ k → ((o : Op2) → k ≡ code2 o → m ≡ level_of o) → (b : Bool) → eqb m l ≡ b
    → cond b k 0 ≡ code_of (op_at l c)
op_level l c k m e h f b q = on (infix_of c) e
  where
    at : (o : Op2) → k ≡ code2 o → (b : Bool) → eqb m l ≡ b → cond b k 0 ≡ code_of (cond b (some o) none)
    at o e true q = e
    at o e false q = refl

    on : (x : Option Op2) → k ≡ code_of x → cond b k 0 ≡ code_of (going.at_level l x)
    on none e = absurd (omega arith)
    on (some o) e = at o e b q ∙ ap (λ y. code_of (cond y (some o) none)) (sym q ∙ ap (λ y. eqb y l) (f o e))

pub codes_level : (k : ℕ) (m : ℕ) → ((o : Op2) → k ≡ code2 o → m ≡ level_of o) → (o : Op2) → k ≡ code2 o → m ≡ level_of o
codes_level k m f o e = f o e
