-- What C-16 writes for an expression is read back as the same tree, and two different trees have different texts. Assumes nothing.
use mathlib.Core.Path.{◌≡◌, refl, sym, ap, ◌∙◌, subst}
use mathlib.Core.List.{List, [], ◌∷◌, ◌++◌}
use mathlib.Core.Bool.{Bool, true, false, cond}
use Prim.Native.Nat.{ℕ, zero, suc, ◌+◌, ◌-◌, ◌*◌, ◌/◌, ◌%◌, ◌≤◌, ◌<◌}
use native.Mathlib.Omega.{arith}
use lib.Dec.{ltb}
use lib.IntN.{pos, negsuc}
use lib.ListN.{length, length-append}
use borrow.Author.Tests.{ltb-true, ltb-false, lt-ltb}
use Rattle.laws.specs.Lists.{every}
use Rattle.rules.specs.declared.Op1.{Op1}
use Rattle.rules.specs.declared.Op1.TheVariants.{Negate, Upper, Lower}
use Rattle.rules.specs.declared.Op2.{Op2}
use Rattle.rules.specs.declared.Op2.TheVariants.{Plus, Minus, Times, Divide, Xor, And, Or}
use Rattle.rules.specs.Expressions.{Expr, num, name, two, one}
use Rattle.promises.proofs.Parses.{Fine}
use Rattle.text.specs.Text.{digits_of, five, name_text, sign2, closed, expr_text}
use Rattle.grammar.specs.Reading as reading
use Rattle.grammar.specs.Reading.{is_decimal, worth, touches, Decimal, Exp, number, named, signed, parens, tighter, joined}
use Rattle.grammar.proofs.Digits.{AllDigits, more_digits, first_digit}
use Rattle.grammar.proofs.Lexes.{digit_in}
use Rattle.grammar.proofs.Goings.{lift5}
use Rattle.grammar.proofs.Complete.{one_reading}

-- ---- digits

pub worth_append : (v : ℕ) (s t : List ℕ) → worth v (s ++ t) ≡ worth (worth v s) t
unfolding worth
worth_append v [] t = refl
worth_append v (d ∷ s) t = worth_append (10 * v + (d - 48)) s t

pub digits_append : (s t : List ℕ) → AllDigits s → AllDigits t → AllDigits (s ++ t)
digits_append [] t p q = q
digits_append (d ∷ s) t p q = let h = first_digit d s p in more_digits d (s ++ t) h.0 (digits_append s t h.1 q)

-- a number below 10 ^ k has k digits at most
power : ℕ → ℕ
power zero = 1
power (suc k) = 10 * power k

record Written (n : ℕ) (t : List ℕ) : Type 0 where
  some : 1 ≤ length t
  digits : AllDigits t
  is : worth 0 t ≡ n

one_digit : (d : ℕ) → d < 10 → AllDigits ((48 + d) ∷ [])
unfolding every
one_digit d h = more_digits (48 + d) [] (digit_in (48 + d) (omega arith) (omega arith)) refl

written_one : (n : ℕ) → n < 10 → Written n ((48 + n) ∷ [])
unfolding worth
written_one n h = record { some = omega arith; digits = one_digit n h; is = omega arith }

written_more : (n : ℕ) (t : List ℕ) → Written (n / 10) t → Written n (t ++ ((48 + n % 10) ∷ []))
unfolding worth
written_more n t w =
    record {
      some = omega (arith, length-append t ((48 + n % 10) ∷ []), w.some);
      digits = digits_append t ((48 + n % 10) ∷ []) w.digits (one_digit (n % 10) (omega arith));
      is = worth_append 0 t ((48 + n % 10) ∷ []) ∙ ap (λ v. 10 * v + (48 + n % 10 - 48)) w.is ∙ again n;
    }
  where
    again : (n : ℕ) → 10 * (n / 10) + (48 + n % 10 - 48) ≡ n
    again n = omega arith

written : (k n : ℕ) → n < power (suc k) → Written n (digits_of (suc k) n)
unfolding digits_of power
written zero n h = rw (lt-ltb n 10 (omega arith)) (written_one n (omega arith))
written (suc k) n h = on (ltb n 10) refl (written k (n / 10) (omega arith))
  where
    on : (b : Bool) → ltb n 10 ≡ b → Written (n / 10) (digits_of (suc k) (n / 10))
        → Written n (cond b ((48 + n) ∷ []) (digits_of (suc k) (n / 10) ++ ((48 + n % 10) ∷ [])))
    on true e w = written_one n (ltb-true n 10 e)
    on false e w = written_more n (digits_of (suc k) (n / 10)) w

pub decimal_is : (most n : ℕ) → n ≤ most → n < 10000000000 → Decimal most n (digits_of 10 n)
unfolding power
decimal_is most n h k = let w = written 9 n k in record { some = w.some; digits = w.digits; is = w.is; within = h }

five_is : (n : ℕ) → n ≤ 32767 → Decimal 32767 n (five n)
unfolding five worth
five_is n h =
    record {
      some = omega arith;
      digits =
          more_digits (48 + n / 10000) ((48 + n / 1000 % 10) ∷ (48 + n / 100 % 10) ∷ (48 + n / 10 % 10) ∷ (48 + n % 10) ∷ [])
          (d (n / 10000) (omega arith))
          (more_digits (48 + n / 1000 % 10) ((48 + n / 100 % 10) ∷ (48 + n / 10 % 10) ∷ (48 + n % 10) ∷ [])
          (d (n / 1000 % 10) (omega arith))
          (more_digits (48 + n / 100 % 10) ((48 + n / 10 % 10) ∷ (48 + n % 10) ∷ []) (d (n / 100 % 10) (omega arith))
          (more_digits (48 + n / 10 % 10) ((48 + n % 10) ∷ []) (d (n / 10 % 10) (omega arith)) (one_digit (n % 10) (omega arith)))));
      is = five_worth n;
      within = h;
    }
  where
    d : (x : ℕ) → x < 10 → is_decimal (48 + x) ≡ true
    d x h = digit_in (48 + x) (omega arith) (omega arith)

    lead : (x : ℕ) → 10 * 0 + (48 + x - 48) ≡ x
    lead x = omega arith

    step : (a m : ℕ) → a ≡ m / 10 → 10 * a + (48 + m % 10 - 48) ≡ m
    step a m e = omega arith

    five_worth : (n : ℕ) → 10 * (10 * (10 * (10 * (10 * 0 + (48 + n / 10000 - 48)) + (48 + n / 1000 % 10 - 48)) + (48 + n / 100 % 10 - 48))
        + (48 + n / 10 % 10 - 48)) + (48 + n % 10 - 48) ≡ n
    five_worth n =
        let a0 : 10 * 0 + (48 + n / 10000 - 48) ≡ n / 1000 / 10 = lead (n / 10000) ∙ tenth n in
        let a1 = step (10 * 0 + (48 + n / 10000 - 48)) (n / 1000) a0 in
        let a2 = step (10 * (10 * 0 + (48 + n / 10000 - 48)) + (48 + n / 1000 % 10 - 48)) (n / 100) (a1 ∙ tenth2 n) in
        let a3 = step (10 * (10 * (10 * 0 + (48 + n / 10000 - 48)) + (48 + n / 1000 % 10 - 48)) + (48 + n / 100 % 10 - 48)) (n / 10) (a2
        ∙ tenth3 n) in
        step (10 * (10 * (10 * (10 * 0 + (48 + n / 10000 - 48)) + (48 + n / 1000 % 10 - 48)) + (48 + n / 100 % 10 - 48))
        + (48 + n / 10 % 10 - 48)) n a3
      where
        tenth : (n : ℕ) → n / 10000 ≡ n / 1000 / 10
        tenth n = omega arith

        tenth2 : (n : ℕ) → n / 1000 ≡ n / 100 / 10
        tenth2 n = omega arith

        tenth3 : (n : ℕ) → n / 100 ≡ n / 10 / 10
        tenth3 n = omega arith

size : (n : ℕ) → length (five n) ≡ 5
unfolding five
size n = refl

pub name_is : (n : ℕ) → n < 65536 → reading.Name n (name_text n)
name_is n h = on (ltb n 0x8000) refl
  where
    on : (b : Bool) → ltb n 0x8000 ≡ b → reading.Name n (cond b (103 ∷ five n) (46 ∷ 108 ∷ five (n - 0x8000)))
    on true e = reading.global (size n) (five_is n (omega (arith, ltb-true n 0x8000 e)))
    on false e =
        let k : 0x8000 + (n - 0x8000) ≡ n = omega (arith, ltb-false n 0x8000 e) in
        subst (λ x. reading.Name x (46 ∷ 108 ∷ five (n - 0x8000))) k
        (reading.local (size (n - 0x8000)) (five_is (n - 0x8000) (omega arith)))

-- ---- trees

lifted : (l : ℕ) {e : Expr} {t : List ℕ} → Exp 0 e t → Exp l e t
lifted zero x = x
lifted (suc l) x = tighter (lifted l x)

whole_two : (o : Op2) (e d : Expr) (s t : List ℕ) → Exp 0 e s → Exp 0 d t → Exp 5 (two o e d) (s ++ (sign2 o ∷ t))
whole_two Times e d s t x y = tighter (tighter (tighter (tighter (joined Times 0 0 refl (lifted 1 x) y))))
whole_two Divide e d s t x y = tighter (tighter (tighter (tighter (joined Divide 0 0 refl (lifted 1 x) y))))
whole_two Plus e d s t x y = tighter (tighter (tighter (joined Plus 0 0 refl (lifted 2 x) (lifted 1 y))))
whole_two Minus e d s t x y = tighter (tighter (tighter (joined Minus 0 0 refl (lifted 2 x) (lifted 1 y))))
whole_two And e d s t x y = tighter (tighter (joined And 0 0 refl (lifted 3 x) (lifted 2 y)))
whole_two Xor e d s t x y = tighter (joined Xor 0 0 refl (lifted 4 x) (lifted 3 y))
whole_two Or e d s t x y = joined Or 0 0 refl (lifted 5 x) (lifted 4 y)

apart : (o : Op1) (t : List ℕ) → touches o (40 ∷ t) ≡ false
apart Negate t = refl
apart Upper t = refl
apart Lower t = refl

-- an operand as it stands beside an infix operator, given the whole
as_operand : (e : Expr) → Fine e → Exp 5 e (expr_text e) → Exp 0 e (closed e (expr_text e))
unfolding expr_text
as_operand (num (pos n)) s x = number (reading.plain (decimal_is 2147483647 n (omega (arith, s.sfits)) (omega (arith, s.sfits))))
as_operand (num (negsuc n)) s x = number (reading.minus (decimal_is 2147483648 (suc n) (omega (arith, s.sfits)) (omega (arith, s.sfits))))
as_operand (name n) s x = named (name_is n s)
as_operand (two o e d) s x = parens x
as_operand (one o e) s x = parens x

pub reads_back : (e : Expr) → Fine e → Exp 5 e (expr_text e)
unfolding expr_text
reads_back (num (pos n)) s = lift5 (number (reading.plain (decimal_is 2147483647 n (omega (arith, s.sfits)) (omega (arith, s.sfits)))))
reads_back (num (negsuc n)) s =
    lift5 (number (reading.minus (decimal_is 2147483648 (suc n) (omega (arith, s.sfits)) (omega (arith, s.sfits)))))
reads_back (name n) s = lift5 (named (name_is n s))
reads_back (two o e d) s =
    whole_two o e d (closed e (expr_text e)) (closed d (expr_text d)) (as_operand e s.0 (reads_back e s.0))
    (as_operand d s.1 (reads_back d s.1))
reads_back (one o e) s = lift5 (signed o 0 0 (apart o (expr_text e ++ (41 ∷ []))) (parens (reads_back e s)))

-- two different trees have different texts
pub distinct : (e d : Expr) → Fine e → Fine d → expr_text e ≡ expr_text d → e ≡ d
distinct e d s r q = one_reading (reads_back e s) (subst (λ t. Exp 5 d t) (sym q) (reads_back d r))
