-- The bytes of digit pairs, written as digits, are those digits: so two frames are the same exactly where their lines are.
use mathlib.Core.Path.{◌≡◌, refl, sym, ap, ◌∙◌}
use mathlib.Core.Logic.{⊎_elim}
use mathlib.Core.List.{List, [], ◌∷◌}
use mathlib.Core.Bool.{true}
use Prim.Native.Nat.{ℕ, ◌+◌, ◌-◌, ◌*◌, ◌/◌, ◌%◌, ◌<◌, ◌≤◌}
use native.Mathlib.Omega.{arith}
use lib.ListN.{length}
use borrow.Author.Tests.{le-leb, lt-leb, lt-ltb, le-ltb}
use Rattle.laws.specs.Lists.{every, each, same}
use Rattle.laws.proofs.Lists.{same_true, same_refl}
use Rattle.laws.proofs.Tests.{and_true, same_test}
use Rattle.rules.specs.Listing.{is_digit, digit, unhex}
use Rattle.rules.specs.Output.{hex_digit, hex_byte}
use Rattle.listing.proofs.DigitPairs.{digit_range}
use Rattle.pairing.specs.Lines.{Written}

record Digit (c : ℕ) : Type 0 where
  low : digit c < 16
  back : hex_digit (digit c) ≡ c

one_digit : (c : ℕ) → is_digit c ≡ true → Digit c
one_digit c h = ⊎_elim (λ r. decimal r.0 r.1) (λ r. letter r.0 r.1) (digit_range c h)
  where
    decimal : 48 ≤ c → c ≤ 57 → Digit c
    decimal a b = let e = le-leb c 57 b in record {
      low = rw e (omega arith);
      back = rw (e, lt-ltb (c - 48) 10 (omega arith))
          (omega arith);
    }

    letter : 65 ≤ c → c ≤ 70 → Digit c
    letter a b = let e = lt-leb c 57 (omega arith) in record {
      low = rw e (omega arith);
      back = rw (e, le-ltb (c - 55) 10 (omega arith))
          (omega arith);
    }

-- the two digits of a byte
halves : (x y : ℕ) → y < 16 → ((x * 16 + y) / 16 ≡ x) × ((x * 16 + y) % 16 ≡ y)
halves x y h = (omega arith, omega arith)

pub digits_back : (l : List ℕ) → every (λ c. is_digit c) l ≡ true → length l % 2 ≡ 0 → each (λ b. hex_byte b) (unhex l) ≡ l
unfolding every unhex each
digits_back [] h e = refl
digits_back (c ∷ []) h e = absurd (omega arith)
digits_back (c ∷ d ∷ l) h e =
    let p = and_true (is_digit c) _ h in
    let q = and_true (is_digit d) (every (λ c. is_digit c) l) p.1 in
    let x = one_digit c p.0 in
    let y = one_digit d q.0 in
    let z = halves (digit c) (digit d) y.low in
    rw (z.0, z.1, x.back, y.back, digits_back l q.1 (omega arith))

pub same_lines : (x y : List ℕ) → Written x → Written y → same x y ≡ same (unhex x) (unhex y)
same_lines x y a b = same_test (same x y) (same (unhex x) (unhex y)) there back
  where
    there : same x y ≡ true → same (unhex x) (unhex y) ≡ true
    there h = ap (λ (l : List ℕ). same (unhex l) (unhex y)) (same_true x y h) ∙ same_refl (unhex y)

    back : same (unhex x) (unhex y) ≡ true → same x y ≡ true
    back h =
        let e : x ≡ y = sym (digits_back x a.digits a.even) ∙ ap (each (λ b. hex_byte b)) (same_true (unhex x) (unhex y) h)
        ∙ digits_back y b.digits b.even in
        ap (λ (l : List ℕ). same l y) e ∙ same_refl y
