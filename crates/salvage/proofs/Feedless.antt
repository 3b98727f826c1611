-- Digits hold no line feed, and bytes stay bytes.
use mathlib.Core.Path.{◌≡◌, refl}
use mathlib.Core.List.{List, [], ◌∷◌, ◌++◌}
use mathlib.Core.Bool.{Bool, true, false, cond}
use Prim.Native.Nat.{ℕ, zero, suc, ◌+◌, ◌/◌, ◌%◌, ◌<◌}
use native.Mathlib.Omega.{arith}
use lib.Dec.{eqb, ltb}
use lib.ListN.{take}
use borrow.Author.Tests.{ne_eqb, ltb-true}
use Rattle.laws.specs.Lists.{every, each}
use Rattle.laws.proofs.Tests.{and_true, false_true}
use Rattle.rules.specs.Listing.{Line, onto_line, lines_of, is_digit}
use Rattle.rules.specs.Output.{hex_digit}
use Rattle.promises.proofs.RoundTrip.{is_byte, AllBytes, no_bytes, cons_bytes}
use Rattle.digits.specs.Digits.{hex_of}

-- ---- lines of digits
digit_feed : (c : ℕ) → is_digit c ≡ true → eqb c 10 ≡ false
digit_feed c h = ne_eqb c 10 (λ e. let z : is_digit 10 ≡ true = rw e at h in false_true z)

pub digits_line : (cs t : List ℕ) → every (λ c. is_digit c) cs ≡ true → lines_of (cs ++ (10 ∷ t)) ≡
    record {
      chars = cs;
      ended = true;
    } ∷ lines_of t
unfolding lines_of every
digits_line [] t h = refl
digits_line (c ∷ cs) t h =
    let a = and_true (is_digit c) (every (λ c. is_digit c) cs) h in
    rw (digit_feed c a.0, digits_line cs t a.1)

hex_feed : (d : ℕ) → eqb (hex_digit d) 10 ≡ false
hex_feed d = on (ltb d 10)
  where
    on : (b : Bool) → eqb (cond b (48 + d) (55 + d)) 10 ≡ false
    on true = ne_eqb (48 + d) 10 (λ z. omega arith)
    on false = ne_eqb (55 + d) 10 (λ z. omega arith)

pub hex_line : (s t : List ℕ) → lines_of (hex_of s ++ (10 ∷ t)) ≡ record { chars = hex_of s; ended = true } ∷ lines_of t
unfolding lines_of each
hex_line [] t = refl
hex_line (b ∷ s) t = rw (hex_feed (b / 16), hex_feed (b % 16), hex_line s t)

-- ---- bytes
byte_first : (b : ℕ) (s : List ℕ) → AllBytes (b ∷ s) → (b < 256) × AllBytes s
unfolding every
byte_first b s h = let t = and_true (is_byte b) (every is_byte s) h in (ltb-true b 256 t.0, t.1)

pub take_bytes : (n : ℕ) (s : List ℕ) → AllBytes s → AllBytes (take n s)
take_bytes zero s h = no_bytes
take_bytes (suc n) [] h = no_bytes
take_bytes (suc n) (b ∷ s) h = let a = byte_first b s h in cons_bytes b (take n s) a.0 (take_bytes n s a.1)

-- the lines of bytes are bytes
abbrev pub AllLines : List Line → Type 0
AllLines [] = Unit
AllLines (l ∷ ls) = AllBytes l.chars × AllLines ls

onto_bytes : (c : ℕ) (ls : List Line) → c < 256 → AllLines ls → AllLines (onto_line c ls)
onto_bytes c [] h k = (cons_bytes c [] h no_bytes, tt)
onto_bytes c (l ∷ ls) h k = (cons_bytes c l.chars h k.0, k.1)

pub lines_bytes : (t : List ℕ) → AllBytes t → AllLines (lines_of t)
unfolding lines_of
lines_bytes [] h = tt
lines_bytes (c ∷ t) h = let a = byte_first c t h in on (eqb c 10) a.0 (lines_bytes t a.1)
  where
    on : (b : Bool) → c < 256 → AllLines (lines_of t)
        → AllLines (cond b (record { chars = []; ended = true } ∷ lines_of t) (onto_line c (lines_of t)))
    on true h k = (no_bytes, k)
    on false h k = onto_bytes c (lines_of t) h k
