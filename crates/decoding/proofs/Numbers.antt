-- The number that bits make, and the bits of a number whose upper part is another's.
use mathlib.Core.Path.{◌≡◌, sym, ◌∙◌, ap}
use Prim.Native.Nat.{ℕ, zero, suc, ◌+◌, ◌-◌, ◌*◌, ◌/◌, ◌%◌, ◌^◌, ◌<◌}
use native.Mathlib.Nat.{pow-succ'}
use native.Mathlib.Numerals.{one-add}
use native.Mathlib.Omega.{arith}
use lib.Pow.{shr-shr, field, mod-mod-pow, low}
use Rattle.decoding.specs.Operands.{from_bits}

-- each below 2
abbrev pub Bit-each : (ℕ → ℕ) → Type 0
Bit-each F = (n : ℕ) → F n < 2

half : (a v : ℕ) → a < 2 → (a + 2 * v) / 2 ≡ v
half a v h = omega arith

-- bit n of the number is F n
pub bit_back : (F : ℕ → ℕ) → Bit-each F → (w n : ℕ) → n < w → from_bits F w / 2 ^ n % 2 ≡ F n
bit_back F h zero n l = absurd (omega arith)
bit_back F h (suc w) zero l = omega (arith, h 0)
bit_back F h (suc w) (suc n) l =
    let v : ℕ = from_bits (λ k. F (suc k)) w in
    ap (λ (x : ℕ). x % 2)
    (ap (λ (m : ℕ). (F 0 + 2 * v) / 2 ^ m) (sym (one-add n)) ∙ sym (shr-shr (F 0 + 2 * v) 1 n)
    ∙ ap (λ (x : ℕ). x / 2 ^ n) (half (F 0) v (h 0)))
    ∙ bit_back (λ k. F (suc k)) (λ k. h (suc k)) w n (omega arith)

-- and it has no more bits
pub bits_below : (F : ℕ → ℕ) → Bit-each F → (w : ℕ) → from_bits F w < 2 ^ w
bits_below F h zero = omega arith
bits_below F h (suc w) = rw (pow-succ' 2 w) (omega (arith, h 0, bits_below (λ k. F (suc k)) (λ k. h (suc k)) w))

-- bits below w do not see what stands from w on
under : (hi v m n : ℕ) → v < 2 ^ (m + 1 + n) → (hi * 2 ^ (m + 1 + n) + v) / 2 ^ n % 2 ≡ v / 2 ^ n % 2
under hi v m n h =
    let x : ℕ = hi * 2 ^ (m + 1 + n) + v in
    sym (ap (λ (u : ℕ). u / 2 ^ n % 2) (sym (low hi (m + 1 + n) h)) ∙ ap (λ (u : ℕ). u % 2) (field x (m + 1) n)
    ∙ mod-mod-pow (x / 2 ^ n) m 1)

pub low_bit : (hi v w n : ℕ) → v < 2 ^ w → n < w → (hi * 2 ^ w + v) / 2 ^ n % 2 ≡ v / 2 ^ n % 2
low_bit hi v w n h l =
    let e : w - suc n + 1 + n ≡ w = omega arith in
    let k : v < 2 ^ (w - suc n + 1 + n) = rw e h in
    rw e at (under hi v (w - suc n) n k)
