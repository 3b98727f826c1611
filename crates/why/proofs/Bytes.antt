-- The bytes of a line.
use mathlib.Core.Path.{◌≡◌}
use mathlib.Core.List.{[], ◌∷◌, ◌++◌}
use Prim.Native.Nat.{ℕ, ◌+◌, ◌/◌, ◌%◌, ◌^◌, ◌≤◌, ◌<◌}
use native.Mathlib.Omega.{arith}
use borrow.Author.Tests.{lt-ltb, le-ltb, ne_eqb}
use Rattle.rules.specs.Expressions.{pair, four}
use Rattle.rules.specs.Forms.{jmp, br, call}
use Rattle.staying.specs.Reasons.{attempt_at}
use Rattle.staying.specs.Lines.{attempt_byte}

module _ (k : ℕ) where
  pub fold_byte : k < 23 → 128 + k ≡ attempt_byte (attempt_at k)
  unfolding attempt_at
  fold_byte l = rw (lt-ltb k 23 l)

  pub br_byte : k ≡ 23 → br ≡ attempt_byte (attempt_at k)
  unfolding attempt_at
  br_byte e = rw e

  pub jmp_byte : k ≡ 24 → jmp ≡ attempt_byte (attempt_at k)
  unfolding attempt_at
  jmp_byte e = rw e

  pub call_byte : 23 ≤ k → (k ≡ 23 → ⊥) → (k ≡ 24 → ⊥) → call ≡ attempt_byte (attempt_at k)
  unfolding attempt_at
  call_byte l a b = rw (le-ltb k 23 l, ne_eqb k 23 a, ne_eqb k 24 b)

-- i the place, w what is tried, r the kind; n, j, g and k the refusal's number, place, argument's place and bits
pub why_bytes : (w i r n j g k t a b s c d e x y z v : ℕ) → i < 65536 → k < 2 ^ 32 → t ≡ w → a ≡ i / 256 % 256 → b ≡ i % 256 → s ≡ r → c ≡ j / 256 % 256 → d ≡ j % 256
    → e ≡ g % 256 → x ≡ k / 16777216 % 256 → y ≡ k / 65536 % 256 → z ≡ k / 256 % 256 → v ≡ k % 256
    → 0x75 ∷ t ∷ a ∷ b ∷ s ∷ n ∷ c ∷ d ∷ e ∷ x ∷ y ∷ z ∷ v ∷ [] ≡ 0x75 ∷ w ∷ (pair i ++ (r ∷ (n ∷ (pair (j % 65536) ++ (g % 256 ∷ four k)))))
why_bytes w i r n j g k t a b s c d e x y z v low bits e1 e2 e3 e4 e5 e6 e7 e8 e9 e10 e11 =
    let p : a ≡ i / 256 = omega arith in
    let q : c ≡ j % 65536 / 256 = omega arith in
    let u : d ≡ j % 65536 % 256 = omega arith in
    let o : x ≡ k / 16777216 = omega arith in
    rw (e1, p, e3, e4, q, u, e7, o, e9, e10, e11)
