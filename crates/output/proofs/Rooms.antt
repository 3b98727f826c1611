-- Pieces of a line stored one behind the other, its line feed, and a source line before it.
use mathlib.Core.Path.{◌≡◌, refl, sym, ap, ◌∙◌}
use mathlib.Core.List.{List, [], ◌∷◌, ◌++◌, append_assoc}
use Prim.Native.Nat.{ℕ, ◌+◌, ◌*◌, ◌≤◌}
use native.Mathlib.Omega.{arith}
use lib.ListN.{length, take, drop, length-append}
use lib.Seq.{length-take-le, drop_at, take-append-le, take-take}
use Rattle.laws.specs.Lists.{each}
use Rattle.laws.proofs.Lists.{each_append}
use Rattle.rules.specs.Expressions.{four}
use Rattle.rules.specs.Listing.{ListingForm, old_form, new_form, line_bytes}
use Rattle.rules.specs.Output.{hex_byte, line_of}
use Rattle.digits.specs.Digits.{hex_of, laid}
use Rattle.digits.proofs.Rooms.{laid_more, length_hex, length_line}
use Rattle.output.specs.Digits.{Put}
use Rattle.output.specs.Lines.{bytes_in, sourced}

-- ---- pieces of a line, one behind the other

pub put_more : (d : List ℕ) (a : ℕ) (x d₁ : List ℕ) (e₁ : ℕ) (y d₂ : List ℕ) (e₂ : ℕ) → Put d a x d₁ e₁ → Put d₁ e₁ y d₂ e₂ → a + 2 * (length x + length y) ≤ length d
    → Put d a (x ++ y) d₂ e₂
put_more d a x d₁ e₁ y d₂ e₂ p q h =
    record {
      is =
          q.is ∙ ap (λ l. laid l e₁ (hex_of y)) p.is
          ∙ laid_more d (hex_of x) (hex_of y) a e₁ (omega (arith, length_hex x, p.ends)) (omega (arith, length_hex y, p.ends))
          ∙ ap (laid d a) (sym (each_append (λ b. hex_byte b) x y));
      ends = omega (arith, p.ends, q.ends, length-append x y);
    }

-- two bytes and those behind
pub put_head : (d : List ℕ) (a b c : ℕ) (x : List ℕ) → a + 4 + 2 * length x ≤ length d
    → laid (laid (laid d a (hex_byte b)) (a + 2) (hex_byte c)) (a + 4) (hex_of x) ≡ laid d a (hex_of (b ∷ c ∷ x))
unfolding each
put_head d a b c x h =
    ap (λ l. laid l (a + 4) (hex_of x)) (laid_more d (hex_byte b) (hex_byte c) a (a + 2) refl (omega arith))
    ∙ laid_more d (hex_byte b ++ hex_byte c) (hex_of x) a (a + 4) (omega arith) (omega (arith, length_hex x))

-- bytes and the line feed
pub put_line : (d : List ℕ) (a : ℕ) (x d₁ : List ℕ) (e : ℕ) (d₂ : List ℕ) (r : ℕ) (line : List ℕ) → Put d a x d₁ e → d₂ ≡ laid d₁ e (10 ∷ []) → r ≡ e + 1
    → line ≡ line_of x → a + length line ≤ length d → (d₂ ≡ laid d a line) × (r ≡ a + length line)
unfolding line_of
put_line d a x d₁ e d₂ r line p q n is h =
    let l : length line ≡ 2 * length x + 1 = ap length is ∙ length_line x in (
      q ∙ ap (λ z. laid z e (10 ∷ [])) p.is ∙ laid_more d (hex_of x) (10 ∷ []) a e (omega (arith, length_hex x, p.ends)) (omega (arith, p.ends)) ∙ ap (laid d a) (sym is),
      omega (arith, p.ends),
    )

-- ---- C-20: a source line

-- y stored over the beginning of what was stored behind it: x and z at b, y up to the end of x
laid_over : (d x y z : List ℕ) (a b : ℕ) → a ≤ b → b + length x ≡ a + length y → b + length (x ++ z) ≤ length d
    → laid (laid d b (x ++ z)) a y ≡ laid d a (y ++ z)
unfolding laid
laid_over d x y z a b l e h =
    let n = length-append x z in
    let front : length (take b d ++ x) ≡ a + length y = omega (arith, length-append (take b d) x, length-take-le b d (omega arith)) in
    let out : List ℕ = laid d b (x ++ z) in
    let room : out ≡ (take b d ++ x) ++ (z ++ drop (b + length (x ++ z)) d) =
    ap (λ (t : List ℕ). take b d ++ t) (append_assoc x z (drop (b + length (x ++ z)) d)) ∙ sym (append_assoc (take b d) x (z ++ drop (b + length (x ++ z)) d)) in
    let behind : drop (a + length y) out ≡ z ++ drop (b + length (x ++ z)) d = ap (drop (a + length y)) room ∙ drop_at (take b d ++ x) (z ++ drop (b + length (x ++ z)) d) (a + length y) front in
    let before : take a out ≡ take a d = take-append-le a (take b d) ((x ++ z) ++ drop (b + length (x ++ z)) d) (omega (arith, length-take-le b d (omega arith))) ∙ take-take a b d l in
    let all : a + length (y ++ z) ≡ b + length (x ++ z) = omega (arith, length-append y z) in
    rw (before, behind, all, append_assoc y z (drop (b + length (x ++ z)) d))

-- a frame stored behind room for its source line, and that before it
pub put_source : (w : ListingForm) (d : List ℕ) (a k n : ℕ) (r d₁ : List ℕ) (e : ℕ) → Put d (a + 2 * line_bytes w) (k ∷ r) d₁ e
    → a + 2 * (length (k ∷ r) + line_bytes w) ≤ length d → Put d a (bytes_in w n (k ∷ r)) (sourced w k n d₁ a) e
unfolding each
put_source old_form d a k n r d₁ e p h = let z : a + 2 * 0 ≡ a = omega arith in record { is = p.is ∙ ap (λ (m : ℕ). laid d m (hex_of (k ∷ r))) z; ends = omega (arith, p.ends) }
put_source new_form d a k n r d₁ e p h =
    record {
      is =
          ap (λ (l : List ℕ). laid l a (hex_of (k ∷ four n))) p.is
          ∙ laid_over d (hex_byte k) (hex_of (k ∷ four n)) (hex_of r) a (a + 8) (omega arith) (omega (arith, length_hex (k ∷ four n))) (omega (arith, length_hex r, length-append (hex_byte k) (hex_of r)))
          ∙ ap (laid d a) (sym (each_append (λ b. hex_byte b) (k ∷ four n) r));
      ends = omega (arith, p.ends);
    }
