-- One line of the differences: the digits of its head, a frame's digits as they stand, and the line feed, stored one behind the other.
use mathlib.Core.Path.{◌≡◌, refl, sym, ap, ap₂, ◌∙◌}
use mathlib.Core.List.{List, [], ◌∷◌, ◌++◌, append_assoc}
use mathlib.Core.Bool.{Bool, true, false}
use Prim.Native.Nat.{ℕ, ◌+◌, ◌*◌, ◌/◌, ◌%◌, ◌≤◌, ◌<◌}
use native.Mathlib.Omega.{arith}
use lib.ListN.{length, set, length-append}
use Rattle.laws.specs.Lists.{same}
use Rattle.laws.proofs.Lists.{each_append}
use Rattle.rules.specs.Expressions.{pair}
use Rattle.rules.specs.Listing.{unhex}
use Rattle.rules.specs.Output.{hex_byte, line_of}
use Rattle.listing.proofs.DigitPairs.{length_unhex}
use Rattle.digits.specs.Digits.{hex_of, laid}
use Rattle.digits.proofs.Rooms.{length_laid, laid_more, laid_one, length_hex, length_line}
use Rattle.pairing.specs.Lines.{Written}
use Rattle.pairing.proofs.DigitsBack.{digits_back, same_lines}
use Rattle.differences.specs.Changes.{Change, kept, changed, paired, bytes_of}

-- ---- the text of a line

line_of_lem : (head u x : List ℕ) → hex_of u ≡ x → line_of (head ++ u) ≡ hex_of head ++ (x ++ (10 ∷ []))
unfolding line_of
line_of_lem head u x e =
    ap (λ (l : List ℕ). l ++ (10 ∷ [])) (each_append (λ b. hex_byte b) head u ∙ ap (λ (l : List ℕ). hex_of head ++ l) e)
    ∙ append_assoc (hex_of head) x (10 ∷ [])

line_size : (head u x : List ℕ) → hex_of u ≡ x → length (line_of (head ++ u)) ≡ 2 * length head + 1 + length x
line_size head u x e = omega (arith, length_line (head ++ u), length-append head u, length_hex u, ap length e)

one_back : (x : List ℕ) → Written x → hex_of (unhex x) ≡ x
one_back x w = digits_back x w.digits w.even

two_back : (x y : List ℕ) → Written x → Written y → hex_of (unhex x ++ unhex y) ≡ x ++ y
two_back x y v w = each_append (λ b. hex_byte b) (unhex x) (unhex y) ∙ ap₂ (λ (s t : List ℕ). s ++ t) (one_back x v) (one_back y w)

-- ---- stored: head, frames, line feed
module _ (d d₁ d₂ x y : List ℕ) (a b e : ℕ) (p : d₁ ≡ laid d a x) (q : d₂ ≡ laid d₁ b y) (h : a + length x ≡ b) (k : b + length y ≡ e)
    (room : e < length d) where
  sized : length d₂ ≡ length d
  sized =
      let u = length_laid d a x (omega arith) in
      let v : length d₁ ≡ length d = ap length p ∙ u in
      ap length q ∙ length_laid d₁ b y (omega arith) ∙ v

  pub line_laid : set d₂ e 10 ≡ laid d a (x ++ (y ++ (10 ∷ [])))
  line_laid =
      let u : length d₁ ≡ length d = ap length p ∙ length_laid d a x (omega arith) in
      let n = length-append y (10 ∷ []) in
      laid_one d₂ e 10 (omega (arith, sized))
      ∙ ap (λ (l : List ℕ). laid l e (10 ∷ [])) q
      ∙ laid_more d₁ y (10 ∷ []) b e k (omega arith)
      ∙ ap (λ (l : List ℕ). laid l b (y ++ (10 ∷ []))) p
      ∙ laid_more d x (y ++ (10 ∷ [])) a b h (omega arith)

-- the lines of the code: a head of n bytes, and one frame or two
pub one_laid : (d d₁ d₂ head line : List ℕ) (a b e : ℕ) → Written line → d₁ ≡ laid d a (hex_of head) → d₂ ≡ laid d₁ b line
    → a + 2 * length head ≡ b → b + length line ≡ e → e < length d → set d₂ e 10 ≡ laid d a (line_of (head ++ unhex line))
one_laid d d₁ d₂ head line a b e w p q h k room =
    line_laid d d₁ d₂ (hex_of head) line a b e p q (omega (arith, length_hex head)) k room
    ∙ ap (laid d a) (sym (line_of_lem head (unhex line) line (one_back line w)))

pub two_laid : (d d₁ d₂ d₃ head old new : List ℕ) (a b c e : ℕ) → Written old → Written new → d₁ ≡ laid d a (hex_of head)
    → d₂ ≡ laid d₁ b old
    → d₃ ≡ laid d₂ c new → a + 2 * length head ≡ b → b + length old ≡ c → c + length new ≡ e → e < length d
    → set d₃ e 10 ≡ laid d a (line_of (head ++ (unhex old ++ unhex new)))
two_laid d d₁ d₂ d₃ head old new a b c e v w p q r h k l room =
    let n = length_hex head in
    let u : length d₁ ≡ length d = ap length p ∙ length_laid d a (hex_of head) (omega arith) in
    let m = length-append old new in
    let q' : d₃ ≡ laid d₁ b (old ++ new) = r ∙ ap (λ (s : List ℕ). laid s c new) q ∙ laid_more d₁ old new b c k (omega arith) in
    line_laid d d₁ d₃ (hex_of head) (old ++ new) a b e p q' (omega arith) (omega arith) room
    ∙ ap (laid d a) (sym (line_of_lem head (unhex old ++ unhex new) (old ++ new) (two_back old new v w)))

-- ---- how long the lines are
pub one_size : (kind i : ℕ) (line : List ℕ) → Written line → length (line_of (kind ∷ (pair i ++ unhex line))) ≡ 7 + length line
one_size kind i line w = line_size (kind ∷ pair i) (unhex line) line (one_back line w) ∙ omega arith

pub kept_size : (i j : ℕ) (line : List ℕ) → Written line → length (line_of (bytes_of (kept i j (unhex line)))) ≡ 11 + length line
kept_size i j line w = line_size (0x70 ∷ (pair i ++ pair j)) (unhex line) line (one_back line w) ∙ omega arith

pub changed_size : (i j : ℕ) (old new : List ℕ) → Written old → Written new
    → length (line_of (bytes_of (changed i j (unhex old) (unhex new)))) ≡ 13 + (length old + length new)
changed_size i j old new v w =
    line_size (0x73 ∷ (pair i ++ (pair j ++ (length (unhex old) ∷ [])))) (unhex old ++ unhex new) (old ++ new) (two_back old new v w)
    ∙ omega (arith, length-append old new)

-- the old frame's count in one byte
pub count_byte : (old : List ℕ) → Written old → length old / 2 % 256 ≡ length (unhex old)
count_byte old w = omega (arith, length_unhex old, w.short)

-- ---- the heads of the lines, as the code makes them
pub one_head : (kind h l i : ℕ) (u : List ℕ) → h ≡ i / 256 → l ≡ i % 256 → kind ∷ h ∷ l ∷ u ≡ kind ∷ (pair i ++ u)
one_head kind h l i u p q = rw (p, q)

pub two_head : (kind h l h' l' i j : ℕ) (u : List ℕ) → h ≡ i / 256 → l ≡ i % 256 → h' ≡ j / 256 → l' ≡ j % 256
    → kind ∷ h ∷ l ∷ h' ∷ l' ∷ u ≡ kind ∷ (pair i ++ (pair j ++ u))
two_head kind h l h' l' i j u p q r s = rw (p, q, r, s)

-- ---- a pair is kept where its lines are the same
module _ (i j : ℕ) (old new : List ℕ) (v : Written old) (w : Written new) where
  pub pair_kept : same old new ≡ true → paired i j (unhex old) (unhex new) ≡ kept i j (unhex new)
  pair_kept e = rw (sym (same_lines old new v w) ∙ e)

  pub pair_changed : same old new ≡ false → paired i j (unhex old) (unhex new) ≡ changed i j (unhex old) (unhex new)
  pair_changed e = rw (sym (same_lines old new v w) ∙ e)

  pub pair_bound : length (line_of (bytes_of (paired i j (unhex old) (unhex new)))) ≤ 509
  pair_bound = on (same old new) refl
    where
      on : (t : Bool) → same old new ≡ t → length (line_of (bytes_of (paired i j (unhex old) (unhex new)))) ≤ 509
      on true e = omega (arith, ap (λ (d : Change). length (line_of (bytes_of d))) (pair_kept e), kept_size i j new w, w.short)
      on false e = omega (
        arith,
        ap (λ (d : Change). length (line_of (bytes_of d)))
            (pair_changed e),
        changed_size i j old new v w,
        v.short,
        w.short,
      )
