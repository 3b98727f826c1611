-- A piece stored in a room: its length, a second piece right behind it, one and two elements. And how many digits bytes have.
use mathlib.Core.Path.{◌≡◌, refl, sym, ◌∙◌}
use mathlib.Core.List.{List, [], ◌∷◌, ◌++◌, append_assoc}
use Prim.Native.Nat.{ℕ, ◌+◌, ◌*◌, ◌≤◌, ◌<◌}
use native.Mathlib.Numerals.{add-one}
use native.Mathlib.Omega.{arith}
use lib.ListN.{length, get_or, set, take, drop, length-append, length-drop, take-append-drop}
use lib.Seq.{length-take-le, set_split, drop-drop}
use Rattle.laws.specs.Lists.{each}
use Rattle.laws.proofs.Lists.{each_more}
use Rattle.laws.proofs.Stores.{front_put}
use Rattle.rules.specs.Output.{hex_byte, line_of}
use Rattle.digits.specs.Digits.{hex_of, laid}

pub length_laid : (d : List ℕ) (a : ℕ) (x : List ℕ) → a + length x ≤ length d → length (laid d a x) ≡ length d
unfolding laid
length_laid d a x h =
    omega (
      arith,
      length-append (take a d) (x ++ drop (a + length x) d),
      length-append x (drop (a + length x) d),
      length-take-le a d
          (omega arith),
      length-drop (a + length x) d,
    )

pub laid_more : (d x y : List ℕ) (a b : ℕ) → a + length x ≡ b → b + length y ≤ length d → laid (laid d a x) b y ≡ laid d a (x ++ y)
unfolding laid
laid_more d x y a b e h =
    let size : length (take a d ++ x) ≡ b = omega (arith, length-append (take a d) x, length-take-le a d (omega arith)) in
    let out : List ℕ = laid d a x in
    let room : out ≡ (take a d ++ x) ++ drop b d = rw (← e) (sym (append_assoc (take a d) x (drop (a + length x) d))) in
    let all : a + length (x ++ y) ≡ b + length y = omega (arith, length-append x y) in
    front_put (take a d ++ x) d out b room size y (laid out b y) (length y) (rw (drop-drop (length y) b out))
    ∙ rw (all, append_assoc (take a d) x y, append_assoc (take a d) (x ++ y) (drop (b + length y) d))

pub laid_one : (d : List ℕ) (a v : ℕ) → a < length d → set d a v ≡ laid d a (v ∷ [])
unfolding laid
laid_one d a v h = set_split d a v h ∙ rw (add-one a)

pub laid_two : (d : List ℕ) (a v w : ℕ) → a + 2 ≤ length d → set (set d a v) (a + 1) w ≡ laid d a (v ∷ w ∷ [])
laid_two d a v w h =
    let one : set d a v ≡ laid d a (v ∷ []) = laid_one d a v (omega arith) in
    let l = length_laid d a (v ∷ []) (omega arith) in
    rw one (laid_one (laid d a (v ∷ [])) (a + 1) w (omega arith) ∙ laid_more d (v ∷ []) (w ∷ []) a (a + 1) refl (omega arith))

-- from the start
pub laid_front : (d x : List ℕ) → laid d 0 x ≡ x ++ drop (length x) d
unfolding laid
laid_front d x = let z : 0 + length x ≡ length x = omega arith in rw z

pub laid_nothing : (d : List ℕ) (a : ℕ) → laid d a [] ≡ d
unfolding laid
laid_nothing d a = let z : a + 0 ≡ a = omega arith in rw z (take-append-drop a d)

-- ---- digits

pub length_hex : (s : List ℕ) → length (hex_of s) ≡ 2 * length s
unfolding each
length_hex [] = refl
length_hex (b ∷ s) = omega (arith, length_hex s)

pub hex_more : (s : List ℕ) (k : ℕ) → k < length s → hex_of (take (k + 1) s) ≡ hex_of (take k s) ++ hex_byte (get_or s k 0)
hex_more s k h = each_more (λ b. hex_byte b) s k 0 h

-- bytes and the line feed
pub length_line : (s : List ℕ) → length (line_of s) ≡ 2 * length s + 1
unfolding line_of
length_line s = length-append (hex_of s) (10 ∷ []) ∙ omega (arith, length_hex s)
