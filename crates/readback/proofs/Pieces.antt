-- Pieces of a frame: a store behind a piece, a plain number's five bytes.
use mathlib.Core.Path.{◌≡◌, refl, sym, ap, ◌∙◌}
use mathlib.Core.List.{List, [], ◌∷◌, ◌++◌, append_assoc, map}
use mathlib.Core.Bool.{true, false}
use Prim.Native.Nat.{ℕ, ◌+◌, ◌-◌, ◌*◌, ◌/◌, ◌%◌, ◌<◌, ◌≤◌}
use native.Mathlib.Omega.{arith}
use lib.ListN.{length, get_or, set, take, drop, length-append, length-map}
use lib.Seq.{length-take-le, take_at}
use borrow.Rule.Slice.PartMut.{put_mid}
use Rattle.std.proofs.lemmas.List.{drop-drop}
use Rattle.laws.specs.Lists.{each}
use Rattle.laws.proofs.Lists.{each_more}
use Rattle.rules.specs.declared.Kind.{Kind}
use Rattle.rules.specs.Expressions.{bytes_of}
use Rattle.rules.specs.Output.{frame_of}
use Rattle.digits.specs.Digits.{laid}
use Rattle.decoding.specs.Operands.{plain}
use Rattle.readback.specs.ReadBack.{data_of}
use Rattle.readback.specs.Frames.{is_register, value_bytes}

-- a piece copied into its part of a room
pub laid_copied : (d x : List ℕ) (a k : ℕ) → length x ≡ k → put_mid a (a + k - a) d x ≡ laid d a x
unfolding laid
laid_copied d x a k e =
    let n : a + (a + k - a) ≡ a + length x = omega arith in
    rw (drop-drop (a + k - a) a d, n)

pub number_bytes : (v : ℕ) → v < 65536 → bytes_of (plain v) ≡ 0 ∷ 0 ∷ 0 ∷ v / 256 ∷ v % 256 ∷ []
unfolding bytes_of
number_bytes v h =
    let a : v / 16777216 ≡ 0 = omega arith in
    let b : v / 65536 % 256 ≡ 0 = omega arith in
    let c : v / 256 % 256 ≡ v / 256 = omega arith in
    rw (a, b, c)

-- ---- what stands at the front of a room

pub two_front : (d : List ℕ) (a b : ℕ) → 2 ≤ length d → take 2 (set (set d 0 a) 1 b) ≡ a ∷ b ∷ []
two_front [] a b h = absurd (omega arith)
two_front (x ∷ []) a b h = absurd (omega arith)
two_front (x ∷ y ∷ d) a b h = refl

-- a piece stored behind what stands there
pub front_more : (d x : List ℕ) (a : ℕ) → a ≤ length d → take (a + length x) (laid d a x) ≡ take a d ++ x
unfolding laid
front_more d x a h =
    let n : length (take a d ++ x) ≡ a + length x = omega (arith, length-append (take a d) x, length-take-le a d h) in
    ap (take (a + length x)) (sym (append_assoc (take a d) x (drop (a + length x) d)))
    ∙ take_at (take a d ++ x) (drop (a + length x) d) (a + length x) n

-- ---- bytes as data

abbrev pub data_items : List ℕ → List ℕ
data_items s = each (λ b. bytes_of (plain b)) s

items_each : (s : List ℕ) → each (λ e. bytes_of e) (map (λ b. plain b) s) ≡ data_items s
unfolding each
items_each [] = refl
items_each (b ∷ s) = ap (λ t. bytes_of (plain b) ++ t) (items_each s)

pub data_frame : (s : List ℕ) → frame_of (data_of s) ≡ 6 ∷ length s ∷ data_items s
unfolding frame_of
data_frame s = rw (length-map s (λ b. plain b), items_each s)

pub items_length : (s : List ℕ) → length (data_items s) ≡ 5 * length s
unfolding each bytes_of
items_length [] = refl
items_length (b ∷ s) = omega (arith, items_length s)

-- one byte more
pub data_more : (s d : List ℕ) (n k : ℕ) → k < length s → 7 + 5 * k ≤ length d → take (2 + 5 * k) d ≡ 6 ∷ n ∷ data_items (take k s)
    → take (2 + 5 * (k + 1)) (laid d (2 + 5 * k) (bytes_of (plain (get_or s k 0)))) ≡ 6 ∷ n ∷ data_items (take (k + 1) s)
unfolding bytes_of
data_more s d n k h l e =
    let x : List ℕ = bytes_of (plain (get_or s k 0)) in
    let m : 2 + 5 * (k + 1) ≡ 2 + 5 * k + length x = omega arith in
    ap (λ (z : ℕ). take z (laid d (2 + 5 * k) x)) m ∙ front_more d x (2 + 5 * k) (omega arith) ∙ ap (λ (t : List ℕ). t ++ x) e
    ∙ ap (λ (t : List ℕ). 6 ∷ n ∷ t) (sym (each_more (λ b. bytes_of (plain b)) s k 0 h))

-- ---- an argument

pub as_register : (d : Kind) (v : ℕ) → is_register d ≡ true → value_bytes d v ≡ v ∷ []
as_register d v e = rw e

pub as_number : (d : Kind) (v : ℕ) → is_register d ≡ false → value_bytes d v ≡ bytes_of (plain v)
as_number d v e = rw e

pub five : (v : ℕ) → length (bytes_of (plain v)) ≡ 5
unfolding bytes_of
five v = refl
