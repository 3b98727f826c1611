-- The frames of a listing by its lines, and how many frames two listings have in common, turn by turn.
use mathlib.Core.Path.{◌≡◌, refl, sym, ap, ap₂, ◌∙◌}
use mathlib.Core.List.{List, [], ◌∷◌, map, reverse, reverse_aux}
use mathlib.Core.Logic.{⊎_elim}
use mathlib.Core.Bool.{Bool, true, false}
use Prim.Native.Nat.{ℕ, zero, suc, min, ◌+◌, ◌-◌, ◌≤◌, ◌<◌}
use native.Mathlib.Omega.{arith}
use lib.ListN.{length, get_or, drop, length-drop, length-reverse, get_or-map}
use lib.Seq.{drop-cons, get_or-drop}
use Rattle.std.proofs.Common.{Option, Some, None, MatchOption, unwrap_or}
use Rattle.laws.specs.Lists.{same}
use Rattle.laws.proofs.Tests.{lt_or_le}
use Rattle.rules.specs.Listing.{lines_of, statement_lines, unhex}
use Rattle.pairing.specs.Pairings.{Frames, frames_of, common}
use Rattle.pairing.specs.Lines.{chars_of, line_in, Lined}
use Rattle.pairing.proofs.Accepted.{length_map}
use Rattle.pairing.proofs.DigitsBack.{same_lines}

map_twice : {X Y Z : Type 0} (f : X → Y) (g : Y → Z) (l : List X) → map (λ x. g (f x)) l ≡ map g (map f l)
map_twice f g [] = refl
map_twice f g (x ∷ l) = ap (λ (t : List _). g (f x) ∷ t) (map_twice f g l)

frames_chars : (text : List ℕ) → frames_of text ≡ map unhex (chars_of text)
unfolding frames_of chars_of
frames_chars text = map_twice (λ l. l.chars) unhex (statement_lines (lines_of text))

pub frame_at : (text : List ℕ) (i : ℕ) → get_or (frames_of text) i [] ≡ unhex (line_in text i)
unfolding unhex
frame_at text i = ap (λ (l : List (List ℕ)). get_or l i []) (frames_chars text) ∙ get_or-map unhex (chars_of text) i []

pub frames_count : (text : List ℕ) → length (frames_of text) ≡ length (chars_of text)
frames_count text = ap length (frames_chars text) ∙ length_map unhex (chars_of text)

-- two frames are the same where their lines are
pub same_frames : (s starts : List ℕ) (n i : ℕ) (t starts' : List ℕ) (m j : ℕ) → Lined s starts n → Lined t starts' m → i < n → j < m
    → same (line_in s i) (line_in t j) ≡ same (get_or (frames_of s) i []) (get_or (frames_of t) j [])
same_frames s starts n i t starts' m j a b h k =
    same_lines (line_in s i) (line_in t j) (a.written i h) (b.written j k)
    ∙ ap₂ same (sym (frame_at s i)) (sym (frame_at t j))

-- ---- how many are common, from place k on
pub common_more : (a b : Frames) (k : ℕ) → k < length a → k < length b → same (get_or a k []) (get_or b k []) ≡ true
    → common (drop k a) (drop k b) ≡ suc (common (drop (suc k) a) (drop (suc k) b))
unfolding common
common_more a b k h l e = rw (drop-cons a k [] h, drop-cons b k [] l, e)

pub common_stop : (a b : Frames) (k : ℕ) → k < length a → k < length b → same (get_or a k []) (get_or b k []) ≡ false
    → common (drop k a) (drop k b) ≡ 0
unfolding common
common_stop a b k h l e = rw (drop-cons a k [] h, drop-cons b k [] l, e)

none_common : (a b : Frames) → (length a ≡ 0) → common a b ≡ 0
unfolding common
none_common [] b e = refl
none_common (x ∷ a) b e = absurd (omega arith)

none_common' : (a b : Frames) → (length b ≡ 0) → common a b ≡ 0
unfolding common
none_common' [] b e = refl
none_common' (x ∷ a) [] e = refl
none_common' (x ∷ a) (y ∷ b) e = absurd (omega arith)

pub common_end : (a b : Frames) (k : ℕ) → length a ≤ k → common (drop k a) (drop k b) ≡ 0
common_end a b k h = none_common (drop k a) (drop k b) (omega (arith, length-drop k a))

pub common_end' : (a b : Frames) (k : ℕ) → length b ≤ k → common (drop k a) (drop k b) ≡ 0
common_end' a b k h = none_common' (drop k a) (drop k b) (omega (arith, length-drop k b))

-- ---- as `find` looks for the first two that differ: t k says whether those at k are the same
module _ (a b : Frames) (most : ℕ) (h : most ≡ min (length a) (length b)) where
  taken : (i : ℕ) → i ≤ most → ((k : ℕ) → k < i → same (get_or a k []) (get_or b k []) ≡ true)
      → common a b ≡ i + common (drop i a) (drop i b)
  taken zero l e = omega arith
  taken (suc i) l e =
      let m = common_more a b i (omega arith) (omega arith) (e i (omega arith)) in
      omega (arith, m, taken i (omega arith) (λ k o. e k (omega arith)))

  none_left : common (drop most a) (drop most b) ≡ 0
  none_left = ⊎_elim (λ l. common_end a b most (omega arith)) (λ l. common_end' a b most (omega arith)) (lt_or_le (length a) (length b))

  pub first_unlike : (t : ℕ → Bool) → ((k : ℕ) → k < most → t k ≡ same (get_or a k []) (get_or b k [])) → (o : Option ℕ)
      → MatchOption o ((k : ℕ) → 0 ≤ k → k < most → t k ≡ true)
      (λ i. (0 ≤ i) × (i < most) × (t i ≡ false) × ((k : ℕ) → 0 ≤ k → k < i → t k ≡ true))
      → (unwrap_or o most ≡ common a b) × (unwrap_or o most ≤ most)
  first_unlike t says None e =
      (omega (arith, taken most (omega arith) (λ k l. sym (says k l) ∙ e k (omega arith) l), none_left), omega arith)
  first_unlike t says (Some i) e =
      let l : i < most = e.1 in
      let s = common_stop a b i (omega arith) (omega arith) (sym (says i l) ∙ e.2) in
      let m = taken i (omega arith) (λ k o. sym (says k (omega arith)) ∙ e.3 k (omega arith) o) in
      (omega (arith, m, s), omega arith)

-- ---- counted from the end
module _ {A : Type 0} (d : A) where
  aux_behind : (l r : List A) (j : ℕ) → get_or (reverse_aux l r) (length l + j) d ≡ get_or r j d
  aux_behind [] r j = let z : 0 + j ≡ j = omega arith in rw z
  aux_behind (x ∷ l) r j = let z : suc (length l) + j ≡ length l + suc j = omega arith in rw z (aux_behind l (x ∷ r) (suc j))

  aux_at : (l r : List A) (k : ℕ) → k < length l → get_or (reverse_aux l r) k d ≡ get_or l (length l - suc k) d
  aux_at [] r k h = absurd (omega arith)
  aux_at (x ∷ l) r k h = ⊎_elim (inside (aux_at l (x ∷ r) k)) last (lt_or_le k (length l))
    where
      inside : (k < length l → get_or (reverse_aux l (x ∷ r)) k d ≡ get_or l (length l - suc k) d) → k < length l
          → get_or (reverse_aux l (x ∷ r)) k d ≡ get_or (x ∷ l) (suc (length l) - suc k) d
      inside below m = let z : suc (length l) - suc k ≡ suc (length l - suc k) = omega arith in rw z (below m)

      last : length l ≤ k → get_or (reverse_aux l (x ∷ r)) k d ≡ get_or (x ∷ l) (suc (length l) - suc k) d
      last m =
          let z : suc (length l) - suc k ≡ 0 = omega arith in
          let y : k ≡ length l + 0 = omega arith in
          rw (z, y) (aux_behind l (x ∷ r) 0)

  pub reverse_at : (l : List A) (k : ℕ) → k < length l → get_or (reverse l) k d ≡ get_or l (length l - suc k) d
  reverse_at l k h = aux_at l [] k h

-- frame k from the end of what is left behind b
pub last_at : (a : Frames) (b k : ℕ) → b + k < length a → get_or (reverse (drop b a)) k [] ≡ get_or a (length a - 1 - k) []
last_at a b k h =
    let n = length-drop b a in
    let z : b + (length (drop b a) - suc k) ≡ length a - 1 - k = omega arith in
    reverse_at [] (drop b a) k (omega arith) ∙ get_or-drop b a (length (drop b a) - suc k) [] ∙ ap (λ (i : ℕ). get_or a i []) z

pub last_count : (a : Frames) (b : ℕ) → length (reverse (drop b a)) ≡ length a - b
last_count a b = length-reverse (drop b a) ∙ length-drop b a
