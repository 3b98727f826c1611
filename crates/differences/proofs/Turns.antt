-- The walk, turn by turn: what is left of the text behind the pairs that were passed, how long it is, and pieces that are stored before it.
use mathlib.Core.Path.{◌≡◌, refl, sym, ap, ◌∙◌}
use mathlib.Core.List.{List, [], ◌++◌}
use Prim.Native.Nat.{ℕ, ◌+◌, ◌-◌, ◌≤◌, ◌<◌}
use native.Mathlib.Numerals.{add-one}
use native.Mathlib.Omega.{arith}
use lib.ListN.{length, get_or, drop, length-append}
use Rattle.rules.specs.Output.{line_of}
use Rattle.rules.specs.Listing.{unhex}
use Rattle.digits.specs.Digits.{laid}
use Rattle.digits.proofs.Rooms.{length_laid, laid_more}
use Rattle.pairing.specs.Pairings.{Frame, Pair, frames_of}
use Rattle.pairing.specs.Promise.{InOrder}
use Rattle.pairing.specs.Lines.{line_in}
use Rattle.pairing.specs.Tables.{pairs_in}
use Rattle.pairing.proofs.Frames.{frame_at}
use Rattle.differences.specs.declared.walks.Counts.{Counts}
use Rattle.differences.specs.Changes.{paired, between, changes_of, bytes_of, text_of}
use Rattle.differences.specs.Walks.{run_text, text_for}
use Rattle.differences.proofs.Steps.{next_pair, no_pair, order_next}

-- behind k pairs, where statements i and j come next
abbrev pub left : (first second pairs : List ℕ) (count i j k : ℕ) → List ℕ
left first second pairs count i j k = text_of (between (frames_of first) (frames_of second) i j (drop k (pairs_in pairs count)))

pub left_first : (first second pairs : List ℕ) (counts : Counts)
    → left first second pairs counts.pairs 0 0 0 ≡ text_for first second pairs counts
unfolding changes_of
left_first first second pairs counts = refl

-- the line of a pair, by the lines of the listings
abbrev pub pair_line : (first second : List ℕ) (p q : ℕ) → List ℕ
pair_line first second p q = line_of (bytes_of (paired p q (unhex (line_in first p)) (unhex (line_in second q))))

module _ (first second pairs : List ℕ) (count i j k : ℕ) where
  abbrev p : ℕ
  p = get_or pairs k 0

  abbrev q : ℕ
  q = get_or pairs (1024 + k) 0

  abbrev removed_here : List ℕ
  removed_here = run_text 0x71 (frames_of first) (p - i) i

  abbrev added_here : List ℕ
  added_here = run_text 0x72 (frames_of second) (q - j) j

  abbrev left_behind : List ℕ
  left_behind = left first second pairs count (p + 1) (q + 1) (k + 1)

  pub left_turn : k < count → removed_here ++ (added_here ++ (pair_line first second p q ++ left_behind)) ≡ left first second pairs count i
      j k
  left_turn h =
      ap (λ (f : Frame). removed_here ++ (added_here ++ (line_of (bytes_of (paired p q f (unhex (line_in second q)))) ++ left_behind)))
      (sym (frame_at first p))
      ∙ ap (λ (f : Frame). removed_here ++ (added_here ++ (line_of (bytes_of (paired p q (get_or (frames_of first) p []) f))
      ++ left_behind)))
      (sym (frame_at second q))
      ∙ rw (add-one p, add-one q, add-one k) (sym (next_pair pairs count k (frames_of first) (frames_of second) i j h))

  pub left_length : k < count
      → length removed_here + (length added_here + (length (pair_line first second p q) + length left_behind)) ≡ length
      (left first second pairs count i j k)
  left_length h = omega (
    arith,
    ap length (left_turn h),
    length-append removed_here (added_here ++ (pair_line first second p q ++ left_behind)),
    length-append added_here (pair_line first second p q ++ left_behind),
    length-append (pair_line first second p q) left_behind,
  )

  pub left_none : count ≤ k
      → run_text 0x71 (frames_of first) (length (frames_of first) - i) i ++ run_text 0x72 (frames_of second)
      (length (frames_of second) - j) j
      ≡ left first second pairs count i j k
  left_none h = sym (no_pair pairs count k (frames_of first) (frames_of second) i j h)

-- the order of what is left, as the code counts
pub record Next (n m i j p q : ℕ) (ps : List Pair) : Type 0 where
  pub low : i ≤ p
  pub high : p < n
  pub low' : j ≤ q
  pub high' : q < m
  pub rest : InOrder n m (p + 1) (q + 1) ps

pub order_turn : (pairs : List ℕ) (count k n m i j : ℕ) → k < count → InOrder n m i j (drop k (pairs_in pairs count))
    → Next n m i j (get_or pairs k 0) (get_or pairs (1024 + k) 0) (drop (k + 1) (pairs_in pairs count))
order_turn pairs count k n m i j h o =
    let x = order_next pairs count k n m i j h o in
    record {
      low = x.0;
      high = x.1;
      low' = x.2;
      high' = x.3;
      rest = rw
          (add-one (get_or pairs k 0), add-one (get_or pairs (1024 + k) 0), add-one k) x.4;
    }

-- ---- three pieces stored one behind the other, and what is left behind them
module _ (d d₁ d₂ d₃ x y z rest : List ℕ) (a b c e : ℕ) (p : d₁ ≡ laid d a x) (q : d₂ ≡ laid d₁ b y) (r : d₃ ≡ laid d₂ c z)
    (h : b ≡ a + length x) (k : c ≡ b + length y) (l : e ≡ c + length z) (room : e + length rest ≤ length d) where
  pub three_laid : laid d₃ e rest ≡ laid d a (x ++ (y ++ (z ++ rest)))
  three_laid =
      let u : length d₁ ≡ length d = ap length p ∙ length_laid d a x (omega arith) in
      let v : length d₂ ≡ length d = ap length q ∙ length_laid d₁ b y (omega arith) ∙ u in
      let m = length-append z rest in
      let n = length-append y (z ++ rest) in
      ap (λ (o : List ℕ). laid o e rest) r ∙ laid_more d₂ z rest c e (omega arith) (omega arith)
      ∙ ap (λ (o : List ℕ). laid o c (z ++ rest)) q ∙ laid_more d₁ y (z ++ rest) b c (omega arith) (omega arith)
      ∙ ap (λ (o : List ℕ). laid o b (y ++ (z ++ rest))) p ∙ laid_more d x (y ++ (z ++ rest)) a b (omega arith) (omega arith)

pub two_pieces : (d d₁ d₂ x y : List ℕ) (a b : ℕ) → d₁ ≡ laid d a x → d₂ ≡ laid d₁ b y → b ≡ a + length x → b + length y ≤ length d
    → d₂ ≡ laid d a (x ++ y)
two_pieces d d₁ d₂ x y a b p q h room = q ∙ ap (λ (o : List ℕ). laid o b y) p ∙ laid_more d x y a b (omega arith) room

-- what is left behind the last pair is the rest of both
pub left_ends : (first second pairs : List ℕ) (count n m i j k : ℕ) → length (frames_of first) ≡ n → length (frames_of second) ≡ m
    → count ≤ k → run_text 0x71 (frames_of first) (n - i) i ++ run_text 0x72 (frames_of second) (m - j) j ≡ left first second pairs count i
    j k
left_ends first second pairs count n m i j k e f h = rw (e, f) at (left_none first second pairs count i j k h)
