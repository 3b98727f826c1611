-- How long a run of lines is, by where its lines begin in the text.
use mathlib.Core.Path.{◌≡◌, ap, ◌∙◌}
use mathlib.Core.List.{List, [], ◌∷◌, ◌++◌}
use Prim.Native.Nat.{ℕ, zero, suc, ◌+◌, ◌-◌, ◌*◌, ◌≤◌, ◌<◌}
use native.Mathlib.Omega.{arith}
use lib.ListN.{length, get_or, length-append}
use Rattle.rules.specs.Expressions.{pair}
use Rattle.rules.specs.Output.{line_of}
use Rattle.pairing.specs.Pairings.{Frame, frames_of}
use Rattle.pairing.specs.Lines.{line_in, Lined}
use Rattle.pairing.proofs.Frames.{frame_at}
use Rattle.differences.specs.Walks.{run_text}
use Rattle.differences.proofs.Pieces.{one_size}

module _ (text starts : List ℕ) (n : ℕ) (l : Lined text starts n) where
  -- one more line of a run
  pub line_of_run : (kind i : ℕ) → i < n → length (line_of (kind ∷ (pair i ++ get_or (frames_of text) i []))) ≡ 7 + length (line_in text i)
  line_of_run kind i h =
      ap (λ (f : Frame). length (line_of (kind ∷ (pair i ++ f)))) (frame_at text i) ∙ one_size kind i (line_in text i) (l.written i h)

  -- a run begins no later than it ends
  pub rising : (k i : ℕ) → i + k ≤ n → get_or starts i 0 ≤ get_or starts (i + k) 0
  rising zero i h = let z : i + 0 ≡ i = omega arith in rw z (omega arith)
  rising (suc k) i h = let z : i + suc k ≡ suc i + k = omega arith in rw z
      (omega (arith, (l.lines i (omega arith)).next, rising k (suc i) (omega arith)))

  -- no line begins later than it may
  pub start_bound : (i : ℕ) → i ≤ n → get_or starts i 0 ≤ 5 + 249 * i
  start_bound zero h = l.begins
  start_bound (suc i) h = omega (arith, (l.lines i (omega arith)).next, (l.written i (omega arith)).short, start_bound i (omega arith))

  run_length' : (kind k i : ℕ) → i + k ≤ n → length (run_text kind (frames_of text) k i) + get_or starts i 0 ≡ get_or starts (i + k) 0 + 6
      * k
  unfolding run_text
  run_length' kind zero i h = let z : i + 0 ≡ i = omega arith in rw z (omega arith)
  run_length' kind (suc k) i h =
      let z : i + suc k ≡ suc i + k = omega arith in
      let x = line_of_run kind i (omega arith) in
      let y = run_length' kind k (suc i) (omega arith) in
      rw z (omega (
        arith,
        length-append (line_of (kind ∷ (pair i ++ get_or (frames_of text) i []))) (run_text kind (frames_of text) k (suc i)),
        x,
        y,
        (l.lines i (omega arith)).next,
      ))

  pub run_length : (kind i to : ℕ) → i ≤ to → to ≤ n
      → get_or starts to 0 - get_or starts i 0 + 6 * (to - i) ≡ length (run_text kind (frames_of text) (to - i) i)
  run_length kind i to h k =
      let z : i + (to - i) ≡ to = omega arith in
      omega (arith, rw z at (run_length' kind (to - i) i (omega arith)), rw z at (rising (to - i) i (omega arith)))

  pub rises_to : (i to : ℕ) → i ≤ to → to ≤ n → get_or starts i 0 ≤ get_or starts to 0
  rises_to i to h k = let z : i + (to - i) ≡ to = omega arith in rw z at (rising (to - i) i (omega arith))

  -- a run has no more than 255 characters a line
  pub run_bound : (k i : ℕ) → i + k ≤ n → get_or starts (i + k) 0 ≤ get_or starts i 0 + 249 * k
  run_bound zero i h = let z : i + 0 ≡ i = omega arith in rw z (omega arith)
  run_bound (suc k) i h =
      let z : i + suc k ≡ suc i + k = omega arith in
      rw z (omega (arith, (l.lines i (omega arith)).next, (l.written i (omega arith)).short, run_bound k (suc i) (omega arith)))

  pub run_within : (i to : ℕ) → i ≤ to → to ≤ n → get_or starts to 0 - get_or starts i 0 + 6 * (to - i) ≤ 255 * (to - i)
  run_within i to h k =
      let z : i + (to - i) ≡ to = omega arith in
      omega (arith, rw z at (run_bound (to - i) i (omega arith)))

-- what a run asks for
pub asked : (text starts : List ℕ) (n : ℕ) → Lined text starts n → (i to : ℕ) → i ≤ to → to ≤ n → (i ≤ to) × (to ≤ 1024)
    × (get_or starts i 0 ≤ get_or starts to 0) × (get_or starts to 0 ≤ 262144)
asked text starts n l i to h k =
    let f = l.few in
    let b = start_bound text starts n l to k in
    (h, omega arith, rises_to text starts n l i to h k, omega arith)

-- and what it comes to
pub comes_to : (kind : ℕ) (text starts : List ℕ) (n : ℕ) → Lined text starts n → (i to r : ℕ) → i ≤ to → to ≤ n
    → r ≡ get_or starts to 0 - get_or starts i 0 + 6 * (to - i)
    → (r ≡ length (run_text kind (frames_of text) (to - i) i)) × (r ≤ 255 * (to - i))
comes_to kind text starts n l i to r h k e =
    let x = run_length text starts n l kind i to h k in
    let y = run_within text starts n l i to h k in
    (e ∙ x, omega arith)
