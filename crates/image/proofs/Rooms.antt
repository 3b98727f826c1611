-- A room with bytes written from an address on: nothing, more behind them, and what the rest of an image needs in front.
use mathlib.Core.Path.{◌≡◌, sym, ap, ◌∙◌}
use mathlib.Core.List.{List, [], ◌++◌, append_assoc, append-nil}
use Prim.Native.Nat.{ℕ, ◌+◌, ◌-◌, ◌≤◌}
use native.Mathlib.Omega.{arith}
use lib.ListN.{length, take, drop, replicate, length-append, length-drop, length-replicate, replicate-append-replicate, take-append-drop}
use lib.Seq.{length-take-le, take_at, drop_at, drop-drop}
use Rattle.image.specs.Image.{put}

pub put_none : (room : List ℕ) (q : ℕ) → put room q [] ≡ room
put_none room q =
    let z : q + 0 ≡ q = omega arith in
    ap (λ l. l ++ drop (q + 0) room) (append-nil (take q room)) ∙ ap (λ n. take q room ++ drop n room) z ∙ take-append-drop q room

-- zeros in front
pub put_first : (room : List ℕ) (n : ℕ) → put room 0 (replicate n 0) ≡ replicate n 0 ++ drop n room
put_first room n =
    let z : 0 + length (replicate {A = ℕ} n 0) ≡ n = omega (arith, length-replicate {A = ℕ} n 0) in
    ap (λ (m : ℕ). replicate n 0 ++ drop m room) z

module _ (room : List ℕ) (q : ℕ) (b : List ℕ) (fits : q + length b ≤ length room) where
  front : length (take q room ++ b) ≡ q + length b
  front = length-append (take q room) b ∙ ap (λ n. n + length b) (length-take-le q room (omega arith))

  pub length_put : length (put room q b) ≡ length room
  length_put = omega (arith, length-append (take q room ++ b) (drop (q + length b) room), front, length-drop (q + length b) room)

  module _ (c : List ℕ) where
    ends : q + length b + length c ≡ q + length (b ++ c)
    ends = omega (arith, length-append b c)

    behind_more : drop (q + length b + length c) (put room q b) ≡ drop (q + length (b ++ c)) room
    behind_more =
        sym (drop-drop (length c) (q + length b) (put room q b))
        ∙ ap (drop (length c)) (drop_at (take q room ++ b) (drop (q + length b) room) (q + length b) front)
        ∙ drop-drop (length c) (q + length b) room
        ∙ ap (λ m. drop m room) ends

    pub put_more : put (put room q b) (q + length b) c ≡ put room q (b ++ c)
    put_more =
        ap (λ l. l ++ c ++ drop (q + length b + length c) (put room q b)) (take_at (take q room ++ b) (drop (q + length b) room) (q + length b) front)
        ∙ ap (λ l. take q room ++ b ++ c ++ l) behind_more
        ∙ ap (λ l. l ++ drop (q + length (b ++ c)) room) (append_assoc (take q room) b c)

-- ---- zeros, the rest of an image, and what is behind it

-- of an image of n bytes the last ones are `rest`; zeros in front of them
abbrev pub room_of : (n : ℕ) (rest behind : List ℕ) → List ℕ
room_of n rest behind = replicate (n - length rest) 0 ++ (rest ++ behind)

pub room_length : (n : ℕ) (rest behind : List ℕ) → length rest ≤ n → length (room_of n rest behind) ≡ n + length behind
room_length n rest behind l =
    omega (
      arith,
      length-append (replicate (n - length rest) 0) (rest ++ behind),
      length-replicate {A = ℕ} (n - length rest) 0,
      length-append rest behind,
    )

-- bytes right before the rest, in place of zeros
module _ (n q : ℕ) (rest behind b : List ℕ) (e : n ≡ q + length (b ++ rest)) where
  zeros_before : n - length rest ≡ q + length b
  zeros_before = omega (arith, length-append b rest)

  zeros_left : n - length (b ++ rest) ≡ q
  zeros_left = omega arith

  zeros_split : room_of n rest behind ≡ replicate q 0 ++ (replicate (length b) 0 ++ (rest ++ behind))
  zeros_split =
      ap (λ m. replicate m 0 ++ (rest ++ behind)) zeros_before
      ∙ ap (λ z. z ++ (rest ++ behind)) (sym (replicate-append-replicate q (length b) 0))
      ∙ append_assoc (replicate q 0) (replicate (length b) 0) (rest ++ behind)

  joined : replicate q 0 ++ (b ++ (rest ++ behind)) ≡ room_of n (b ++ rest) behind
  joined = ap (λ z. replicate q 0 ++ z) (sym (append_assoc b rest behind)) ∙ ap (λ m. replicate m 0 ++ ((b ++ rest) ++ behind)) (sym zeros_left)

  before_is : take q (room_of n rest behind) ≡ replicate q 0
  before_is = ap (take q) zeros_split ∙ take_at (replicate q 0) (replicate (length b) 0 ++ (rest ++ behind)) q (length-replicate q 0)

  rest_is : drop (q + length b) (room_of n rest behind) ≡ rest ++ behind
  rest_is =
      ap (λ m. drop (q + length b) (replicate m 0 ++ (rest ++ behind))) zeros_before
      ∙ drop_at (replicate (q + length b) 0) (rest ++ behind) (q + length b) (length-replicate (q + length b) 0)

  pub room_put : put (room_of n rest behind) q b ≡ room_of n (b ++ rest) behind
  room_put =
      ap (λ z. z ++ b ++ drop (q + length b) (room_of n rest behind)) before_is
      ∙ ap (λ z. replicate q 0 ++ b ++ z) rest_is
      ∙ append_assoc (replicate q 0) b (rest ++ behind)
      ∙ joined

  -- zeros there need not be written
  pub room_gap : b ≡ replicate (length b) 0 → room_of n rest behind ≡ room_of n (b ++ rest) behind
  room_gap z = zeros_split ∙ ap (λ y. replicate q 0 ++ (y ++ (rest ++ behind))) (sym z) ∙ joined

pub room_start : (n : ℕ) (behind : List ℕ) → replicate n 0 ++ behind ≡ room_of n [] behind
room_start n behind = let z : n ≡ n - 0 = omega arith in ap (λ m. replicate m 0 ++ behind) z

pub room_end : (rest behind : List ℕ) → room_of (length rest) rest behind ≡ rest ++ behind
room_end rest behind = let z : length rest - length rest ≡ 0 = omega arith in ap (λ m. replicate m 0 ++ (rest ++ behind)) z
