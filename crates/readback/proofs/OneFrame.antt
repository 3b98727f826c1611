-- The statement that bytes begin with, by where the end and its targets lie: what it is, how many bytes it takes, and its frame.
use mathlib.Core.Path.{◌≡◌, refl, sym, ap, ◌∙◌}
use mathlib.Core.List.{List, map}
use mathlib.Core.Bool.{true, false}
use Prim.Native.Nat.{ℕ, ◌+◌, ◌<◌, ◌≤◌}
use native.Mathlib.Omega.{arith}
use lib.ListN.{length, get_or, take, length-map}
use lib.Seq.{length-take-le}
use borrow.Author.Tests.{lt-ltb, le-ltb}
use Rattle.rules.specs.Forms.{size_at, operands_at}
use Rattle.rules.specs.Programs.{Placeℕ, Addressℕ, Stmt, byte_count}
use Rattle.rules.specs.Layout.{after}
use Rattle.rules.specs.Output.{frame_of}
use Rattle.decoding.specs.Opcodes.{form_of_byte}
use Rattle.decoding.specs.Operands.{plain, none_outside}
use Rattle.readback.specs.declared.frames.Step.{Step}
use Rattle.readback.specs.ReadBack.{data_of, instruction_of, of_form, read_one}
use Rattle.readback.specs.Frames.{instr_frame, FrameOf}

abbrev pub step : ℕ → ℕ → Step
step n end = record { 0 = n; 1 = end }

-- whatever statement it is at each place: x
is_frame : (q : Addressℕ) (s : List ℕ) (n end : ℕ) (room : List ℕ) (x : Placeℕ → Stmt) → ((i : Placeℕ) → read_one i q s ≡ x i)
    → ((i : Placeℕ) → byte_count q (x i) ≡ n)
    → ((i : Placeℕ) → after q (x i) ≡ q + n) → 1 ≤ n → n ≤ length s → ((i : Placeℕ) → take end room ≡ frame_of (x i)) → end ≤ 17
    → FrameOf q s (step n end) room
is_frame q s n end room x e count goes some there frame short =
    record {
      takes = λ i. ap (byte_count q) (e i) ∙ count i;
      goes_on = λ i. ap (after q) (e i) ∙ goes i;
      some = some;
      there = there;
      frame = λ i. frame i ∙ ap frame_of (sym (e i));
      short = short;
    }

data_count : (s : List ℕ) → length (map (λ b. plain b) s) ≡ length s
data_count s = length-map s (λ b. plain b)

module _ (q : Addressℕ) (s : List ℕ) (f : ℕ) (is : f ≡ form_of_byte (get_or s 0 0)) (end : ℕ) (room : List ℕ) (short : end ≤ 17) where
  as_form : (i : Placeℕ) → read_one i q s ≡ of_form i q s f
  unfolding read_one
  as_form i = ap (of_form i q s) (sym is)

  -- "where the end cuts an instruction, all bytes that remain"
  pub cut_frame : length s < size_at f → 1 ≤ length s → take end room ≡ frame_of (data_of s)
      → FrameOf q s (step (length s) end) room
  cut_frame l some e =
      is_frame q s (length s) end room (λ i. data_of s) (λ i. as_form i ∙ rw (lt-ltb (length s) (size_at f) l)) (λ i. data_count s)
      (λ i. ap (λ (n : ℕ). q + n) (data_count s)) some (omega arith) (λ i. e) short

  module _ (l : size_at f ≤ length s) where
    pub whole_frame : 1 ≤ size_at f → none_outside f s (q + size_at f) 0 (operands_at f) ≡ true
        → take end room ≡ instr_frame f s (q + size_at f)
        → FrameOf q s (step (size_at f) end) room
    unfolding frame_of
    whole_frame some inside e =
        is_frame q s (size_at f) end room (λ i. instruction_of i q s f) (λ i. as_form i ∙ rw (le-ltb (length s) (size_at f) l, inside))
        (λ i. refl) (λ i. refl) some l (λ i. e) short

    -- "the first byte alone"
    pub alone_frame : 1 ≤ length s → none_outside f s (q + size_at f) 0 (operands_at f) ≡ false
        → take end room ≡ frame_of (data_of (take 1 s))
        → FrameOf q s (step 1 end) room
    alone_frame some outside e =
        let n : length (map (λ b. plain b) (take 1 s)) ≡ 1 = data_count (take 1 s) ∙ length-take-le 1 s some in
        is_frame q s 1 end room (λ i. data_of (take 1 s)) (λ i. as_form i ∙ rw (le-ltb (length s) (size_at f) l, outside)) (λ i. n)
        (λ i. ap (λ (k : ℕ). q + k) n) (omega arith) some (λ i. e) short
