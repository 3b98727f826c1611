-- One turn of the walk: the listing from q on is the first statement's line and the listing from the next on.
use mathlib.Core.Path.{◌≡◌, refl, subst, sym, ap, ◌∙◌}
use mathlib.Core.List.{List, [], ◌∷◌, ◌++◌}
use mathlib.Core.Bool.{Bool, true, false, cond}
use Prim.Native.Nat.{ℕ, zero, suc, ◌+◌, ◌-◌, ◌*◌, ◌<◌, ◌≤◌}
use native.Mathlib.Omega.{arith}
use lib.Dec.{ltb}
use lib.ListN.{length, get_or, take, drop, length-append, length-drop, drop_of_length-le}
use lib.Seq.{drop-cons, drop-drop, take_all, length-take-le}
use Rattle.rules.specs.Forms.{size_at, operands_at}
use Rattle.rules.specs.Programs.{Placeℕ, Addressℕ, Space, Stmt, Program, space_at, bytes_in, byte_count}
use Rattle.rules.specs.Layout.{behind, after}
use Rattle.rules.specs.Output.{frame_of, line_of, lines_in, text_of}
use Rattle.decoding.specs.Opcodes.{form_of_byte}
use Rattle.decoding.specs.Operands.{none_outside}
use Rattle.digits.proofs.Rooms.{length_line}
use Rattle.readback.specs.declared.frames.Step.{Step}
use Rattle.readback.specs.ReadBack.{data_of, instruction_of, of_form, read_one, read_from, read_all, listing_of}
use Rattle.readback.specs.Frames.{FrameOf}
use Rattle.readback.specs.Walks.{first_on, all_on, StepAt}
use Rattle.readback.proofs.All.{left}

-- ---- the listing of statements, one more in front

pub listing_none : listing_of [] ≡ []
unfolding text_of lines_in
listing_none = refl

pub listing_more : (x : Stmt) (p : Program) → listing_of (x ∷ p) ≡ line_of (frame_of x) ++ listing_of p
unfolding text_of lines_in
listing_more x p = refl

-- ---- places count for nothing

module _ (i j : Placeℕ) (q : Addressℕ) (s : List ℕ) where
  form_frame : (f : ℕ) → frame_of (of_form i q s f) ≡ frame_of (of_form j q s f)
  unfolding frame_of
  form_frame f = on (ltb (length s) (size_at f)) (none_outside f s (q + size_at f) 0 (operands_at f))
    where
      on : (cut inside : Bool)
          → frame_of (cond cut (data_of s) (cond inside (instruction_of i q s f) (data_of (take 1 s)))) ≡ frame_of
          (cond cut (data_of s) (cond inside (instruction_of j q s f) (data_of (take 1 s))))
      on true b = refl
      on false true = refl
      on false false = refl

  form_space : (f : ℕ) → space_at q (of_form i q s f) ≡ space_at q (of_form j q s f)
  form_space f = on (ltb (length s) (size_at f)) (none_outside f s (q + size_at f) 0 (operands_at f))
    where
      on : (cut inside : Bool)
          → space_at q (cond cut (data_of s) (cond inside (instruction_of i q s f) (data_of (take 1 s)))) ≡ space_at q
          (cond cut (data_of s) (cond inside (instruction_of j q s f) (data_of (take 1 s))))
      on true b = refl
      on false true = refl
      on false false = refl

  one_frame : frame_of (read_one i q s) ≡ frame_of (read_one j q s)
  unfolding read_one
  one_frame = form_frame (form_of_byte (get_or s 0 0))

  one_space : space_at q (read_one i q s) ≡ space_at q (read_one j q s)
  unfolding read_one
  one_space = form_space (form_of_byte (get_or s 0 0))

-- what is read is the same but for its places
module _ {X : Type 0} (W : Program → X)
    (cons : (x y : Stmt) (p r : Program) → frame_of x ≡ frame_of y → W p ≡ W r → W (x ∷ p) ≡ W (y ∷ r)) where
  aside : (k : ℕ) (i j : Placeℕ) (q : Addressℕ) (s : List ℕ) → W (read_from k i q s) ≡ W (read_from k j q s)
  unfolding read_from
  aside k i j q [] = refl
  aside (suc k) i j q (b ∷ s) = aside k i j q s
  aside zero i j q (b ∷ s) =
      let t : List ℕ = b ∷ s in
      let x : Stmt = read_one i q t in
      let y : Stmt = read_one j q t in
      cons x y (read_from (byte_count q x - 1) (suc i) (after q x) s) (read_from (byte_count q y - 1) (suc j) (after q y) s)
      (one_frame i j q t)
      (ap (λ (e : Space). W (read_from (bytes_in e - 1) (suc i) (behind q e) s)) (one_space i j q t)
      ∙ aside (byte_count q y - 1) (suc i) (suc j) (after q y) s)

pub listing_aside : (i j : Placeℕ) (q : Addressℕ) (s : List ℕ) → listing_of (read_all i q s) ≡ listing_of (read_all j q s)
listing_aside i j q s =
    aside listing_of (λ x y p r e d. listing_more x p ∙ ap (λ (f : List ℕ). line_of f ++ listing_of p) e
    ∙ ap (λ (t : List ℕ). line_of (frame_of y) ++ t) d ∙ sym (listing_more y r)) 0 i j q s

pub count_aside : (i j : Placeℕ) (q : Addressℕ) (s : List ℕ) → length (read_all i q s) ≡ length (read_all j q s)
count_aside i j q s = aside (λ p. length p) (λ x y p r e d. ap (λ (n : ℕ). suc n) d) 0 i j q s

-- ---- the bytes of a statement are passed

pub skip : (k : ℕ) (i : Placeℕ) (q : Addressℕ) (s : List ℕ) → read_from k i q s ≡ read_from 0 i q (drop k s)
unfolding read_from
skip zero i q s = refl
skip (suc k) i q [] = refl
skip (suc k) i q (b ∷ s) = skip k i q s

module _ (image : List ℕ) (q : Addressℕ) (r : Step) (h : q < length image) (t : StepAt image q r) where
  all_turn : all_on image q ≡ first_on image q ∷ read_all 1 (q + r.0) (drop (q + r.0) image)
  unfolding read_from
  all_turn =
      let b : ℕ = get_or image q 0 in
      let s : List ℕ = drop (suc q) image in
      let e : drop q image ≡ b ∷ s = drop-cons image q 0 h in
      let y : Stmt = read_one 0 q (b ∷ s) in
      let same : first_on image q ≡ y = ap (read_one 0 q) e in
      let n : byte_count q y ≡ r.0 = ap (byte_count q) (sym same) ∙ t.takes in
      let a : after q y ≡ q + r.0 = ap (after q) (sym same) ∙ t.goes_on in
      let rest : read_from (r.0 - 1) 1 (q + r.0) s ≡ read_all 1 (q + r.0) (drop (q + r.0) image) =
      skip (r.0 - 1) 1 (q + r.0) s
      ∙ ap (read_all 1 (q + r.0)) (left r.0 b s t.some ∙ ap (drop r.0) (sym e) ∙ drop-drop r.0 q image) in
      ap (read_all 0 q) e ∙ ap (λ (x : Stmt). x ∷ read_from (byte_count q y - 1) 1 (after q y) s) (sym same)
      ∙ ap (λ (m : ℕ). first_on image q ∷ read_from (m - 1) 1 (after q y) s) n
      ∙ ap (λ (m : ℕ). first_on image q ∷ read_from (r.0 - 1) 1 m s) a
      ∙ ap (λ (p : Program). first_on image q ∷ p) rest

  pub listing_turn : listing_of (all_on image q) ≡ line_of (frame_of (first_on image q)) ++ listing_of (all_on image (q + r.0))
  listing_turn =
      ap listing_of all_turn ∙ listing_more (first_on image q) (read_all 1 (q + r.0) (drop (q + r.0) image))
      ∙ ap (λ (l : List ℕ). line_of (frame_of (first_on image q)) ++ l) (listing_aside 1 0 (q + r.0) (drop (q + r.0) image))

  pub count_turn : length (all_on image q) ≡ suc (length (all_on image (q + r.0)))
  count_turn = ap (λ (p : Program). length p) all_turn ∙ ap (λ (n : ℕ). suc n) (count_aside 1 0 (q + r.0) (drop (q + r.0) image))

  pub line_turn : length (line_of (frame_of (first_on image q))) ≡ 2 * r.1 + 1
  line_turn = length_line (frame_of (first_on image q)) ∙ ap (λ (n : ℕ). 2 * n + 1) t.frame

  pub length_turn : length (listing_of (all_on image q)) ≡ 2 * r.1 + 1 + length (listing_of (all_on image (q + r.0)))
  length_turn =
      ap (λ (l : List ℕ). length l) listing_turn
      ∙ omega (arith, line_turn, length-append (line_of (frame_of (first_on image q))) (listing_of (all_on image (q + r.0))))

-- the first line is a part of it
pub first_room : (image : List ℕ) (q : Addressℕ) → q < length image
    → length (line_of (frame_of (first_on image q))) ≤ length (listing_of (all_on image q))
unfolding read_from
first_room image q h =
    let b : ℕ = get_or image q 0 in
    let s : List ℕ = drop (suc q) image in
    let y : Stmt = read_one 0 q (b ∷ s) in
    let p : Program = read_from (byte_count q y - 1) 1 (after q y) s in
    let e : drop q image ≡ b ∷ s = drop-cons image q 0 h in
    let n : length (line_of (frame_of (first_on image q))) ≡ length (line_of (frame_of y)) = ap
    (λ (t : List ℕ). length (line_of (frame_of (read_one 0 q t)))) e in
    let m : length (listing_of (all_on image q)) ≡ length (line_of (frame_of y) ++ listing_of p) = ap
    (λ (t : List ℕ). length (listing_of (read_all 0 q t))) e ∙ ap (λ (t : List ℕ). length t) (listing_more y p) in
    omega (arith, length-append (line_of (frame_of y)) (listing_of p))

-- at the end nothing is left
pub none_left : (image : List ℕ) (q : Addressℕ) → length image ≤ q → all_on image q ≡ []
unfolding read_from
none_left image q h = ap (read_all 0 q) (drop_of_length-le image h)

-- ---- what is found for the bytes from q on, as the code lends them

pub frame_found : (image : List ℕ) (q : Addressℕ) (r : Step) (room : List ℕ) → FrameOf q (take (length image - q) (drop q image)) r room
    → FrameOf q (drop q image) r room
frame_found image q r room f =
    let e : take (length image - q) (drop q image) ≡ drop q image = take_all (length image - q) (drop q image)
    (omega (arith, length-drop q image)) in
    subst (λ (s : List ℕ). FrameOf q s r room) e f

pub step_found : (image : List ℕ) (q : Addressℕ) (r : Step) (room : List ℕ) → q < length image → FrameOf q (drop q image) r room
    → r.1 ≤ length room → StepAt image q r
step_found image q r room h f l =
    record {
      takes = f.takes 0;
      goes_on = f.goes_on 0;
      some = f.some;
      there = omega (arith, f.there, length-drop q image);
      frame = sym (ap (λ (x : List ℕ). length x) (f.frame 0)) ∙ length-take-le r.1 room l;
      short = f.short;
    }
