-- The listing with and without an org in front.
use mathlib.Core.Path.{◌≡◌, refl, sym, ap, ◌∙◌}
use mathlib.Core.List.{List, [], ◌∷◌, ◌++◌}
use mathlib.Core.Bool.{Bool, true, false, ◌&&◌, cond}
use Prim.Native.Nat.{ℕ, suc, ◌+◌, ◌/◌, ◌%◌, ◌<◌}
use native.Mathlib.Omega.{arith}
use lib.Dec.{ltb, leb, eqb}
use lib.ListN.{length, drop, length-append, drop_of_length-le}
use borrow.Author.Tests.{ltb-true, ltb-false, leb-true, leb-false, lt-leb, eqb-true, eqb-false, ne_eqb}
use Rattle.laws.proofs.Tests.{and_true, clash}
use Rattle.rules.specs.Programs.{Addressℕ, Program, org}
use Rattle.rules.specs.Output.{frame_of, line_of}
use Rattle.digits.proofs.Rooms.{length_line}
use Rattle.readback.specs.ReadBack.{read_from, read_all, statements_of, listing_of}
use Rattle.readback.specs.Walks.{all_on}
use Rattle.readback.proofs.Turns.{listing_more, listing_aside, count_aside}

abbrev pub org_in : (image : List ℕ) (start : Addressℕ) → Bool
org_in image start = ltb 0 start && ltb start (length image)

pub org_line : (l : Addressℕ) → length (line_of (frame_of (org l))) ≡ 7
unfolding frame_of
org_line l = length_line (frame_of (org l))

pub org_frame : (l : Addressℕ) (x y : ℕ) → l < 65536 → x ≡ l / 256 % 256 → y ≡ l % 256 → 5 ∷ x ∷ y ∷ [] ≡ frame_of (org l)
unfolding frame_of
org_frame l x y h e d = let k : x ≡ l / 256 = omega arith in rw (k, d)

module _ (image : List ℕ) (start : Addressℕ) where
  pub record WithOrg : Type 0 where
    pub above : 0 < start
    pub inside : start < length image
    pub count : length (statements_of image start) ≡ length (all_on image start) + 1
    pub listing : listing_of (statements_of image start) ≡ line_of (frame_of (org start)) ++ listing_of (all_on image start)
    pub length_is : length (listing_of (statements_of image start)) ≡ length (listing_of (all_on image start)) + 7

  pub with_org : org_in image start ≡ true → WithOrg
  unfolding statements_of
  with_org e =
      let t = and_true (ltb 0 start) (ltb start (length image)) e in
      let a : 0 < start = ltb-true 0 start t.0 in
      let b : start < length image = ltb-true start (length image) t.1 in
      let p : Program = read_all 1 start (drop start image) in
      let is : statements_of image start ≡ org start ∷ p = rw (lt-leb (length image) start b, ne_eqb start 0 (λ z. omega arith)) in
      let l : listing_of (statements_of image start) ≡ line_of (frame_of (org start)) ++ listing_of (all_on image start) =
      ap listing_of is ∙ listing_more (org start) p
      ∙ ap (λ (x : List ℕ). line_of (frame_of (org start)) ++ x) (listing_aside 1 0 start (drop start image)) in
      let n : length (statements_of image start) ≡ suc (length (all_on image start)) = ap (λ (x : Program). length x) is
      ∙ ap (λ (x : ℕ). suc x) (count_aside 1 0 start (drop start image)) in
      record {
        above = a;
        inside = b;
        count = omega arith;
        listing = l;
        length_is = ap (λ (x : List ℕ). length x) l
            ∙ omega (arith, org_line start, length-append (line_of (frame_of (org start))) (listing_of (all_on image start)));
      }

  pub without_org : org_in image start ≡ false → statements_of image start ≡ all_on image start
  unfolding statements_of read_from
  without_org e = on (leb (length image) start) (eqb start 0) refl refl
    where
      on : (a b : Bool) → leb (length image) start ≡ a → eqb start 0 ≡ b
          → cond a [] (cond b (read_all 0 0 image) (org start ∷ read_all 1 start (drop start image))) ≡ all_on image start
      on true b d c = sym (ap (read_all 0 start) (drop_of_length-le image (leb-true (length image) start d)))
      on false true d c = let z : start ≡ 0 = eqb-true start 0 c in rw z
      on false false d c = absurd (off (ltb 0 start) (ltb start (length image)) refl refl e)
        where
          off : (u v : Bool) → ltb 0 start ≡ u → ltb start (length image) ≡ v → u && v ≡ false → ⊥
          off true true f g h = clash (cc)
          off true false f g h = omega (arith, ltb-false start (length image) g, leb-false (length image) start d)
          off false v f g h = omega (arith, ltb-false 0 start f, eqb-false start 0 c)
