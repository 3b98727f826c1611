-- The image is the image by address: byte a is byte o of the encoding of statement i where the origin of a is (i, o), and it ends behind
-- the last byte.
use mathlib.Core.Path.{◌≡◌, refl, sym, ◌∙◌, ap}
use mathlib.Core.Logic.{⊎_elim}
use mathlib.Core.List.{List, [], ◌∷◌, ◌++◌}
use mathlib.Core.Option.{Option, none, some}
use mathlib.Core.Bool.{true, cond}
use Prim.Native.Nat.{ℕ, zero, suc, ◌+◌, ◌-◌, ◌≤◌, ◌<◌}
use native.Mathlib.Omega.{arith}
use lib.Dec.{leb, ltb}
use lib.ListN.{length, get_or, replicate, length-append, length-replicate, get_or-append, get_or-replicate}
use lib.Seq.{get_or-append-add}
use borrow.Author.Tests.{leb-true, le-leb, lt-leb, lt-ltb, le-ltb}
use Rattle.laws.specs.Options.{is_some}
use Rattle.laws.proofs.Tests.{lt_or_le, first_false, second_false}
use Rattle.laws.proofs.Counts.{tab_is}
use Rattle.rules.specs.Answers.{ok, judged_or}
use Rattle.rules.specs.Programs.{Placeℕ, Addressℕ, Stmt, Program, at, Space, empty, exactly, from, space_at, bytes_in, byte_count}
use Rattle.rules.specs.Layout.{after, behind, gap, lay_in, lay, position_from, position, Origin, origin_from, origin}
use Rattle.rules.specs.Names.{enter, Entry, placed_from, placed, context_from, context_at}
use Rattle.rules.specs.Judging.{settles_in, positions_fit, names_of, encode, encode_all, judge}
use Rattle.rules.specs.declared.Settings.{Settings}
use Rattle.rules.specs.Run.{rewritten}
use Rattle.rules.proofs.Laws.{then_ok, require_ok}
use Rattle.promises.specs.Demand2.{Input, output_program}
use Rattle.promises.specs.Faults.{encode_at}
use Rattle.promises.proofs.Passes.{judge_passes, names_are}
use Rattle.promises.proofs.Positions.{fit_cons}
use Rattle.promises.proofs.ImageRoom.{encode_size, gap_length, gap_some, image_room_holds}
use Rattle.promises.proofs.ImageOfOutput.{image_of_output}
use Rattle.believed.specs.ByAddress.{origin_at, encoding_of, byte_from, byte_at, end_below, image_end, image_by_address, SameImage, BothImages}

-- ---- origins of addresses before the first statement, in it and behind it
module _ (i : Placeℕ) (q : Addressℕ) (s : Stmt) (p : Program) (a : Addressℕ) where
  origin_here : q ≤ a → a < q + byte_count q s → origin_from i q (s ∷ p) a ≡ some (record { place = i; offset = a - q })
  unfolding origin_from
  origin_here l h = rw (le-leb q a l, lt-ltb a (q + byte_count q s) h)

  origin_past : q + byte_count q s ≤ a → origin_from i q (s ∷ p) a ≡ origin_from (suc i) (after q s) p a
  unfolding origin_from
  origin_past h = rw (second_false (leb q a) (ltb a (q + byte_count q s)) (le-ltb a (q + byte_count q s) h))

  origin_before : a < q → origin_from i q (s ∷ p) a ≡ origin_from (suc i) (after q s) p a
  unfolding origin_from
  origin_before h = rw (first_false (leb q a) (ltb a (q + byte_count q s)) (lt-leb q a h))

-- no statement has a byte below the first position
origin_low : (i k q : ℕ) (p : Program) (a : Addressℕ) → positions_fit (placed_from i k q p) ≡ ok tt → a < q → origin_from i q p a ≡ none
origin_low i k q [] a f h = unfold origin_from in refl
origin_low i k q (s ∷ p) a f h =
    let t = fit_cons i k q s p f in
    origin_before i q s p a h ∙ origin_low (suc i) (enter k s) (after q s) p a t.rest (omega (arith, t.rises))

-- ---- a part of the image, from the statement at place i on, which comes at q

-- the byte at an origin, the encodings given
abbrev byte_by : (Placeℕ → List ℕ) → Option Origin → ℕ
byte_by bytes none = 0
byte_by bytes (some g) = get_or (bytes g.place) g.offset 0

record Part (bytes : Placeℕ → List ℕ) (i q : ℕ) (p : Program) (image : List ℕ) : Type 0 where
  each_byte : (a : ℕ) → get_or image a 0 ≡ byte_by bytes (origin_from i q p (q + a))
  none_beyond : (a : ℕ) → length image ≤ a → origin_from i q p (q + a) ≡ none
  last_has : (a : ℕ) → length image ≡ suc a → is_some (origin_from i q p (q + a)) ≡ true

zeros_length : (n : ℕ) → length (replicate {A = ℕ} n 0) ≡ n
zeros_length n = length-replicate n 0

module _ (bytes : Placeℕ → List ℕ) (i k q : ℕ) (s : Stmt) (p : Program) where
  -- an address behind the bytes of the first statement, which asks for the space x, is one of the rest
  onward : (x : Space) → space_at q s ≡ x → (a c : ℕ) → q + bytes_in x ≤ a → a ≡ behind q x + c
      → origin_from i q (s ∷ p) a ≡ origin_from (suc i) (behind q x) p (behind q x + c)
  onward x e a c h z =
      let n : byte_count q s ≡ bytes_in x = ap bytes_in e in
      origin_past i q s p a (omega arith) ∙ ap (λ (b : ℕ). origin_from (suc i) b p a) (ap (behind q) e)
      ∙ ap (origin_from (suc i) (behind q x) p) z

  -- one that asks for no space
  part_empty : (b rest : List ℕ) → space_at q s ≡ empty → Part bytes (suc i) q p rest → Part bytes i q (s ∷ p) rest
  part_empty b rest e h =
      record {
        each_byte = λ a. h.each_byte a ∙ ap (byte_by bytes) (sym (past a));
        none_beyond = λ a l. past a ∙ h.none_beyond a l;
        last_has = λ a l. ap is_some (past a) ∙ h.last_has a l;
      }
    where
      past : (a : ℕ) → origin_from i q (s ∷ p) (q + a) ≡ origin_from (suc i) q p (q + a)
      past a = onward empty e (q + a) a (omega arith) refl

  -- one of n bytes
  module _ (n : ℕ) (b rest : List ℕ) (e : space_at q s ≡ exactly n) (size : length b ≡ n) (is : bytes i ≡ b) (h : Part bytes (suc i) (q + n) p rest) where
    inside : (a : ℕ) → a < n → origin_from i q (s ∷ p) (q + a) ≡ some (record { place = i; offset = a })
    inside a l =
        let m : byte_count q s ≡ n = ap bytes_in e in
        let z : q + a - q ≡ a = omega arith in
        origin_here i q s p (q + a) (omega arith) (omega arith) ∙ ap (λ (o : ℕ). some (record { place = i; offset = o })) z

    past : (a c : ℕ) → a ≡ n + c → origin_from i q (s ∷ p) (q + a) ≡ origin_from (suc i) (q + n) p (q + n + c)
    past a c z = onward (exactly n) e (q + a) c (omega arith) (omega arith)

    byte_exactly : (a : ℕ) → get_or (b ++ rest) a 0 ≡ byte_by bytes (origin_from i q (s ∷ p) (q + a))
    byte_exactly a = ⊎_elim first later (lt_or_le a n)
      where
        first : a < n → get_or (b ++ rest) a 0 ≡ byte_by bytes (origin_from i q (s ∷ p) (q + a))
        first l =
            get_or-append b rest 0 a (omega arith) ∙ ap (λ (c : List ℕ). get_or c a 0) (sym is) ∙ ap (byte_by bytes) (sym (inside a l))

        later : n ≤ a → get_or (b ++ rest) a 0 ≡ byte_by bytes (origin_from i q (s ∷ p) (q + a))
        later l =
            let z : a ≡ n + (a - n) = omega arith in
            let y : a ≡ length b + (a - n) = omega arith in
            ap (λ (c : ℕ). get_or (b ++ rest) c 0) y ∙ get_or-append-add b rest (a - n) 0 ∙ h.each_byte (a - n)
            ∙ ap (byte_by bytes) (sym (past a (a - n) z))

    last_exactly : (a : ℕ) → length b + length rest ≡ suc a → is_some (origin_from i q (s ∷ p) (q + a)) ≡ true
    last_exactly a l = ⊎_elim (λ m. ap is_some (inside a m)) later (lt_or_le a n)
      where
        later : n ≤ a → is_some (origin_from i q (s ∷ p) (q + a)) ≡ true
        later m = ap is_some (past a (a - n) (omega arith)) ∙ h.last_has (a - n) (omega arith)

    part_exactly : Part bytes i q (s ∷ p) (b ++ rest)
    part_exactly =
        record {
          each_byte = byte_exactly;
          none_beyond = λ a l. let m = length-append b rest in past a (a - n) (omega arith) ∙ h.none_beyond (a - n) (omega arith);
          last_has = λ a l. last_exactly a (sym (length-append b rest) ∙ l);
        }

  -- an org to l, which leaves a gap
  module _ (l : ℕ) (rest : List ℕ) (e : space_at q s ≡ from l) (up : q ≤ l) (fit : positions_fit (placed_from (suc i) (enter k s) l p) ≡ ok tt) (h : Part bytes (suc i) l p rest) where
    in_gap : (a : ℕ) → q + a < l → origin_from i q (s ∷ p) (q + a) ≡ none
    in_gap a m =
        let n : byte_count q s ≡ 0 = ap bytes_in e in
        origin_past i q s p (q + a) (omega arith) ∙ ap (λ (b : ℕ). origin_from (suc i) b p (q + a)) (ap (behind q) e)
        ∙ origin_low (suc i) (enter k s) l p (q + a) fit m

    behind_gap : (a c : ℕ) → q + a ≡ l + c → origin_from i q (s ∷ p) (q + a) ≡ origin_from (suc i) l p (l + c)
    behind_gap a c z = onward (from l) e (q + a) c (omega arith) z

    gap_byte : (rest : List ℕ) (a : ℕ) → a < l - q → get_or (gap (l - q) rest) a 0 ≡ 0
    gap_byte [] a m = refl
    gap_byte (b ∷ rest) a m =
        get_or-append (replicate (l - q) 0) (b ∷ rest) 0 a (omega (arith, zeros_length (l - q))) ∙ get_or-replicate (l - q) a 0 0 m

    gap_rest : (rest : List ℕ) (c : ℕ) → get_or (gap (l - q) rest) (l - q + c) 0 ≡ get_or rest c 0
    gap_rest [] c = refl
    gap_rest (b ∷ rest) c =
        let zeros : List ℕ = replicate (l - q) 0 in
        let n : l - q + c ≡ length zeros + c = omega (arith, zeros_length (l - q)) in
        ap (λ (j : ℕ). get_or (zeros ++ (b ∷ rest)) j 0) n ∙ get_or-append-add zeros (b ∷ rest) c 0

    byte_from_lem : (a : ℕ) → get_or (gap (l - q) rest) a 0 ≡ byte_by bytes (origin_from i q (s ∷ p) (q + a))
    byte_from_lem a = ⊎_elim first later (lt_or_le (q + a) l)
      where
        first : q + a < l → get_or (gap (l - q) rest) a 0 ≡ byte_by bytes (origin_from i q (s ∷ p) (q + a))
        first m = gap_byte rest a (omega arith) ∙ ap (byte_by bytes) (sym (in_gap a m))

        later : l ≤ q + a → get_or (gap (l - q) rest) a 0 ≡ byte_by bytes (origin_from i q (s ∷ p) (q + a))
        later m =
            let c : ℕ = q + a - l in
            let z : a ≡ l - q + c = omega arith in
            ap (λ (j : ℕ). get_or (gap (l - q) rest) j 0) z ∙ gap_rest rest c ∙ h.each_byte c
            ∙ ap (byte_by bytes) (sym (behind_gap a c (omega arith)))

    beyond_from : (a : ℕ) → length (gap (l - q) rest) ≤ a → origin_from i q (s ∷ p) (q + a) ≡ none
    beyond_from a m =
        ⊎_elim (in_gap a) (λ y. behind_gap a (q + a - l) (omega arith) ∙ h.none_beyond (q + a - l) (room y (length rest) refl)) (lt_or_le (q + a) l)
      where
        room : l ≤ q + a → (n : ℕ) → length rest ≡ n → length rest ≤ q + a - l
        room y zero d = omega arith
        room y (suc n) d = omega (arith, gap_length (l - q) rest (omega arith))

    last_from : (a : ℕ) → length (gap (l - q) rest) ≡ suc a → is_some (origin_from i q (s ∷ p) (q + a)) ≡ true
    last_from a m =
        let some_rest : 1 ≤ length rest = gap_some (l - q) rest (omega arith) in
        let n = gap_length (l - q) rest some_rest in
        let c : ℕ = q + a - l in
        ap is_some (behind_gap a c (omega arith)) ∙ h.last_has c (omega arith)

    part_from : Part bytes i q (s ∷ p) (gap (l - q) rest)
    part_from = record { each_byte = byte_from_lem; none_beyond = beyond_from; last_has = last_from }

  -- the first statement laid in front of the rest
  part_laid : (b rest : List ℕ) (x : Space) → space_at q s ≡ x → length b ≡ bytes_in x → settles_in i q x ≡ ok tt → bytes i ≡ b
      → positions_fit (placed_from (suc i) (enter k s) (behind q x) p) ≡ ok tt → Part bytes (suc i) (behind q x) p rest
      → Part bytes i q (s ∷ p) (lay_in q x b rest)
  part_laid b rest empty e size settled is fit h = part_empty b rest e h
  part_laid b rest (exactly n) e size settled is fit h = part_exactly n b rest e size is h
  part_laid b rest (from l) e size settled is fit h = part_from l rest e (leb-true q l (require_ok (leb q l) _ _ tt settled).0) fit h

-- ---- the whole image
module _ (bytes : Placeℕ → List ℕ) (names : List Entry) (p₀ : Program) where
  part_of : (i k q : ℕ) (p : Program) (image : List ℕ) → positions_fit (placed_from i k q p) ≡ ok tt
      → encode_all names p₀ (placed_from i k q p) ≡ ok image
      → ((j : ℕ) → j < length p → (b : List ℕ) → encode names p₀ (i + j) (context_from k p j) (position_from q p j) (at p j) ≡ ok b → bytes (i + j) ≡ b) → Part bytes i q p image
  unfolding encode_all placed_from origin_from context_from position_from
  part_of i k q [] image f d enc =
      let z : image ≡ [] = cc in
      rw z (record { each_byte = λ a. refl; none_beyond = λ a l. refl; last_has = λ a l. absurd (omega arith) })
  part_of i k q (s ∷ p) image f d enc =
      let t = fit_cons i k q s p (unfold placed_from in f) in
      let b = then_ok (encode names p₀ i (enter k s) q s) _ image d in
      let r = then_ok (encode_all names p₀ (placed_from (suc i) (enter k s) (after q s) p)) _ image b.2 in
      let z : image ≡ lay q s b.0 r.0 = cc r.2 in
      let below = part_of (suc i) (enter k s) (after q s) p r.0 t.rest r.1 (λ j l. later j l) in
      rw z (part_laid bytes i k q s p b.0 r.0 (space_at q s) refl (encode_size names p₀ i (enter k s) q s b.0 b.1) t.settled (here b.0 b.1) t.rest below)
    where
      here : (b : List ℕ) → encode names p₀ i (enter k s) q s ≡ ok b → bytes i ≡ b
      here b e =
          let y : i + 0 ≡ i = omega arith in
          ap bytes (sym y) ∙ enc 0 (omega arith) b (ap (λ (m : ℕ). encode names p₀ m (enter k s) q s) y ∙ e)

      later : (j : ℕ) → j < length p → (b : List ℕ)
          → encode names p₀ (suc i + j) (context_from (enter k s) p j) (position_from (after q s) p j) (at p j) ≡ ok b
          → bytes (suc i + j) ≡ b
      later j l b e =
          let y : i + suc j ≡ suc i + j = omega arith in
          ap bytes (sym y) ∙ enc (suc j) (omega arith) b
          (ap (λ (m : ℕ). encode names p₀ m (context_from (enter k s) p j) (position_from (after q s) p j) (at p j)) y ∙ e)

-- the image of a program that assembles, as a part from address 0 on
whole_part : (p : Program) (image : List ℕ) → judge p ≡ ok image → Part (encoding_of p) 0 0 p image
unfolding placed encoding_of judged_or context_at position
whole_part p image e =
    let h = judge_passes p image e in
    let n : names_of p ≡ h.names = names_are p h.names h.defined in
    part_of (encoding_of p) h.names p 0 0 0 p image h.laid h.encoded (λ j l b d.
    let z : 0 + j ≡ j = omega arith in
    encoded j b (ap (λ (x : List Entry). encode_at x p j) n ∙ rw z at d))
  where
    encoded : (j : ℕ) (b : List ℕ) → encode_at (names_of p) p j ≡ ok b → encoding_of p (0 + j) ≡ b
    encoded j b e = let z : 0 + j ≡ j = omega arith in rw (z, e)

-- an end that fits: behind the last address that has an origin
end_is : (p : Program) (n m : ℕ) → n ≤ m → ((a : ℕ) → n ≤ a → origin_at p a ≡ none) → ((a : ℕ) → n ≡ suc a → is_some (origin_at p a) ≡ true)
    → end_below p m ≡ n
unfolding end_below
end_is p n zero l none_beyond last_has = omega arith
end_is p n (suc m) l none_beyond last_has = ⊎_elim below (λ h. here h (end_is p n m h none_beyond last_has)) (lt_or_le m n)
  where
    below : m < n → cond (is_some (origin_at p m)) (suc m) (end_below p m) ≡ n
    below h = let z : n ≡ suc m = omega arith in rw (last_has m z) (sym z)

    here : n ≤ m → end_below p m ≡ n → cond (is_some (origin_at p m)) (suc m) (end_below p m) ≡ n
    here h e = rw (none_beyond m h) e

same_byte : (p : Program) (o : Option Origin) → byte_by (encoding_of p) o ≡ byte_from p o
same_byte p none = refl
same_byte p (some g) = refl

-- same-image: the image of a program that assembles is the image by address
pub same_image : (p : Program) (image : List ℕ) → SameImage p image
unfolding image_by_address image_end byte_at origin
same_image p image e =
    let h = whole_part p image e in
    let n : end_below p 65536 ≡ length image =
    end_is p (length image) 65536 (image_room_holds p image e) (λ a l. shift a ∙ h.none_beyond a l) (λ a l. ap is_some (shift a) ∙ h.last_has a l) in
    let b : (a : ℕ) → get_or image a 0 ≡ byte_at p a =
    λ a. h.each_byte a ∙ ap (byte_by (encoding_of p)) (sym (shift a)) ∙ same_byte p (origin_from 0 0 p a) in
    record { each_byte = b; ends = sym n; whole = rw n (tab_is (byte_at p) (length image) image 0 refl (λ a l. b a)) }
  where
    shift : (a : ℕ) → origin_from 0 0 p a ≡ origin_from 0 0 p (0 + a)
    shift a = let z : a ≡ 0 + a = omega arith in ap (origin_from 0 0 p) z

-- both-images: of an accepted program, the input's image and the one that is handed out
pub both_images : (asked : Settings) (p : Program) (h : Input p) → BothImages asked p h.image
both_images asked p h =
    let o = image_of_output asked p h in
    record {
      input = same_image p h.image h.assembles;
      output = same_image (output_program asked p) (rewritten asked p).image (o.of_output ∙ ap ok (sym o.handed_out));
    }
