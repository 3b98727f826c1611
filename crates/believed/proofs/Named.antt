-- names-alike: what a kept target names in the output is the same byte of the same encoded statement.
use mathlib.Core.Path.{◌≡◌, refl, sym, ◌∙◌, ap, subst}
use mathlib.Core.Logic.{◌⊎◌, inl, inr, ⊎_elim}
use mathlib.Core.List.{List, [], ◌∷◌}
use mathlib.Core.Option.{some}
use mathlib.Core.Bool.{Bool, true, false, ◌&&◌, not, cond}
use Prim.Native.Nat.{ℕ, zero, suc, ◌+◌, ◌≤◌, ◌<◌}
use native.Mathlib.Omega.{arith}
use lib.Dec.{leb, ltb, eqb}
use lib.ListN.{length, get_or, set}
use lib.Seq.{get_or-set_other}
use borrow.Author.Tests.{ltb-true, eq-eqb, le-leb}
use Rattle.laws.specs.Lists.{total, every}
use Rattle.laws.proofs.Tests.{clash, and_true, eq_or_not, lt_or_le}
use Rattle.laws.proofs.Lists.{total_some, every_any}
use Rattle.laws.proofs.Stores.{set_default, get_out}
use Rattle.rules.specs.declared.Settings.{Settings}
use Rattle.rules.specs.Answers.{ok, judged_or}
use Rattle.rules.specs.Programs.{Placeℕ, Operand, register, Stmt, gone, instr, label, variable, comment, org, bytes, words, pad, Program, at, args_of, byte_count, last_of, on_last, retarget, is_gone}
use Rattle.rules.specs.Layout.{position, size_in, origin}
use Rattle.rules.specs.Names.{Entry, context_at}
use Rattle.rules.specs.Judging.{worth, names_of, judge}
use Rattle.rules.specs.Rewriting.{anchor, of_inner, every_inner_label, no_interior_label_at, acceptable, drop_all, instr_bytes, optimized}
use Rattle.rules.specs.Output.{plain_target, write_back, compact, spoken, shown, stems_from, stems}
use Rattle.rules.specs.Run.{rewritten}
use Rattle.rules.proofs.Laws.{by_instr, is_instr, other}
use Rattle.promises.specs.Demand2.{Input, output_program}
use Rattle.promises.specs.Demand3.{Aims, carries, TargetKept}
use Rattle.promises.specs.Faults.{encode_at}
use Rattle.promises.proofs.Passes.{judge_passes, names_are}
use Rattle.promises.proofs.Positions.{origin_of, origin_lies, room_retarget}
use Rattle.promises.proofs.ImageRoom.{encode_size}
use Rattle.promises.proofs.ImageOfOutput.{image_of_output}
use Rattle.promises.proofs.Steps.{Step, invert, bounce, shrink}
use Rattle.promises.proofs.Chains.{chain_keeps}
use Rattle.promises.proofs.Anchors.{anchor_in, anchored, at_anchor, anchored_keeps}
use Rattle.promises.proofs.Acceptable.{acceptable_parts}
use Rattle.promises.proofs.WritesBack.{at_write_back}
use Rattle.promises.proofs.Shows.{at_shown}
use Rattle.promises.proofs.Carried.{carrier, carries_step}
use Rattle.believed.specs.ByAddress.{origin_at, encoding_of, byte_from, byte_at}
use Rattle.believed.specs.Named.{SameButTarget, IsByte, NamesAlike}
use Rattle.believed.proofs.Refusals.{statements_pass}
use Rattle.believed.proofs.ByAddress.{same_image}

-- ---- a byte of an image
byte_of : (p : Program) (image : List ℕ) (a i o : ℕ) → judge p ≡ ok image → origin_at p a ≡ some (record { place = i; offset = o })
    → IsByte p image a i o
unfolding byte_at encoding_of judged_or
byte_of p image a i o e g =
    let h = judge_passes p image e in
    let lies = origin_lies p a (record { place = i; offset = o }) g in
    let b = statements_pass p h.names image h.encoded i (inside i o lies.has_byte) in
    let d : encode_at (names_of p) p i ≡ ok b.0 = ap (λ (n : List Entry). encode_at n p i) (names_are p h.names h.defined) ∙ b.1 in
    let n : length b.0 ≡ size_in p i = encode_size h.names p i (context_at p i) (position p i) (at p i) b.0 b.1 in
    record {
      origin_is = g;
      inside = rw d (omega (arith, lies.has_byte));
      byte_is = (same_image p image e).each_byte a ∙ ap (byte_from p) g;
    }
  where
    -- a place that has bytes is one of the program
    inside : (i o : ℕ) → o < size_in p i → i < length p
    inside i o l =
        ⊎_elim (λ h. h) (λ h. absurd (omega (arith, l, ap (byte_count (position p i)) (get_out p i gone h)))) (lt_or_le i (length p))

-- ---- behind its first byte a named statement is never replaced
every_last : (f : Operand → Bool) (xs : List Operand) → f (register 0) ≡ true → every f xs ≡ true → f (last_of xs) ≡ true
unfolding every
every_last f [] z h = z
every_last f (x ∷ []) z h = (and_true (f x) true h).0
every_last f (x ∷ y ∷ xs) z h = every_last f (y ∷ xs) z (and_true (f x) (every f (y ∷ xs)) h).1

-- a test of every inner label holds of one that is carried
label_passes : (f : Placeℕ → ℕ → Bool) (r : Program) (i s o : ℕ) → every_inner_label f r ≡ true → 1 ≤ total (carries i s o) r → f s o ≡ true
unfolding every_inner_label
label_passes f r i s o e h =
    let j = total_some (carries i s o) r gone h in
    let k = carrier i s o (at r j.0) j.2 in
    let args_pass : every (of_inner f) k.args ≡ true =
    ap (λ (x : Stmt). every (of_inner f) (args_of x)) (sym k.is)
    ∙ every_any (λ x. every (of_inner f) (args_of x)) r j.0 gone (unfold every in refl) e in
    ap (of_inner f) (sym k.target_is) ∙ every_last (of_inner f) k.args refl args_pass

-- what dropping leaves at s
dropped_or_not : (is : List Placeℕ) (q : Program) (s : Placeℕ) → (at (drop_all is q) s ≡ gone) ⊎ (at (drop_all is q) s ≡ at q s)
unfolding drop_all
dropped_or_not [] q s = inr refl
dropped_or_not (i ∷ is) q s = ⊎_elim (λ h. inl h) (λ h. on h (eq_or_not s i)) (dropped_or_not is (set q i gone) s)
  where
    on : at (drop_all is (set q i gone)) s ≡ at (set q i gone) s → (s ≡ i) ⊎ (s ≡ i → ⊥)
        → (at (drop_all is (set q i gone)) s ≡ gone) ⊎ (at (drop_all is (set q i gone)) s ≡ at q s)
    on h (inl e) = inl (h ∙ ap (λ (k : ℕ). at (set q i gone) k) e ∙ set_default q i gone)
    on h (inr n) = inr (h ∙ get_or-set_other q i s gone gone n)

module _ (i s o : ℕ) (behind : 1 ≤ o) where
  -- the place that is replaced is another
  not_replaced : (r : Program) (k : Placeℕ) → no_interior_label_at r k ≡ true → 1 ≤ total (carries i s o) r → s ≡ k → ⊥
  unfolding no_interior_label_at
  not_replaced r k e h q =
      let t : not (eqb s k && leb 1 o) ≡ true = label_passes (λ owner d. not (eqb owner k && leb 1 d)) r i s o e h in
      clash (cc (rw (eq-eqb s k q, le-leb 1 o behind) at t))

  -- nor is it dropped, or the offset would be in no statement
  kept_by : (r t : Program) (k : Placeℕ) (x : Stmt) (is : List Placeℕ) → t ≡ drop_all is (set r k x) → acceptable t ≡ true
      → no_interior_label_at r k ≡ true → 1 ≤ total (carries i s o) r
      → 1 ≤ total (carries i s o) t → at t s ≡ at r s
  kept_by r t k x is new good e h later = ap (λ (q : Program). at q s) new ∙ on (dropped_or_not is (set r k x) s)
    where
      size : o < size_in t s
      size = ltb-true o (size_in t s) (label_passes (λ owner d. ltb d (size_in t owner)) t i s o (acceptable_parts t good).0 later)

      on : (at (drop_all is (set r k x)) s ≡ gone) ⊎ (at (drop_all is (set r k x)) s ≡ at (set r k x) s)
          → at (drop_all is (set r k x)) s ≡ at r s
      on (inl d) = absurd (omega (arith, size, ap (byte_count (position t s)) (ap (λ (q : Program). at q s) new ∙ d)))
      on (inr d) = d ∙ get_or-set_other r k s x gone (not_replaced r k e h)

  step_keeps : (r t : Program) → Step r t → total (carries i s o) r ≡ 1 → at t s ≡ at r s
  unfolding drop_all
  step_keeps r t st h = on st (omega (arith, carries_step i s o r t st))
    where
      on : Step r t → 1 ≤ total (carries i s o) t → at t s ≡ at r s
      on (invert f) l = kept_by r t f.i _ (f.j ∷ []) f.new f.good f.none_inside (omega arith) l
      on (bounce f) l = kept_by r t f.i _ (f.j ∷ f.m ∷ f.u ∷ []) f.new f.good f.none_inside (omega arith) l
      on (shrink f) l = kept_by r t f.i _ [] f.new f.good f.none_inside (omega arith) l

  module _ (asked : Settings) (p : Program) (once : total (carries i s o) (optimized asked p).program ≡ 1) where
    -- no rewrite changes the number of carriers
    starts_once : total (carries i s o) (anchor p) ≡ 1
    unfolding optimized
    starts_once =
        let same =
        chain_keeps asked (λ r. total (carries i s o) r ≡ total (carries i s o) (anchor p)) (λ r t st h. carries_step i s o r t st ∙ h) (total instr_bytes p) (anchor p) refl in
        sym same ∙ once

    end_keeps : at (optimized asked p).program s ≡ at (anchor p) s
    unfolding optimized
    end_keeps =
        (chain_keeps asked (λ r. (total (carries i s o) r ≡ 1) × (at r s ≡ at (anchor p) s))
        (λ r t st h. (carries_step i s o r t st ∙ h.0, step_keeps r t st h.0 ∙ h.1)) (total instr_bytes p) (anchor p) (starts_once, refl)).1

-- ---- each statement of the output is the slot that it stems from
slot_from : (i : Placeℕ) (p : Program) (x : ℕ) → x < length (stems_from i p)
    → (n : ℕ) × (get_or (stems_from i p) x 0 ≡ i + n) × (at (compact p) x ≡ at p n)
unfolding stems_from compact
slot_from i [] x l = absurd (omega arith)
slot_from i (s ∷ p) x l = on (is_gone s) x l (slot_from (suc i) p)
  where
    later : (x : ℕ) → (n : ℕ) × (get_or (stems_from (suc i) p) x 0 ≡ suc i + n) × (at (compact p) x ≡ at p n)
        → (n : ℕ) × (get_or (stems_from (suc i) p) x 0 ≡ i + n) × (at (compact p) x ≡ at (s ∷ p) n)
    later x h = (suc h.0, omega (arith, h.1), h.2)

    on : (b : Bool) (x : ℕ) → x < length (cond b (stems_from (suc i) p) (i ∷ stems_from (suc i) p))
        → ((x : ℕ) → x < length (stems_from (suc i) p) → (n : ℕ) × (get_or (stems_from (suc i) p) x 0 ≡ suc i + n) × (at (compact p) x ≡ at p n))
        → (n : ℕ) × (get_or (cond b (stems_from (suc i) p) (i ∷ stems_from (suc i) p)) x 0 ≡ i + n) × (at (cond b (compact p) (s ∷ compact p)) x ≡ at (s ∷ p) n)
    on true x l below = later x (below x l)
    on false zero l below = (0, omega arith, refl)
    on false (suc x) l below = later x (below x (omega arith))

slot_is : (p : Program) (x s : ℕ) → x < length (stems p) → get_or (stems p) x 0 ≡ s → at (compact p) x ≡ at p s
unfolding stems
slot_is p x s l e = let h = slot_from 0 p x l in let z : h.0 ≡ s = omega (arith, h.1) in h.2 ∙ ap (at p) z

-- ---- a target changed twice is changed once
twice : (f g : Operand → Operand) (xs : List Operand) → on_last g (on_last f xs) ≡ on_last (λ old. g (f (last_of xs))) xs
twice f g [] = refl
twice f g (x ∷ []) = refl
twice f g (x ∷ y ∷ xs) = two y xs (twice f g (y ∷ xs))
  where
    two : (y : Operand) (xs : List Operand) → on_last g (on_last f (y ∷ xs)) ≡ on_last (λ old. g (f (last_of (y ∷ xs)))) (y ∷ xs)
        → on_last g (x ∷ on_last f (y ∷ xs)) ≡ x ∷ on_last (λ old. g (f (last_of (y ∷ xs)))) (y ∷ xs)
    two y [] e = ap (λ (l : List Operand). x ∷ l) e
    two y (z ∷ xs) e = ap (λ (l : List Operand). x ∷ l) e

once_is : (g : Operand → Operand) (xs : List Operand) → on_last g xs ≡ on_last (λ old. g (last_of xs)) xs
once_is g [] = refl
once_is g (x ∷ []) = refl
once_is g (x ∷ y ∷ xs) = ap (λ (l : List Operand). x ∷ l) (once_is g (y ∷ xs))

unaimed : (g : Operand → Operand) (s : Stmt) → is_instr s ≡ false → retarget g s ≡ s
unaimed g s n = other s (λ x. instr x.form (on_last g x.args) x.carried) s n

retargeted : (f g : Operand → Operand) (s : Stmt) → SameButTarget s (retarget g (retarget f s))
retargeted f g s =
    by_instr (λ s. SameButTarget s (retarget g (retarget f s)))
    (λ h xs c. (g (f (last_of xs)), ap (λ (l : List Operand). instr h l c) (twice f g xs)))
    (λ s n. (register 0, ap (retarget g) (unaimed f s n) ∙ unaimed g s n ∙ sym (unaimed (λ old. register 0) s n))) s

retargeted_once : (g : Operand → Operand) (s : Stmt) → SameButTarget s (retarget g s)
retargeted_once g s =
    by_instr (λ s. SameButTarget s (retarget g s))
    (λ h xs c. (g (last_of xs), ap (λ (l : List Operand). instr h l c) (once_is g xs)))
    (λ s n. (register 0, unaimed g s n ∙ sym (unaimed (λ old. register 0) s n))) s

-- what has bytes is no comment, and is shown as it is
shown_as_is : (asked : Settings) (g : Operand → Operand) (q : ℕ) (s : Stmt) → 1 ≤ byte_count q s
    → spoken asked (retarget g s) ≡ retarget g s
shown_as_is asked g q gone l = absurd (omega arith)
shown_as_is asked g q (instr f xs c) l = refl
shown_as_is asked g q (label n) l = absurd (omega arith)
shown_as_is asked g q (variable n e) l = absurd (omega arith)
shown_as_is asked g q (comment x) l = absurd (omega arith)
shown_as_is asked g q (org a) l = absurd (omega arith)
shown_as_is asked g q (bytes es) l = refl
shown_as_is asked g q (words es) l = refl
shown_as_is asked g q (pad add m) l = refl

module _ (asked : Settings) (p : Program) (i s o : ℕ) (kept : TargetKept asked p i s o) (size : o < size_in p s) where
  end : Program
  end = (optimized asked p).program

  anchored_size : 1 ≤ byte_count (position p s) (anchored p s)
  anchored_size =
      anchored_keeps (λ x. 1 ≤ byte_count (position p s) x) p s (omega (arith, size, (room_retarget (anchor_in p s) (at p s)).as_big (position p s))) (omega (arith, size))

  owner_is : 1 ≤ o → at (output_program asked p) kept.owner ≡ retarget (plain_target end) (anchored p s)
  unfolding output_program rewritten end
  owner_is l =
      let left : Program = shown asked (write_back end) in
      slot_is left kept.owner s kept.listed kept.stems_from_is ∙ at_shown asked (write_back end) s
      ∙ ap (spoken asked) (at_write_back end s ∙ ap (retarget (plain_target end)) (end_keeps i s o l asked p kept.once_in_end ∙ at_anchor p s))
      ∙ shown_as_is asked (plain_target end) (position p s) (anchored p s) anchored_size

  unreplaced : 1 ≤ o → SameButTarget (at p s) (at (output_program asked p) kept.owner)
  unreplaced l =
      subst (SameButTarget (at p s)) (sym (owner_is l))
      (anchored_keeps (λ x. SameButTarget (at p s) (retarget (plain_target end) x)) p s (retargeted (anchor_in p s) (plain_target end) (at p s)) (retargeted_once (plain_target end) (at p s)))

-- names-alike: of an accepted program, each kept target names one byte of one statement before and after
pub names_alike : (asked : Settings) (p : Program) (h : Input p) (i s : Placeℕ) (o : ℕ) (aims : Aims p i s o) (kept : TargetKept asked p i s o) → NamesAlike asked p h.image i s o aims kept
names_alike asked p h i s o aims kept =
    let out = image_of_output asked p h in
    let g = origin_of p (worth (names_of p) (context_at p i) aims.target) (record { place = s; offset = o }) aims.falls_on in
    let falls : origin_at p g.0 ≡ some (record { place = s; offset = o }) = ap (origin p) (sym g.1) ∙ aims.falls_on in
    record {
      address = g.0;
      target_was = g.1;
      in_input = byte_of p h.image g.0 s o h.assembles falls;
      in_output =
          byte_of (output_program asked p) (rewritten asked p).image kept.address kept.owner o (out.of_output ∙ ap ok (sym out.handed_out)) kept.names_byte;
      stems_from_is = kept.stems_from_is;
      unreplaced = unreplaced asked p i s o kept g.2.has_byte;
    }
