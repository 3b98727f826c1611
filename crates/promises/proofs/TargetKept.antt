-- "In the output that target, even if a fold carried it to another transfer, names the same offset of the statement that stems from the one it first
-- named."
use mathlib.Core.Path.{◌≡◌, refl, sym, ◌∙◌, ap}
use mathlib.Core.Logic.{◌⊎◌, inl, inr}
use mathlib.Core.List.{List, [], ◌∷◌}
use mathlib.Core.Option.{some}
use mathlib.Core.Bool.{Bool, true, false, cond}
use Prim.Native.Nat.{ℕ, ◌+◌, ◌≤◌, ◌<◌}
use native.Mathlib.Omega.{arith}
use lib.Dec.{ltb}
use lib.ListN.{length}
use lib.IntN.{pos}
use borrow.Author.Tests.{ltb-true, eq-eqb}
use Rattle.std.specs.Prelude.{Ok}
use Rattle.laws.specs.Lists.{total, every}
use Rattle.laws.proofs.Tests.{and_true, eq_or_not}
use Rattle.laws.proofs.Lists.{total_one, total_some, total_two_any, every_any}
use Rattle.rules.specs.declared.Settings.{Settings}
use Rattle.rules.specs.Answers.{ok}
use Rattle.rules.specs.Programs.{Placeℕ, Operand, register, value, inner, Stmt, gone, instr, Program, at, args_of, last_of, on_last, retarget, is_gone}
use Rattle.rules.specs.Layout.{position, origin, size_in}
use Rattle.rules.specs.Names.{placed, context_at}
use Rattle.rules.specs.Judging.{positions_fit, judge, worth, names_of}
use Rattle.rules.specs.Rewriting.{is_anchored, inner_at, anchor, of_inner, every_inner_label, instr_bytes, optimized}
use Rattle.rules.specs.Output.{plain_target, write_back, compact, spoken, shown}
use Rattle.rules.specs.Run.{rewritten}
use Rattle.promises.specs.Demand2.{Input, output_program}
use Rattle.promises.specs.Demand3.{Aims, carries, TargetKept}
use Rattle.promises.proofs.Shows.{by_spoken, at_shown, length_shown, shown_room, shown_position}
use Rattle.promises.proofs.General.{total_alike}
use Rattle.promises.proofs.Looks.{last_of_on_last}
use Rattle.promises.proofs.Weights.{instr_inside}
use Rattle.promises.proofs.Chains.{chain_keeps}
use Rattle.promises.proofs.Anchors.{at_anchor, anchor_in}
use Rattle.promises.proofs.Listings.{WellMade, read_made, made_instr}
use Rattle.promises.proofs.Passes.{judge_passes}
use Rattle.promises.proofs.Positions.{origin_at, size_same}
use Rattle.promises.proofs.Acceptable.{acceptable_parts, end_acceptable}
use Rattle.promises.proofs.WritesBack.{at_write_back, length_write_back, write_back_position, write_back_room}
use Rattle.promises.proofs.ImageOfOutput.{image_of_output}
use Rattle.promises.proofs.Ranks.{rank, at_rank, position_rank, stems_rank, byte_live, total_compact}
use Rattle.promises.proofs.Carried.{Carrier, carrier, carries_step, of_place, of_place_own, of_place_retarget, of_place_step, of_place_made, carries_of_place}

-- a test of every operand holds of the last
every_last : (f : Operand → Bool) (xs : List Operand) → f (register 0) ≡ true → every f xs ≡ true → f (last_of xs) ≡ true
unfolding every
every_last f [] z h = z
every_last f (x ∷ []) z h = (and_true (f x) true h).0
every_last f (x ∷ y ∷ xs) z h = every_last f (y ∷ xs) z (and_true (f x) (every f (y ∷ xs)) h).1

module _ (asked : Settings) (p : Program) (w : WellMade p) (i s o : ℕ) (a : Aims p i s o) where
  -- ---- the start: the transfer at place i, anchored
  own : a.carried ≡ i
  own = (made_instr p w i a.form a.args a.carried a.stands).0

  target_anchored : last_of (on_last (anchor_in p i) a.args) ≡ inner s o
  target_anchored =
      last_of_on_last (anchor_in p i) a.args refl ∙ ap (anchor_in p i) a.target_is
      ∙ ap (λ (b : Bool). cond b (value a.target) (inner_at a.target (origin p (worth (names_of p) (context_at p i) a.target)))) a.holds_no_label
      ∙ ap (inner_at a.target) a.falls_on

  here : at (anchor p) i ≡ instr a.form (on_last (anchor_in p i) a.args) i
  unfolding is_anchored
  here =
      at_anchor p i
      ∙ rw (a.stands, a.transfers, a.no_change_jump) (ap (λ (c : ℕ). instr a.form (on_last (anchor_in p i) a.args) c) own)

  carries_here : carries i s o (at (anchor p) i) ≡ 1
  carries_here = ap (carries i s o) here ∙ rw (a.transfers, target_anchored, eq-eqb s s refl, eq-eqb o o refl, eq-eqb i i refl)

  inside : i < length (anchor p)
  inside = instr_inside (anchor p) i a.form (on_last (anchor_in p i) a.args) i here

  starts_once : total (carries i s o) (anchor p) ≡ 1
  starts_once =
      total_one (carries i s o) (anchor p) i gone inside (λ j h n. omega (arith, carries_of_place i s o (at (anchor p) j), of_place_made p w i j n))
      ∙ carries_here

  starts_alone : total (of_place i) (anchor p) ≤ 1
  starts_alone =
      let e : total (of_place i) (anchor p) ≡ of_place i (at (anchor p) i) = total_one (of_place i) (anchor p) i gone inside (λ j h n. of_place_made p w i j n) in
      let one : of_place i (at (anchor p) i) ≡ 1 = ap (of_place i) here ∙ of_place_own i a.form (on_last (anchor_in p i) a.args) in
      omega arith

  -- ---- the end form
  abbrev end : Program
  end = (optimized asked p).program

  -- one transfer of the end form carries the target
  pub ends_once : total (carries i s o) end ≡ 1
  unfolding optimized
  ends_once = chain_keeps asked (λ r. total (carries i s o) r ≡ 1) (λ r t st h. carries_step i s o r t st ∙ h) (total instr_bytes p) (anchor p) starts_once

  ends_alone : total (of_place i) end ≤ 1
  unfolding optimized
  ends_alone =
      chain_keeps asked (λ r. total (of_place i) r ≤ 1) (λ r t st h. omega (arith, of_place_step i r t st)) (total instr_bytes p) (anchor p) starts_alone

  -- the transfer that carries it there
  carrier_at : (j : ℕ) × (Carrier i s o (at end j))
  carrier_at = let j = total_some (carries i s o) end gone (omega (arith, ends_once)) in (j.0, carrier i s o (at end j.0) j.2)

  -- and the byte is the owner's
  has_byte : (image : List ℕ) → judge p ≡ ok image → o < size_in end s
  unfolding every_inner_label
  has_byte image e =
      let good = (acceptable_parts end (end_acceptable asked p w image e)).0 in
      let test : Operand → Bool = of_inner (λ owner o. ltb o (size_in end owner)) in
      let k = carrier_at.1 in
      let args_pass : every test k.args ≡ true =
      ap (λ (x : Stmt). every test (args_of x)) (sym k.is) ∙ every_any (λ x. every test (args_of x)) end carrier_at.0 gone (unfold every in refl) good in
      ltb-true o (size_in end s) (ap test (sym k.target_is) ∙ every_last test k.args refl args_pass)

  -- ---- the output
  abbrev written : Program
  written = write_back end

  abbrev left : Program
  left = shown asked written

  -- one instruction of the output at most carries anything of place i
  output_alone : total (of_place i) (compact left) ≤ 1
  output_alone =
      let same : total (of_place i) written ≡ total (of_place i) end =
      total_alike (of_place i) (of_place i) written end gone gone (length_write_back end)
      (λ j h. ap (of_place i) (at_write_back end j) ∙ of_place_retarget i (plain_target end) (at end j)) in
      let spared : total (of_place i) left ≡ total (of_place i) written =
      total_alike (of_place i) (of_place i) left written gone gone (length_shown asked written)
      (λ j h. ap (of_place i) (at_shown asked written j) ∙ by_spoken (λ s t. of_place i t ≡ of_place i s) asked (λ s. refl) (λ x. refl) (at written j)) in
      omega (arith, total_compact (of_place i) refl left, ends_alone)

  -- the transfer, written back
  stands_written : at written carrier_at.0 ≡ instr carrier_at.1.form (on_last (plain_target end) carrier_at.1.args) i
  stands_written = at_write_back end carrier_at.0 ∙ ap (retarget (plain_target end)) carrier_at.1.is

  stands_left : at left carrier_at.0 ≡ instr carrier_at.1.form (on_last (plain_target end) carrier_at.1.args) i
  stands_left = at_shown asked written carrier_at.0 ∙ ap (spoken asked) stands_written

  stands_output : at (compact left) (rank left carrier_at.0) ≡ instr carrier_at.1.form (on_last (plain_target end) carrier_at.1.args) i
  stands_output = at_rank left carrier_at.0 (ap is_gone stands_left) ∙ stands_left

  only_output : (j : Placeℕ) (f : ℕ) (xs : List Operand) → at (compact left) j ≡ instr f xs i → j ≡ rank left carrier_at.0
  only_output j f xs e = on (eq_or_not j (rank left carrier_at.0))
    where
      on : (j ≡ rank left carrier_at.0) ⊎ (j ≡ rank left carrier_at.0 → ⊥) → j ≡ rank left carrier_at.0
      on (inl q) = q
      on (inr n) =
          let one : of_place i (at (compact left) j) ≡ 1 = ap (of_place i) e ∙ of_place_own i f xs in
          let two : of_place i (at (compact left) (rank left carrier_at.0)) ≡ 1 = ap (of_place i) stands_output ∙ of_place_own i carrier_at.1.form (on_last (plain_target end) carrier_at.1.args) in
          absurd (omega (arith, total_two_any (of_place i) (compact left) j (rank left carrier_at.0) gone refl n, output_alone))

  -- the byte that the number names
  module _ (byte : o < size_in end s) (laid : positions_fit (placed (compact left)) ≡ ok tt) where
    byte_left : o < size_in left s
    byte_left = omega (arith, size_same written left (shown_room asked written) s, size_same end written (write_back_room end) s, byte)

    live : is_gone (at left s) ≡ false
    live = byte_live (position left s) (at left s) o byte_left

    byte_output : o < size_in (compact left) (rank left s)
    byte_output = rw (at_rank left s live, position_rank left s live) byte_left

    position_is : position (compact left) (rank left s) ≡ position end s
    position_is = position_rank left s live ∙ shown_position asked written s ∙ write_back_position end s

    names_output : origin (compact left) (Ok (pos (position end s + o))) ≡ some (record { place = rank left s; offset = o })
    names_output = ap (λ (n : ℕ). origin (compact left) (Ok (pos (n + o)))) (sym position_is) ∙ origin_at (compact left) (rank left s) o laid byte_output

-- target-kept: each such target of the input is, in the output, the number of the same byte of the same statement
pub target_kept : (asked : Settings) (p : Program) → Input p → (i s : Placeℕ) (o : ℕ) → Aims p i s o → TargetKept asked p i s o
unfolding output_program rewritten
target_kept asked p h i s o a =
    let w = read_made h.text p h.reads in
    let e : Program = (optimized asked p).program in
    let left : Program = shown asked (write_back e) in
    let k = carrier_at asked p w i s o a in
    let byte : o < size_in e s = has_byte asked p w i s o a h.image h.assembles in
    let q = image_of_output asked p h in
    let laid : positions_fit (placed (compact left)) ≡ ok tt = (judge_passes (compact left) q.image q.of_output).laid in
    let st = stems_rank left s 0 (live asked p w i s o a byte laid) in
    record {
      once_in_end = ends_once asked p w i s o a;
      place = rank left k.0;
      form = k.1.form;
      args = on_last (plain_target e) k.1.args;
      stands = stands_output asked p w i s o a;
      transfers = k.1.transfers;
      only = only_output asked p w i s o a;
      address = position e s + o;
      target_is = last_of_on_last (plain_target e) k.1.args refl ∙ ap (plain_target e) k.1.target_is;
      owner = rank left s;
      names_byte = names_output asked p w i s o a byte laid;
      listed = st.0;
      stems_from_is = st.1;
    }
