-- "every rewrite leaves one that assembles": each step leaves an acceptable program, and the chain starts from one, because anchoring changes no
-- position, no value and no byte, and an inner label's offset is below its owner's size.
use mathlib.Core.Path.{◌≡◌, refl, sym, ◌∙◌, ap}
use mathlib.Core.List.{List, [], ◌∷◌}
use mathlib.Core.Option.{Option, none, some}
use mathlib.Core.Bool.{Bool, true, false, cond}
use Prim.Native.Nat.{ℕ, ◌+◌}
use native.Mathlib.Omega.{arith}
use lib.Dec.{ltb}
use lib.IntN.{pos}
use borrow.Author.Tests.{lt-ltb}
use Rattle.rules.specs.declared.Unvalued.{Unvalued}
use Rattle.std.specs.Prelude.{ℤ, Result, Ok}
use Rattle.laws.specs.Lists.{total, every}
use Rattle.laws.proofs.Tests.{and_true, and_both, false_true}
use Rattle.laws.proofs.Lists.{every_all, every_weaken}
use Rattle.rules.specs.declared.Settings.{Settings}
use Rattle.rules.specs.Answers.{ok}
use Rattle.rules.specs.Expressions.{Expr}
use Rattle.rules.specs.Programs.{Placeℕ, Operand, register, value, inner, Stmt, gone, Program, at, args_of, on_last, retarget}
use Rattle.rules.specs.Layout.{position, Origin, origin, size_in}
use Rattle.rules.specs.Judging.{worth, worth_of, judge, assembles, names_of}
use Rattle.rules.specs.Rewriting.{inner_at, anchor, of_inner, every_inner_label, acceptable, step, optimized, instr_bytes, moving_of, holds_label}
use Rattle.rules.proofs.Laws.{by_instr, other}
use Rattle.rules.specs.Names.{context_at}
use Rattle.promises.proofs.Steps.{step_good, step_some}
use Rattle.promises.proofs.Chains.{chain_keeps}
use Rattle.promises.proofs.Anchors.{length_anchor, at_anchor, anchored_keeps, anchor_in}
use Rattle.promises.proofs.Frames.{is_plain}
use Rattle.promises.proofs.Listings.{WellMade, made_instr}
use Rattle.promises.proofs.Passes.{image_assembles}
use Rattle.promises.proofs.Alike.{Alike, judge_alike}
use Rattle.promises.proofs.Positions.{SameRoom, AllSameRoom, room_same, room_retarget, position_same, origin_of, size_same}
use Rattle.promises.proofs.Retargets.{Kept, KeptBy, positions_kept, same_alike, retarget_alike}

-- what rule 5 asks of a candidate
pub acceptable_parts : (p : Program) → acceptable p ≡ true → (every_inner_label (λ owner o. ltb o (size_in p owner)) p ≡ true) × (assembles p ≡ true)
unfolding acceptable
acceptable_parts p e = and_true (every_inner_label (λ owner o. ltb o (size_in p owner)) p) (assembles p) e

-- ---- anchoring moves nothing and keeps what each operand is worth
module _ (p : Program) where
  -- each statement takes the room that it took
  pub anchor_room : AllSameRoom p (anchor p)
  anchor_room =
      (length_anchor p, λ i. rw (at_anchor p i) (anchored_keeps (SameRoom (at p i)) p i (room_retarget (anchor_in p i) (at p i)) (room_same (at p i))))

  anchor_kept : Kept p (anchor p)
  anchor_kept = positions_kept p (anchor p) (position_same p (anchor p) anchor_room)

  -- a target among the names of p, in the context where it stands
  module _ (i : Placeℕ) where
    here : Expr → Result ℤ Unvalued
    here e = worth (names_of p) (context_at p i) e

    anchor_changed : KeptBy (names_of p) (context_at p i) (anchor_in p i) p (anchor p)
    unfolding here
    anchor_changed (register r) = refl
    anchor_changed (value e) = on (holds_label (moving_of p) (context_at p i) e)
      where
        aimed_at : (o : Option Origin) → origin p (here e) ≡ o → worth_of (names_of p) (anchor p) (context_at p i) (inner_at e o) ≡ here e
        aimed_at none d = refl
        aimed_at (some g) d =
            let w = origin_of p (here e) g d in
            let there : position (anchor p) g.place + g.offset ≡ w.0 = omega (arith, position_same p (anchor p) anchor_room g.place, w.2.address_is) in
            ap (λ (a : ℕ). Ok (pos a)) there ∙ sym w.1

        on : (b : Bool) → worth_of (names_of p) (anchor p) (context_at p i) (cond b (value e) (inner_at e (origin p (here e)))) ≡ here e
        on true = refl
        on false = aimed_at (origin p (here e)) refl
    anchor_changed (inner j o) = anchor_kept (names_of p) (context_at p i) (inner j o)

  -- the image, or the refusal, is the same
  pub judge_anchor : judge (anchor p) ≡ judge p
  unfolding context_at
  judge_anchor =
      judge_alike p (anchor p) (
        length_anchor p,
        λ i h. rw (at_anchor p i)
            (anchored_keeps (Alike (names_of p) p (anchor p) (context_at p i) (at p i)) p i
            (retarget_alike p (anchor p) anchor_kept (names_of p) (context_at p i) (anchor_in p i) (anchor_changed i) (at p i)) (same_alike p (anchor p) anchor_kept (names_of p) (context_at p i) (at p i))),
      )

  -- an inner label's offset is below its owner's size
  below_owner : Placeℕ → ℕ → Bool
  below_owner i o = ltb o (size_in (anchor p) i)

  label_below : (i : Placeℕ) (x : Operand) → is_plain x ≡ true → of_inner below_owner (anchor_in p i x) ≡ true
  unfolding below_owner here
  label_below i (register r) h = refl
  label_below i (value e) h = on (holds_label (moving_of p) (context_at p i) e)
    where
      aimed_at : (o : Option Origin) → origin p (here i e) ≡ o → of_inner below_owner (inner_at e o) ≡ true
      aimed_at none d = refl
      aimed_at (some g) d =
          let w = origin_of p (here i e) g d in
          lt-ltb g.offset (size_in (anchor p) g.place) (omega (arith, size_same p (anchor p) anchor_room g.place, w.2.has_byte))

      on : (b : Bool) → of_inner below_owner (cond b (value e) (inner_at e (origin p (here i e)))) ≡ true
      on true = refl
      on false = aimed_at (origin p (here i e)) refl
  label_below i (inner j o) h = false_true h

  plain_below : (x : Operand) → is_plain x ≡ true → of_inner below_owner x ≡ true
  plain_below (register r) h = refl
  plain_below (value e) h = refl
  plain_below (inner i o) h = false_true h

  last_below : (i : Placeℕ) (xs : List Operand) → every is_plain xs ≡ true → every (of_inner below_owner) (on_last (anchor_in p i) xs) ≡ true
  unfolding every
  last_below i [] h = refl
  last_below i (x ∷ []) h = and_both (of_inner below_owner (anchor_in p i x)) true (label_below i x (and_true (is_plain x) true h).0) refl
  last_below i (x ∷ y ∷ xs) h =
      let t = and_true (is_plain x) (every is_plain (y ∷ xs)) h in
      and_both (of_inner below_owner x) (every (of_inner below_owner) (on_last (anchor_in p i) (y ∷ xs))) (plain_below x t.0) (last_below i (y ∷ xs) t.1)

  -- so of every statement
  Low : Stmt → Type 0
  Low s = every (of_inner below_owner) (args_of s) ≡ true

  low_all : WellMade p → (i : Placeℕ) (s : Stmt) → at p i ≡ s → Low (retarget (anchor_in p i) s) × Low s
  unfolding Low every
  low_all w i =
      by_instr (λ s. at p i ≡ s → Low (retarget (anchor_in p i) s) × Low s)
      (λ f xs c e. let m = made_instr p w i f xs c e in (last_below i xs m.1, every_weaken is_plain (of_inner below_owner) xs plain_below m.1))
      (λ s n e. let z : args_of s ≡ [] = other [] (λ x. x.args) s n in let low : Low s = rw z in (rw (other s _ s n) low, low))

  -- an accepted input, anchored, is acceptable
  pub anchor_acceptable : WellMade p → (image : List ℕ) → judge p ≡ ok image → acceptable (anchor p) ≡ true
  unfolding acceptable every_inner_label below_owner Low
  anchor_acceptable w image e =
      and_both _ (assembles (anchor p))
      (every_all (λ s. every (of_inner below_owner) (args_of s)) (anchor p) gone
      (λ i h. let l = low_all w i (at p i) refl in ap (λ (s : Stmt). every (of_inner below_owner) (args_of s)) (at_anchor p i) ∙ anchored_keeps Low p i l.0 l.1))
      (image_assembles (anchor p) image (judge_anchor ∙ e))

-- every step leaves an acceptable program
pub step_acceptable : (asked : Settings) (p q : Program) → step asked p ≡ some q → acceptable q ≡ true
step_acceptable asked p q e = step_good p q (step_some asked p q e)

-- so the end form is acceptable
pub end_acceptable : (asked : Settings) (p : Program) → WellMade p → (image : List ℕ) → judge p ≡ ok image → acceptable (optimized asked p).program ≡ true
unfolding optimized
end_acceptable asked p w image e = chain_keeps asked (λ q. acceptable q ≡ true) (λ r q s h. step_good r q s) (total instr_bytes p) (anchor p) (anchor_acceptable p w image e)
