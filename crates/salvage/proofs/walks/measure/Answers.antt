-- `walks::measure` meets its contract: what is counted and what is left make the whole. Assumes nothing.
use mathlib.Core.Path.{◌≡◌, sym, ap, subst, ◌∙◌}
use mathlib.Core.Bool.{false}
use mathlib.Core.List.{List}
use Prim.Native.Nat.{ℕ, ◌+◌, ◌≤◌, ◌<◌}
use native.Mathlib.Omega.{arith}
use lib.ListN.{length, drop}
use Rattle.laws.proofs.Stores.{rest_is}
use Rattle.rules.specs.Listing.{ListingForm}
use Rattle.listing.specs.Form.{form_of}
use Rattle.lines.specs.Turns.{TurnOf}
use Rattle.salvage.specs.Salvage.{Salvaged, left_off, keeps_limits}
use Rattle.salvage.specs.Turns.{from_on}
use Rattle.salvage.proofs.Steps.{length_left, kept_limits, none_left, end_there, turn_left, counted, extent_is}
use Rattle.salvage.proofs.walks.measure.Goals as goal

-- the first line of what is left
module _ (a : goal.Then-not-keeps_limits) where
  abbrev text : List ℕ
  text = a.args.text.now

  abbrev w : ListingForm
  w = form_of a.args.marked

  abbrev q : ℕ
  q = a.loop-q.q

  abbrev i : ℕ
  i = a.loop-q.i

  abbrev sum : ℕ
  sum = a.loop-q.sum

  some : q < length text
  some = omega arith

  found : TurnOf w (drop q text) a.take_turn-t.result
  found = subst (λ (x : List ℕ). TurnOf w x a.take_turn-t.result) (rest_is q text) a.take_turn-t.ensures

  -- it is left off
  left : keeps_limits w i sum a.take_turn-t.result.length ≡ false → from_on w text q i sum ≡ left_off i
  left = turn_left w text q i sum a.take_turn-t.result some found

-- the first line of what is left
module _ (a : goal.After-struct_known-1) where
  abbrev text_2 : List ℕ
  text_2 = a.args.text.now

  abbrev w_2 : ListingForm
  w_2 = form_of a.args.marked

  abbrev q_2 : ℕ
  q_2 = a.loop-q.q

  abbrev i_2 : ℕ
  i_2 = a.loop-q.i

  abbrev sum_2 : ℕ
  sum_2 = a.loop-q.sum

  some_2 : q_2 < length text_2
  some_2 = omega arith

  found_2 : TurnOf w_2 (drop q_2 text_2) a.take_turn-t.result
  found_2 = subst (λ (x : List ℕ). TurnOf w_2 x a.take_turn-t.result) (rest_is q_2 text_2) a.take_turn-t.ensures

  ends_2 : (1 ≤ a.take_turn-t.result.end) × (q_2 + a.take_turn-t.result.end ≤ length text_2)
  ends_2 = end_there w_2 text_2 q_2 i_2 sum_2 a.take_turn-t.result some_2 found_2

-- the first line of what is left
module _ (a : goal.After-told_length-told) where
  abbrev text_3 : List ℕ
  text_3 = a.args.text.now

  abbrev w_3 : ListingForm
  w_3 = form_of a.args.marked

  abbrev q_3 : ℕ
  q_3 = a.loop-q.q

  abbrev i_3 : ℕ
  i_3 = a.loop-q.i

  abbrev sum_3 : ℕ
  sum_3 = a.loop-q.sum

  some_3 : q_3 < length text_3
  some_3 = omega arith

  found_3 : TurnOf w_3 (drop q_3 text_3) a.take_turn-t.result
  found_3 = subst (λ (x : List ℕ). TurnOf w_3 x a.take_turn-t.result) (rest_is q_3 text_3) a.take_turn-t.ensures

  ends_3 : (1 ≤ a.take_turn-t.result.end) × (q_3 + a.take_turn-t.result.end ≤ length text_3)
  ends_3 = end_there w_3 text_3 q_3 i_3 sum_3 a.take_turn-t.result some_3 found_3

pub returns-then-not-keeps_limits : goal.returns-then-not-keeps_limits
returns-then-not-keeps_limits c =
    let x = left c (sym c.keeps_limits.ensures ∙ c.if-not-keeps_limits.true) in
    let e = ap (λ (y : Salvaged). y.count) x in
    let f = ap (λ (y : Salvaged). length y.listing) x in
    let g = ap (λ (y : Salvaged). length y.report) x ∙ length_left (i c) in (
      extent_is (from_on (w c) (text c) c.args.start 0 0) (i c) (sum c + i c) (c.loop-q.told + 7) (omega (arith, c.loop-q.invariant.4))
          (omega (arith, c.loop-q.invariant.5)) (omega (arith, c.loop-q.invariant.6)),
      omega arith,
    )

pub overflow_add-q : goal.overflow_add-q
overflow_add-q c = omega (arith, (ends_2 c).1)

pub loop-q-smaller : goal.loop-q-smaller
loop-q-smaller c = omega (arith, (ends_3 c).0)

pub loop-q-preserved : goal.loop-q-preserved
loop-q-preserved c =
    let r = c.take_turn-t.result in
    let h = sym c.keeps_limits.ensures ∙ c.if-not-keeps_limits.false in
    let n = counted (w_3 c) (text_3 c) (q_3 c) (i_3 c) (sum_3 c) r (some_3 c) (found_3 c) h in
    let b = kept_limits (w_3 c) (i_3 c) (sum_3 c) r.length h in
    let d = c.told_length-told.ensures in (
      (ends_3 c).1,
      omega (arith, b.0),
      b.1,
      omega arith,
      omega (arith, c.loop-q.invariant.4),
      omega (arith, c.loop-q.invariant.5),
      omega (arith, c.loop-q.invariant.6),
    )

pub returns : goal.returns
returns c =
    let x = none_left (form_of c.args.marked) c.args.text.now c.loop-q.q c.loop-q.i c.loop-q.sum (omega arith) in
    let e = ap (λ (y : Salvaged). y.count) x in
    let f = ap (λ (y : Salvaged). length y.listing) x in
    let g = ap (λ (y : Salvaged). length y.report) x in
    let whole = from_on (form_of c.args.marked) c.args.text.now c.args.start 0 0 in (
      extent_is whole c.loop-q.i (c.loop-q.sum + c.loop-q.i) c.loop-q.told (omega (arith, c.loop-q.invariant.4))
          (omega (arith, c.loop-q.invariant.5)) (omega (arith, c.loop-q.invariant.6)),
      omega arith,
    )
