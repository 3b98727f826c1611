-- `walks::write_from` meets its contract: what is left, stored where the last line ended, makes the whole. Assumes nothing.
use mathlib.Core.Path.{◌≡◌, sym, ap, ap₂, subst, ◌∙◌}
use mathlib.Core.Bool.{true, false}
use mathlib.Core.List.{List, [], ◌∷◌, ◌++◌}
use Prim.Native.Nat.{ℕ, suc, ◌+◌, ◌-◌, ◌≤◌, ◌<◌}
use native.Mathlib.Omega.{arith}
use lib.ListN.{length, take, drop, length-append}
use Rattle.laws.proofs.Stores.{rest_is}
use Rattle.rules.specs.Listing.{Line, ListingForm}
use Rattle.listing.specs.Lines.{first_line}
use Rattle.listing.specs.Form.{form_of}
use Rattle.lines.specs.Alone.{by_itself, standing}
use Rattle.lines.specs.Turns.{Numbered, OneLine, TurnOf}
use Rattle.salvage.specs.Salvage.{Salvaged, left_off, keeps_limits}
use Rattle.salvage.specs.Turns.{from_on, told_length, told_of}
use Rattle.salvage.proofs.Steps.{length_told, length_left, kept_limits, none_left, end_there, line_there, turn_left, counted, listing_more, report_more}
use Rattle.digits.specs.Digits.{laid}
use Rattle.digits.proofs.Rooms.{laid_more, laid_nothing}
use Rattle.salvage.proofs.walks.write_from.Goals as goal

-- the first line of what is left
module _ (a : goal.After-put_left-arg-1) where
  abbrev text : List ℕ
  text = a.args.text.now

  abbrev w : ListingForm
  w = form_of a.args.marked

  abbrev q : ℕ
  q = a.loop-q.q

  abbrev i : ℕ
  i = a.loop-q.i

  abbrev sum : ℕ
  sum = a.loop-q.sum

  some : q < length text
  some = omega arith

  found : TurnOf w (drop q text) a.take_turn-t.result
  found = subst (λ (x : List ℕ). TurnOf w x a.take_turn-t.result) (rest_is q text) a.take_turn-t.ensures

  -- it is left off
  left : keeps_limits w i sum a.take_turn-t.result.length ≡ false → from_on w text q i sum ≡ left_off i
  left = turn_left w text q i sum a.take_turn-t.result some found

-- the first line of what is left
module _ (a : goal.After-slice_known-then-not-keeps_limits-1) where
  abbrev text_2 : List ℕ
  text_2 = a.args.text.now

  abbrev w_2 : ListingForm
  w_2 = form_of a.args.marked

  abbrev q_2 : ℕ
  q_2 = a.loop-q.q

  abbrev i_2 : ℕ
  i_2 = a.loop-q.i

  abbrev sum_2 : ℕ
  sum_2 = a.loop-q.sum

  some_2 : q_2 < length text_2
  some_2 = omega arith

  found_2 : TurnOf w_2 (drop q_2 text_2) a.take_turn-t.result
  found_2 = subst (λ (x : List ℕ). TurnOf w_2 x a.take_turn-t.result) (rest_is q_2 text_2) a.take_turn-t.ensures

  -- it is left off
  left_2 : keeps_limits w_2 i_2 sum_2 a.take_turn-t.result.length ≡ false → from_on w_2 text_2 q_2 i_2 sum_2 ≡ left_off i_2
  left_2 = turn_left w_2 text_2 q_2 i_2 sum_2 a.take_turn-t.result some_2 found_2

-- the first line of what is left
module _ (a : goal.After-struct_known-1) where
  abbrev text_3 : List ℕ
  text_3 = a.args.text.now

  abbrev w_3 : ListingForm
  w_3 = form_of a.args.marked

  abbrev q_3 : ℕ
  q_3 = a.loop-q.q

  abbrev i_3 : ℕ
  i_3 = a.loop-q.i

  abbrev sum_3 : ℕ
  sum_3 = a.loop-q.sum

  some_3 : q_3 < length text_3
  some_3 = omega arith

  found_3 : TurnOf w_3 (drop q_3 text_3) a.take_turn-t.result
  found_3 = subst (λ (x : List ℕ). TurnOf w_3 x a.take_turn-t.result) (rest_is q_3 text_3) a.take_turn-t.ensures

  ends_3 : (1 ≤ a.take_turn-t.result.end) × (q_3 + a.take_turn-t.result.end ≤ length text_3)
  ends_3 = end_there w_3 text_3 q_3 i_3 sum_3 a.take_turn-t.result some_3 found_3

-- the first line of what is left
module _ (a : goal.After-put_standing-arg-in-loop-q-1) where
  abbrev text_4 : List ℕ
  text_4 = a.args.text.now

  abbrev w_4 : ListingForm
  w_4 = form_of a.args.marked

  abbrev q_4 : ℕ
  q_4 = a.loop-q.q

  abbrev i_4 : ℕ
  i_4 = a.loop-q.i

  abbrev sum_4 : ℕ
  sum_4 = a.loop-q.sum

  some_4 : q_4 < length text_4
  some_4 = omega arith

  found_4 : TurnOf w_4 (drop q_4 text_4) a.take_turn-t.result
  found_4 = subst (λ (x : List ℕ). TurnOf w_4 x a.take_turn-t.result) (rest_is q_4 text_4) a.take_turn-t.ensures

  -- or it comes out, and this is left
  abbrev next_4 : Salvaged
  next_4 = from_on w_4 text_4 (q_4 + a.take_turn-t.result.end) (i_4 + 1) (sum_4 + a.take_turn-t.result.length)

  counts_4 : keeps_limits w_4 i_4 sum_4 a.take_turn-t.result.length ≡ true
      → ((from_on w_4 text_4 q_4 i_4 sum_4).count ≡ suc next_4.count)
      × (length (from_on w_4 text_4 q_4 i_4 sum_4).listing ≡ a.take_turn-t.result.length + 1 + length next_4.listing)
      × (length (from_on w_4 text_4 q_4 i_4 sum_4).report ≡ told_length a.take_turn-t.result.number + length next_4.report)
  counts_4 = counted w_4 text_4 q_4 i_4 sum_4 a.take_turn-t.result some_4 found_4

  abbrev line_4 : List ℕ
  line_4 = take (q_4 + a.take_turn-t.result.end - q_4) (drop q_4 text_4)

  one_4 : OneLine line_4 × (first_line line_4 ≡ first_line (drop q_4 text_4))
  one_4 = line_there w_4 text_4 q_4 i_4 sum_4 a.take_turn-t.result some_4 found_4

-- the first line of what is left
module _ (a : goal.After-put_told-arg-1) where
  abbrev text_5 : List ℕ
  text_5 = a.args.text.now

  abbrev w_5 : ListingForm
  w_5 = form_of a.args.marked

  abbrev q_5 : ℕ
  q_5 = a.loop-q.q

  abbrev i_5 : ℕ
  i_5 = a.loop-q.i

  abbrev sum_5 : ℕ
  sum_5 = a.loop-q.sum

  some_5 : q_5 < length text_5
  some_5 = omega arith

  found_5 : TurnOf w_5 (drop q_5 text_5) a.take_turn-t.result
  found_5 = subst (λ (x : List ℕ). TurnOf w_5 x a.take_turn-t.result) (rest_is q_5 text_5) a.take_turn-t.ensures

  -- or it comes out, and this is left
  abbrev next_5 : Salvaged
  next_5 = from_on w_5 text_5 (q_5 + a.take_turn-t.result.end) (i_5 + 1) (sum_5 + a.take_turn-t.result.length)

  counts_5 : keeps_limits w_5 i_5 sum_5 a.take_turn-t.result.length ≡ true
      → ((from_on w_5 text_5 q_5 i_5 sum_5).count ≡ suc next_5.count)
      × (length (from_on w_5 text_5 q_5 i_5 sum_5).listing ≡ a.take_turn-t.result.length + 1 + length next_5.listing)
      × (length (from_on w_5 text_5 q_5 i_5 sum_5).report ≡ told_length a.take_turn-t.result.number + length next_5.report)
  counts_5 = counted w_5 text_5 q_5 i_5 sum_5 a.take_turn-t.result some_5 found_5

-- the first line of what is left
module _ (a : goal.After-struct_known-in-loop-q-2-1) where
  abbrev text_6 : List ℕ
  text_6 = a.args.text.now

  abbrev w_6 : ListingForm
  w_6 = form_of a.args.marked

  abbrev q_6 : ℕ
  q_6 = a.loop-q.q

  abbrev i_6 : ℕ
  i_6 = a.loop-q.i

  abbrev sum_6 : ℕ
  sum_6 = a.loop-q.sum

  some_6 : q_6 < length text_6
  some_6 = omega arith

  found_6 : TurnOf w_6 (drop q_6 text_6) a.take_turn-t.result
  found_6 = subst (λ (x : List ℕ). TurnOf w_6 x a.take_turn-t.result) (rest_is q_6 text_6) a.take_turn-t.ensures

  ends_6 : (1 ≤ a.take_turn-t.result.end) × (q_6 + a.take_turn-t.result.end ≤ length text_6)
  ends_6 = end_there w_6 text_6 q_6 i_6 sum_6 a.take_turn-t.result some_6 found_6

  -- or it comes out, and this is left
  abbrev next_6 : Salvaged
  next_6 = from_on w_6 text_6 (q_6 + a.take_turn-t.result.end) (i_6 + 1) (sum_6 + a.take_turn-t.result.length)

  counts_6 : keeps_limits w_6 i_6 sum_6 a.take_turn-t.result.length ≡ true
      → ((from_on w_6 text_6 q_6 i_6 sum_6).count ≡ suc next_6.count)
      × (length (from_on w_6 text_6 q_6 i_6 sum_6).listing ≡ a.take_turn-t.result.length + 1 + length next_6.listing)
      × (length (from_on w_6 text_6 q_6 i_6 sum_6).report ≡ told_length a.take_turn-t.result.number + length next_6.report)
  counts_6 = counted w_6 text_6 q_6 i_6 sum_6 a.take_turn-t.result some_6 found_6

  abbrev line_6 : List ℕ
  line_6 = take (q_6 + a.take_turn-t.result.end - q_6) (drop q_6 text_6)

  one_6 : OneLine line_6 × (first_line line_6 ≡ first_line (drop q_6 text_6))
  one_6 = line_there w_6 text_6 q_6 i_6 sum_6 a.take_turn-t.result some_6 found_6

pub put_left-requires : goal.put_left-requires
put_left-requires c =
    let x = left c (sym c.keeps_limits.ensures ∙ c.if-not-keeps_limits.true) in
    let g = ap (λ (y : Salvaged). length y.report) x ∙ length_left (i c) in
    (omega (arith, c.loop-q.invariant.6, c.loop-q.invariant.4), omega arith)

pub returns-then-not-keeps_limits : goal.returns-then-not-keeps_limits
returns-then-not-keeps_limits c =
    let x = left_2 c (sym c.keeps_limits.ensures ∙ c.if-not-keeps_limits.true) in (
      sym (laid_nothing c.loop-q.listing c.loop-q.at)
          ∙ ap (λ (y : Salvaged). laid c.loop-q.listing c.loop-q.at y.listing) (sym x)
          ∙ c.loop-q.invariant.7,
      c.put_left.ensures ∙ ap (λ (y : Salvaged). laid c.loop-q.report c.loop-q.told y.report) (sym x) ∙ c.loop-q.invariant.8,
    )

pub overflow_add-end : goal.overflow_add-end
overflow_add-end c = omega (arith, (ends_3 c).1)

pub slice_bounds-put_standing-end : goal.slice_bounds-put_standing-end
slice_bounds-put_standing-end c = omega (arith, (ends_3 c).1)

pub put_standing-requires : goal.put_standing-requires
put_standing-requires c =
    let r = c.take_turn-t.result in
    let n = counts_4 c (sym c.keeps_limits.ensures ∙ c.if-not-keeps_limits.false) in (
      (one_4 c).0,
      subst (λ (x : Line). Numbered (by_itself (w_4 c) x) r.number) (sym (one_4 c).1) (found_4 c).number_is,
      omega (
        arith,
        c.loop-q.invariant.5,
        c.loop-q.invariant.3,
        (found_4 c).length_is,
        ap (λ (x : Line). length (standing (w_4 c) x))
            (one_4 c).1,
      ),
    )

pub put_told-told-requires : goal.put_told-told-requires
put_told-told-requires c =
    let n = counts_5 c (sym c.keeps_limits.ensures ∙ c.if-not-keeps_limits.false) in
    (omega (arith, c.loop-q.invariant.6, c.loop-q.invariant.4), omega arith)

pub loop-q-smaller : goal.loop-q-smaller
loop-q-smaller c =
    omega (arith, (ends_6 c).0)

pub loop-q-preserved : goal.loop-q-preserved
loop-q-preserved c =
    let r = c.take_turn-t.result in
    let h = sym c.keeps_limits.ensures ∙ c.if-not-keeps_limits.false in
    let n = counts_6 c h in
    let b = kept_limits (w_6 c) (i_6 c) (sum_6 c) r.length h in
    let line_6 = standing (w_6 c) (first_line (drop (q_6 c) (text_6 c))) in
    let m : length (line_6 ++ (10 ∷ [])) ≡ r.length + 1 = omega (arith, length-append line_6 (10 ∷ []), (found_6 c).length_is) in
    let told = c.put_told-told.ensures in (
      (ends_6 c).1,
      omega (arith, b.0),
      b.1,
      c.put_standing.auto.out ∙ c.loop-q.invariant.3,
      c.put_told-told.auto.report ∙ c.loop-q.invariant.4,
      omega (arith, c.loop-q.invariant.5),
      omega (arith, c.loop-q.invariant.6, told.1),
      ap (λ (o : List ℕ). laid o (c.loop-q.at + (r.length + 1)) (next_6 c).listing)
          (c.put_standing.ensures ∙ ap (λ (x : Line). laid c.loop-q.listing c.loop-q.at (standing (w_6 c) x ++ (10 ∷ []))) (one_6 c).1)
          ∙ laid_more c.loop-q.listing (line_6 ++ (10 ∷ [])) (next_6 c).listing c.loop-q.at (c.loop-q.at + (r.length + 1)) (omega arith)
          (omega (arith, c.loop-q.invariant.5, c.loop-q.invariant.3))
          ∙ ap (laid c.loop-q.listing c.loop-q.at) (sym (listing_more (w_6 c) (text_6 c) (q_6 c) (i_6 c) (sum_6 c) r (some_6 c) (found_6 c)
          h))
          ∙ c.loop-q.invariant.7,
      ap₂ (λ (o : List ℕ) (e : ℕ). laid o e (next_6 c).report) told.0 told.1
          ∙ laid_more c.loop-q.report (told_of r.number (i_6 c)) (next_6 c).report c.loop-q.told (c.loop-q.told + told_length r.number)
          (omega (arith, length_told r.number (i_6 c))) (omega (arith, c.loop-q.invariant.6, c.loop-q.invariant.4))
          ∙ ap (laid c.loop-q.report c.loop-q.told) (sym (report_more (w_6 c) (text_6 c) (q_6 c) (i_6 c) (sum_6 c) r (some_6 c) (found_6 c)
          h))
          ∙ c.loop-q.invariant.8,
    )

pub returns : goal.returns
returns c =
    let x = none_left (form_of c.args.marked) c.args.text.now c.loop-q.q c.loop-q.i c.loop-q.sum (omega arith) in (
      sym (laid_nothing c.loop-q.listing c.loop-q.at)
          ∙ ap (λ (y : Salvaged). laid c.loop-q.listing c.loop-q.at y.listing) (sym x)
          ∙ c.loop-q.invariant.7,
      sym (laid_nothing c.loop-q.report c.loop-q.told)
          ∙ ap (λ (y : Salvaged). laid c.loop-q.report c.loop-q.told y.report) (sym x)
          ∙ c.loop-q.invariant.8,
    )
