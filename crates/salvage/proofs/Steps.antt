-- One turn of the walk over a text: the first line of what is left, and the rest.
use mathlib.Core.Path.{◌≡◌, refl, sym, ap, ◌∙◌}
use mathlib.Core.Bool.{Bool, true, false, not, cond}
use mathlib.Core.List.{List, [], ◌∷◌, ◌++◌, append_assoc}
use Prim.Native.Nat.{ℕ, zero, suc, ◌+◌, ◌-◌, ◌≤◌, ◌<◌}
use native.Mathlib.Numerals.{add-one}
use native.Mathlib.Omega.{arith}
use lib.Dec.{leb, ltb}
use lib.ListN.{length, take, drop, length-drop, length-append, drop_of_length-le}
use lib.Seq.{drop-drop}
use borrow.Author.Tests.{leb-true, ltb-true}
use Rattle.laws.proofs.Tests.{and_true, true_false, false_true}
use Rattle.rules.specs.Answers.{Judged, ok, no}
use Rattle.rules.specs.Expressions.{pair}
use Rattle.rules.specs.Programs.{Placeℕ, Program}
use Rattle.rules.specs.Listing.{lines_of, ListingForm, old_form, new_form, most_characters}
use Rattle.rules.specs.Output.{line_of}
use Rattle.listing.specs.Lines.{first_line, after_line}
use Rattle.listing.proofs.FirstLine.{lines_are}
use Rattle.digits.proofs.Rooms.{length_line}
use Rattle.lines.specs.declared.standing.Turn.{Turn}
use Rattle.lines.specs.Alone.{by_itself, standing, told, left_from}
use Rattle.lines.specs.Turns.{Numbered, line_end, OneLine, TurnOf}
use Rattle.lines.proofs.Feeds.{end_rest, drop_end, taken_at}
use Rattle.salvage.specs.Salvage.{Salvaged, nothing, left_off, in_front, keeps_limits, salvage_from}
use Rattle.salvage.specs.Entry.{extent_of}
use Rattle.salvage.specs.Turns.{from_on, told_length, told_of}

pub not_false : (b : Bool) → not b ≡ false → b ≡ true
not_false true h = refl
not_false false h = true_false h

pub not_true : (b : Bool) → not b ≡ true → b ≡ false
not_true true h = false_true h
not_true false h = refl

-- ---- what is told
pub told_as : (i : Placeℕ) (j : Judged Program) (n : ℕ) → Numbered j n → told i j ≡ told_of n i
told_as i (ok p) n h = rw h
told_as i (no r) zero h = absurd (omega (arith, h.1))
told_as i (no r) (suc n) h = rw h.0

pub length_told : (n i : ℕ) → length (told_of n i) ≡ told_length n
length_told zero i = refl
length_told (suc n) i = length_line (0x7B ∷ suc n ∷ pair i)

pub some_told : (n i : ℕ) → (n ≡ 0 → ⊥) → (told_length n ≡ 9) × (told_of n i ≡ line_of (0x7B ∷ n ∷ pair i))
some_told zero i h = absurd (h refl)
some_told (suc n) i h = (refl, refl)

pub told_few : (n : ℕ) → told_length n ≤ 9
told_few zero = omega arith
told_few (suc n) = omega arith

pub length_left : (i : ℕ) → length (left_from i) ≡ 7
length_left i = length_line (0x7C ∷ pair i)

pub most : (w : ListingForm) → most_characters w ≤ 57344
most old_form = omega arith
most new_form = omega arith

-- what keeping the limits says
pub kept_limits : (w : ListingForm) (i sum len : ℕ) → keeps_limits w i sum len ≡ true → (i < 1024) × (sum + len ≤ 57344)
kept_limits w i sum len h =
    let a = and_true (ltb i 1024) (leb (sum + len) (most_characters w)) h in
    (ltb-true i 1024 a.0, omega (arith, leb-true (sum + len) (most_characters w) a.1, most w))

-- ---- nothing is left
pub none_left : (w : ListingForm) (text : List ℕ) (q i sum : ℕ) → length text ≤ q → from_on w text q i sum ≡ nothing
unfolding salvage_from lines_of
none_left w text q i sum h = rw (drop_of_length-le text h)

-- ---- one line more
module _ (w : ListingForm) (text : List ℕ) (q i sum : ℕ) (r : Turn) (some : q < length text) (t : TurnOf w (drop q text) r) where
  abbrev rest : List ℕ
  rest = drop q text

  abbrev next : Salvaged
  next = from_on w text (q + r.end) (i + 1) (sum + r.length)

  there : 0 < length rest
  there = omega (arith, length-drop q text)

  some_end : (t : List ℕ) → 0 < length t → 1 ≤ line_end t
  unfolding line_end
  some_end [] h = absurd (omega arith)
  some_end (c ∷ t) h = omega arith

  pub end_there : (1 ≤ r.end) × (q + r.end ≤ length text)
  end_there =
      let e = t.ends in
      (omega (arith, some_end rest there), omega (arith, end_rest rest, length-drop q text))

  -- the line itself, as a part of the text
  pub line_there : OneLine (take (q + r.end - q) (drop q text)) × (first_line (take (q + r.end - q) (drop q text)) ≡ first_line
      (drop q text))
  line_there = taken_at rest (q + r.end - q) (omega (arith, t.ends)) there

  goes_on : lines_of (after_line rest) ≡ lines_of (drop (q + r.end) text)
  goes_on = ap lines_of (sym (drop_end rest) ∙ ap (λ (n : ℕ). drop n rest) (sym t.ends) ∙ drop-drop r.end q text)

  turn_is : from_on w text q i sum
      ≡ cond (keeps_limits w i sum r.length) (in_front (standing w (first_line rest)) (told_of r.number i) next) (left_off i)
  unfolding salvage_from
  turn_is =
      ap (salvage_from w i sum) (lines_are rest there)
      ∙ rw (← t.length_is, told_as i (by_itself w (first_line rest)) r.number t.number_is, goes_on, ← add-one i)

  pub turn_kept : keeps_limits w i sum r.length ≡ true
      → from_on w text q i sum ≡ in_front (standing w (first_line rest)) (told_of r.number i) next
  turn_kept k = turn_is ∙ ap (λ (b : Bool). cond b (in_front (standing w (first_line rest)) (told_of r.number i) next) (left_off i)) k

  pub turn_left : keeps_limits w i sum r.length ≡ false → from_on w text q i sum ≡ left_off i
  turn_left k = turn_is ∙ ap (λ (b : Bool). cond b (in_front (standing w (first_line rest)) (told_of r.number i) next) (left_off i)) k

  -- in numbers
  pub counted : keeps_limits w i sum r.length ≡ true
      → ((from_on w text q i sum).count ≡ suc next.count)
      × (length (from_on w text q i sum).listing ≡ r.length + 1 + length next.listing)
      × (length (from_on w text q i sum).report ≡ told_length r.number + length next.report)
  counted k =
      let e = turn_kept k in
      let n = length-append (standing w (first_line rest)) (10 ∷ next.listing) in
      let m = length-append (told_of r.number i) next.report in (
        ap (λ (x : Salvaged). x.count) e,
        omega (arith, ap (λ (x : Salvaged). length x.listing) e, t.length_is),
        omega (arith, ap (λ (x : Salvaged). length x.report) e, length_told r.number i),
      )

  -- in characters
  pub listing_more : keeps_limits w i sum r.length ≡ true
      → (from_on w text q i sum).listing ≡ (standing w (first_line rest) ++ (10 ∷ [])) ++ next.listing
  listing_more k = ap (λ (x : Salvaged). x.listing) (turn_kept k) ∙ sym (append_assoc (standing w (first_line rest)) (10 ∷ []) next.listing)

  pub report_more : keeps_limits w i sum r.length ≡ true → (from_on w text q i sum).report ≡ told_of r.number i ++ next.report
  report_more k = ap (λ (x : Salvaged). x.report) (turn_kept k)

-- the code's answer, number by number
pub extent_is : (x : Salvaged) (n l r : ℕ) → n ≡ x.count → l ≡ length x.listing → r ≡ length x.report
    → record { statements = n; listing = l; report = r } ≡ extent_of x
extent_is x n l r e f g = rw (e, f, g)
