-- Rooms of 58,373 and of 9,223 bytes are never too short, whatever the text is.
use mathlib.Core.Path.{◌≡◌, refl, ap, ◌∙◌}
use mathlib.Core.Bool.{Bool, true, false, cond}
use mathlib.Core.List.{List, [], ◌∷◌, ◌++◌}
use Prim.Native.Nat.{ℕ, suc, ◌+◌, ◌*◌, ◌≤◌}
use native.Mathlib.Omega.{arith}
use lib.Dec.{ltb}
use lib.ListN.{length, take, length-take, length-append}
use borrow.Author.Tests.{le-leb}
use Rattle.laws.specs.Lists.{each, total}
use Rattle.laws.proofs.Lists.{length_each}
use Rattle.rules.specs.Answers.{Judged, ok, no, require}
use Rattle.rules.specs.Expressions.{pair}
use Rattle.rules.specs.Programs.{Placeℕ, Program}
use Rattle.rules.specs.Refusals.{fault_of}
use Rattle.rules.specs.Listing.{Line, lines_of, ListingForm, old_form, new_form, form_in, statement_lines, most_characters}
use Rattle.rules.specs.Output.{mark_of}
use Rattle.digits.proofs.Rooms.{length_line}
use Rattle.lines.specs.Alone.{by_itself, standing, told, left_from}
use Rattle.salvage.specs.Salvage.{salvaged, salvage}
use Rattle.salvage.specs.Promise.{told_from, NeverShort}
use Rattle.salvage.proofs.AsSaid.{as_said}

-- ---- the listing
mark_and_most : (w : ListingForm) → length (mark_of w) + most_characters w ≤ 57349
mark_and_most old_form = omega arith
mark_and_most new_form = omega (arith, length_line (0x7D ∷ 0x02 ∷ []))

-- a line feed for each line
feeds : (w : ListingForm) (ls : List Line)
    → total (λ l. length (standing w l ++ (10 ∷ []))) ls ≡ total (λ l. length (standing w l)) ls + length ls
unfolding total
feeds w [] = refl
feeds w (l ∷ ls) = omega (arith, feeds w ls, length-append (standing w l) (10 ∷ []))

-- ---- the report
told_short : (i : Placeℕ) (j : Judged Program) → length (told i j) ≤ 9
told_short i (ok p) = omega arith
told_short i (no r) = omega (arith, length_line (0x7B ∷ (fault_of r).number ∷ pair i))

all_told : (w : ListingForm) (i : Placeℕ) (ls : List Line) → length (told_from w i ls) ≤ 9 * length ls
unfolding told_from
all_told w i [] = omega arith
all_told w i (l ∷ ls) =
    omega (arith, length-append (told i (by_itself w l)) (told_from w (suc i) ls), told_short i (by_itself w l), all_told w (suc i) ls)

left_short : (b : Bool) (n : Placeℕ) → length (cond b (left_from n) []) ≤ 7
left_short true n = omega (arith, length_line (0x7C ∷ pair n))
left_short false n = omega arith

module _ (text : List ℕ) where
  abbrev form : ListingForm
  form = form_in (lines_of text)

  abbrev lines : List Line
  lines = statement_lines (lines_of text)

  abbrev n : ℕ
  n = (salvaged text).count

  abbrev out : List ℕ
  out = each (λ l. standing form l ++ (10 ∷ [])) (take n lines)

  few : length (take n lines) ≤ 1024
  few = omega (arith, length-take n lines, (as_said text).few)

  listing_short : length (salvaged text).listing ≤ 58373
  listing_short =
      let e : length (salvaged text).listing ≡ length (mark_of form) + length out =
      ap length (as_said text).lines ∙ length-append (mark_of form) out in
      let f = length_each (λ l. standing form l ++ (10 ∷ [])) (take n lines) in
      omega (arith, e, f, feeds form (take n lines), (as_said text).short, few, mark_and_most form)

  report_short : length (salvaged text).report ≤ 9223
  report_short =
      let tell : List ℕ = told_from form 0 (take n lines) in
      let left : List ℕ = cond (ltb n (length lines)) (left_from n) [] in
      let e : length (salvaged text).report ≡ length tell + length left = ap length (as_said text).tells ∙ length-append tell left in
      omega (arith, e, all_told form 0 (take n lines), left_short (ltb n (length lines)) n, few)

  pub never_short : NeverShort text
  unfolding salvage require
  never_short listing_room report_room h k =
      rw (
        le-leb (length (salvaged text).listing) listing_room (omega (arith, listing_short)),
        le-leb (length (salvaged text).report) report_room (omega (arith, report_short)),
      )
      refl
