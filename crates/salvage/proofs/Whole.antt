-- The whole: the mark and what comes behind it, and what the entry answers.
use mathlib.Core.Path.{◌≡◌, refl, sym, ap, ap₂, ◌∙◌}
use mathlib.Core.Bool.{Bool, true, false, ◌&&◌, cond}
use mathlib.Core.List.{List, ◌++◌}
use Prim.Native.Nat.{ℕ, ◌+◌, ◌≤◌, ◌<◌}
use native.Mathlib.Omega.{arith}
use lib.Dec.{leb}
use lib.ListN.{length, drop, length-append}
use borrow.Author.Tests.{le-leb, lt-leb}
use Rattle.std.specs.Prelude.{Err, Ok}
use Rattle.laws.specs.Lists.{each}
use Rattle.laws.proofs.Tests.{first_false, second_false, and_both}
use Rattle.rules.specs.declared.Refusal.TheVariants.{Room}
use Rattle.rules.specs.Answers.{Judged, ok, no, require}
use Rattle.rules.specs.Listing.{Line, lines_of, ListingForm}
use Rattle.rules.specs.Output.{line_of, mark_of}
use Rattle.listing.specs.Form.{form_of, is_marked, after_mark}
use Rattle.listing.proofs.Forms.{mark_form, mark_lines, marked_long}
use Rattle.digits.specs.Digits.{laid}
use Rattle.digits.proofs.Rooms.{laid_front}
use Rattle.salvage.specs.declared.walks.Extent.{Extent}
use Rattle.salvage.specs.Salvage.{Salvaged, behind_mark, salvage_from, salvaged, salvage}
use Rattle.salvage.specs.Entry.{extent_of, Leaves}
use Rattle.salvage.specs.Turns.{from_on, mark_length}

pub mark_size : (m : Bool) → length (mark_of (form_of m)) ≡ mark_length m
unfolding line_of each
mark_size true = refl
mark_size false = refl

pub mark_few : (m : Bool) → mark_length m ≤ 5
mark_few true = omega arith
mark_few false = omega arith

module _ (text : List ℕ) (m : Bool) (e : m ≡ is_marked text) where
  pub mark_there : mark_length m ≤ length text
  mark_there = on m e
    where
      on : (b : Bool) → b ≡ is_marked text → mark_length b ≤ length text
      on true e = marked_long text (sym e)
      on false e = omega arith

  behind : after_mark text ≡ drop (mark_length m) text
  unfolding after_mark
  behind = rw (← e) (on m)
    where
      on : (b : Bool) → cond b (drop 5 text) text ≡ drop (mark_length b) text
      on true = refl
      on false = refl

  abbrev rest : Salvaged
  rest = from_on (form_of m) text (mark_length m) 0 0

  pub whole_is : salvaged text ≡ behind_mark (form_of m) rest
  unfolding salvaged
  whole_is =
      ap₂ (λ (w : ListingForm) (ls : List Line). behind_mark w (salvage_from w 0 0 ls)) (mark_form text ∙ ap form_of (sym e))
      (mark_lines text ∙ ap lines_of behind)

  pub whole_listing : (salvaged text).listing ≡ mark_of (form_of m) ++ rest.listing
  whole_listing = ap (λ (x : Salvaged). x.listing) whole_is

  pub whole_length : length (salvaged text).listing ≡ mark_length m + length rest.listing
  whole_length = omega (arith, ap length whole_listing, length-append (mark_of (form_of m)) rest.listing, mark_size m)

  pub whole_count : (salvaged text).count ≡ rest.count
  whole_count = ap (λ (x : Salvaged). x.count) whole_is

  pub whole_report : (salvaged text).report ≡ rest.report
  whole_report = ap (λ (x : Salvaged). x.report) whole_is

-- ---- 12 for either room
module _ (text listing report : List ℕ) where
  abbrev answer : Judged Salvaged
  answer = salvage text (length listing) (length report)

  abbrev listing_fits : Bool
  listing_fits = leb (length (salvaged text).listing) (length listing)

  abbrev report_fits : Bool
  report_fits = leb (length (salvaged text).report) (length report)

  short_room : listing_fits && report_fits ≡ false
      → answer ≡ no (Room (salvaged text).count)
  unfolding salvage require
  short_room h = rw h

  refused : (n : ℕ) → n ≡ (salvaged text).count
      → answer ≡ no (Room (salvaged text).count) → Leaves answer (Err (Room n)) listing report listing report
  refused n z e = rw (e, z) (record { answer = refl; listing_is = refl; report_is = refl })

  pub no_listing_room : (n : ℕ) → n ≡ (salvaged text).count → length listing < length (salvaged text).listing
      → Leaves answer (Err (Room n)) listing report listing report
  no_listing_room n z h = refused n z
      (short_room (first_false listing_fits report_fits (lt-leb (length (salvaged text).listing) (length listing) h)))

  pub no_report_room : (n : ℕ) → n ≡ (salvaged text).count → length report < length (salvaged text).report
      → Leaves answer (Err (Room n)) listing report listing report
  no_report_room n z h = refused n z
      (short_room (second_false listing_fits report_fits (lt-leb (length (salvaged text).report) (length report) h)))

  enough : length (salvaged text).listing ≤ length listing → length (salvaged text).report ≤ length report → answer ≡ ok (salvaged text)
  unfolding salvage require
  enough h k = rw (and_both listing_fits report_fits (le-leb (length (salvaged text).listing) (length listing) h)
      (le-leb (length (salvaged text).report) (length report) k))

  pub written : (e : Extent) (listing' report' : List ℕ) → length (salvaged text).listing ≤ length listing
      → length (salvaged text).report ≤ length report → e ≡ extent_of (salvaged text)
      → listing' ≡ laid listing 0 (salvaged text).listing → report' ≡ laid report 0 (salvaged text).report
      → Leaves answer (Ok e) listing report listing' report'
  written e listing' report' h k z a b =
      rw (enough h k, z) (record { answer = refl; listing_is = a ∙ laid_front listing _; report_is = b ∙ laid_front report _ })
