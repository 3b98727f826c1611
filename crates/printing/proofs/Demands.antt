-- The demands, of whatever `print_run` answers and writes: each starts from its contract.
use mathlib.Core.Path.{◌≡◌, refl, sym, ◌∙◌, ap}
use mathlib.Core.List.{List, ◌++◌, append_assoc}
use Prim.Native.Nat.{ℕ}
use native.Mathlib.Omega.{arith}
use lib.ListN.{length, take, drop}
use lib.Seq.{take_at}
use Rattle.std.specs.Prelude.{Err, Result, Ok}
use Rattle.laws.proofs.Tests.{clash}
use Rattle.rules.specs.declared.Sizes.{Sizes}
use Rattle.rules.specs.declared.Settings.{Settings}
use Rattle.rules.specs.declared.Refusal.{Refusal}
use Rattle.rules.specs.declared.Refusal.TheVariants.{Broken, Limit, Again, NoName, Back, Beyond, NoValue, Range, Outside, Far, Page, Room, Pairing, Absent, Column, Start, Unknown, Full, Store}
use Rattle.rules.specs.Refusals.{fault_of}
use Rattle.rules.specs.Answers.{Judged, ok, no}
use Rattle.rules.specs.Output.{done_line, refused_line}
use Rattle.rules.specs.Run.{Output, run, answer_of, front, image_after, printed, listing_room_of_program, image_room_of_program, program}
use Rattle.promises.specs.Entry.{Promised}
use Rattle.promises.proofs.Entry.{promised}
use Rattle.promises.proofs.OutputRoom.{never_room}
use Rattle.entries.proofs.Demands.{in_front_lem}
use Rattle.printing.specs.Page.{page_length, on_page, refusal_line, printed_of, PrintedRun, Prints}
use Rattle.printing.proofs.Lines.{line_of_run}

-- ---- `print_run`
module _ (asked : Settings) (text page image page' image' : List ℕ) where
  abbrev whole : Judged Output
  whole = run asked text listing_room_of_program image_room_of_program

  -- 12 is only the rooms'
  not_twelve : (s : Refusal) → whole ≡ no s → (fault_of s).number ≡ 12 → ⊥
  not_twelve (Broken i) e n = absurd (omega (arith, n))
  not_twelve (Limit i) e n = absurd (omega (arith, n))
  not_twelve (Again i) e n = absurd (omega (arith, n))
  not_twelve (NoName i) e n = absurd (omega (arith, n))
  not_twelve (Back i) e n = absurd (omega (arith, n))
  not_twelve (Beyond i) e n = absurd (omega (arith, n))
  not_twelve (NoValue i) e n = absurd (omega (arith, n))
  not_twelve (Range i j v) e n = absurd (omega (arith, n))
  not_twelve (Outside i j v) e n = absurd (omega (arith, n))
  not_twelve (Far i j v) e n = absurd (omega (arith, n))
  not_twelve (Page i j v) e n = absurd (omega (arith, n))
  not_twelve (Room m) e n = never_room asked text m e
  not_twelve (Pairing k) e n = absurd (omega (arith, n))
  not_twelve Absent e n = absurd (omega (arith, n))
  not_twelve (Column i c) e n = absurd (omega (arith, n))
  not_twelve Start e n = absurd (omega (arith, n))
  not_twelve Unknown e n = absurd (omega (arith, n))
  not_twelve Full e n = absurd (omega (arith, n))
  not_twelve Store e n = absurd (omega (arith, n))

  refused_so : (s : Refusal) (j : Judged Output) → Err s ≡ answer_of j → j ≡ no s
  refused_so s (ok o) e = clash (cc)
  refused_so s (no r) e = cc

  -- prints: the front of the page, or the 7E line, is what the program prints, the rest of the page is what it was, and 12 is never printed
  pub prints : (r : Result Sizes Refusal) → PrintedRun asked text page image r page' image' → Prints asked text page r page'
  unfolding program
  prints r x =
      let page_is = in_front_lem (on_page whole) page page' (page_length r) x.page_length_is x.page_is in
      record {
        printed_is = told r whole refl x.answers page_is.0;
        beyond = page_is.1;
        never_12 = λ s e. not_twelve s (refused_so s whole (sym e ∙ x.answers));
      }
    where
      told : (a : Result Sizes Refusal) (j : Judged Output) → whole ≡ j → a ≡ answer_of j → take (page_length a) page' ≡ on_page j → printed_of a page' ≡ program asked text
      told (Ok z) (ok o) e d f = f ∙ sym (ap printed e)
      told (Ok z) (no s) e d f = clash (cc)
      told (Err s) (ok o) e d f = clash (cc)
      told (Err s) (no t) e d f =
          let so = refused_so s whole (d ∙ sym (ap answer_of e)) in
          line_of_run asked text listing_room_of_program image_room_of_program s so ∙ sym (ap printed so)

  -- printed-promised: the demands hold of the listing that is printed, of the image and of the count
  pub printed_promised : (sizes : Sizes) → PrintedRun asked text page image (Ok sizes) page' image' → Promised asked text (take sizes.listing page') (take sizes.image image') sizes.rewrites
  printed_promised sizes x = on whole refl x.answers x.page_is x.image_is
    where
      on : (j : Judged Output) → whole ≡ j → Ok sizes ≡ answer_of j → page' ≡ front (on_page j) page → image' ≡ image_after j image
          → Promised asked text (take sizes.listing page') (take sizes.image image') sizes.rewrites
      on (ok o) e d f g =
          let z : sizes ≡ record { listing = length o.listing; rewrites = o.count; image = length o.image } = cc in
          let line : List ℕ = done_line o.count (length o.image) in
          let rest : List ℕ = drop (length (o.listing ++ line)) page in
          let written : take sizes.listing page' ≡ o.listing =
          ap (take sizes.listing) (f ∙ append_assoc o.listing line rest) ∙ take_at o.listing (line ++ rest) sizes.listing (sym (ap (λ (s : Sizes). s.listing) z)) in
          let bytes : take sizes.image image' ≡ o.image = (in_front_lem o.image image image' sizes.image (ap (λ (s : Sizes). s.image) z) g).0 in
          let count : sizes.rewrites ≡ o.count = ap (λ (s : Sizes). s.rewrites) z in
          rw (written, bytes, count) (promised asked text listing_room_of_program image_room_of_program o e)
      on (no s) e d f g = clash (cc)

  -- printed-refused: "a refusal changes no byte we lent"; "On refusal it writes only 7E, number, place in two bytes" and what C-12 adds: `refusal_line`
  pub printed_refused : (s : Refusal) → PrintedRun asked text page image (Err s) page' image'
      → (page' ≡ page) × (image' ≡ image) × (refusal_line s ≡ refused_line (fault_of s))
  printed_refused s x =
      let e = refused_so s whole x.answers in (
        x.page_is ∙ ap (λ (j : Judged Output). front (on_page j) page) e,
        x.image_is ∙ ap (λ (j : Judged Output). image_after j image) e,
        line_of_run asked text listing_room_of_program image_room_of_program s e,
      )
