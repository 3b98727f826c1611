-- C-20: two texts that differ in their source lines alone run alike, and what is handed out for them differs in its source lines alone.
use mathlib.Core.Path.{◌≡◌, refl, sym, ◌∙◌, ap, ap₂}
use mathlib.Core.List.{List, [], ◌∷◌, ◌++◌}
use mathlib.Core.Bool.{Bool, true, false, ◌&&◌}
use Prim.Native.Nat.{ℕ, zero, suc, ◌+◌, ◌<◌, ◌^◌}
use native.Mathlib.Omega.{arith}
use lib.Dec.{T, leb}
use lib.ListN.{length, get_or, length-append}
use Rattle.rules.specs.declared.Refusal.{Refusal}
use Rattle.rules.specs.declared.Sizes.{Sizes}
use Rattle.std.specs.Prelude.{Err, Result, Ok}
use Rattle.laws.specs.Lists.{each}
use Rattle.laws.proofs.Tests.{true_false, false_true}
use Rattle.rules.specs.declared.Settings.{Settings}
use Rattle.rules.specs.declared.Refusal.TheVariants.{Room}
use Rattle.rules.specs.Answers.{Judged, ok, no, ◌>>=◌, ◌>>◌, require}
use Rattle.rules.specs.Programs.{Placeℕ, instr, Program}
use Rattle.rules.specs.Listing.{lines_of, ListingForm, old_form, new_form, form_in, read_listing, Beside, beside_of}
use Rattle.rules.specs.Judging.{judge}
use Rattle.rules.specs.Output.{frame_of, line_of, lines_in, mark_of, lines_from, text_of}
use Rattle.rules.specs.Run.{Output, rewritten, output_of, fits, run, assembled, answer_of, image_after, front}
use Rattle.rules.proofs.Computed.{lines, turns, refuses, within, computed}
use Rattle.promises.proofs.Listings.{LineFits, read_sources}
use Rattle.believed.specs.LinesAlone.{LinesAlone, OutputsAlone, RunsAlone, LinesUnseen}
use Rattle.believed.proofs.LinesRead.{reads_alike}
use Rattle.believed.proofs.LinesWritten.{AllFit, fit_from, each_long, written_alone}

-- a text of the new form that is read as a program has source lines of four bytes
sources_fit : (text : List ℕ) (p : Program) → read_listing text ≡ ok p → form_in (lines_of text) ≡ new_form → AllFit (beside_of text).lines
unfolding beside_of
sources_fit text p e f j = fits_in (form_in (lines_of text)) f (read_sources text p e j)
  where
    fits_in : (w : ListingForm) → w ≡ new_form → LineFits w (get_or (beside_of text).lines j 0) → get_or (beside_of text).lines j 0 < 2 ^ 32
    fits_in old_form z h = omega (arith, h)
    fits_in new_form z h = h

-- what is handed out in the new form
text_new : (b : Beside) (is : List Placeℕ) (p : Program) → b.form ≡ new_form
    → text_of b is p ≡ mark_of new_form ++ lines_in new_form (lines_from b.lines is) p
unfolding text_of
text_new b is p e = ap (λ (w : ListingForm). mark_of w ++ lines_in w (lines_from b.lines is) p) e

module _ (b b' : Beside) (form : b.form ≡ new_form) (form' : b'.form ≡ new_form) (is : List Placeℕ) (q : Program) where
  texts_long : length (text_of b is q) ≡ length (text_of b' is q)
  texts_long =
      let ms : List ℕ = lines_from b.lines is in
      let ns : List ℕ = lines_from b'.lines is in
      ap length (text_new b is q form)
      ∙ length-append (mark_of new_form) (lines_in new_form ms q)
      ∙ ap (λ (n : ℕ). length (mark_of new_form) + n) (each_long ms ns q)
      ∙ sym (length-append (mark_of new_form) (lines_in new_form ns q))
      ∙ sym (ap length (text_new b' is q form'))

  texts_alone : AllFit b.lines → AllFit b'.lines → LinesAlone (text_of b is q) (text_of b' is q)
  texts_alone h h' =
      rw (text_new b is q form, text_new b' is q form')
      (written_alone (lines_from b.lines is) (lines_from b'.lines is) (fit_from b.lines h is) (fit_from b'.lines h' is) q)

module _ (asked : Settings) (text text' : List ℕ) (h : LinesAlone text text') where
  outputs_alone : (p : Program) → read_listing text ≡ ok p
      → OutputsAlone (output_of asked (beside_of text) p) (output_of asked (beside_of text') p)
  unfolding output_of
  outputs_alone p e =
      let b : Beside = beside_of text in
      let b' : Beside = beside_of text' in
      let e' : read_listing text' ≡ ok p = sym (reads_alike text text' h) ∙ e in
      let f : b.form ≡ new_form = unfold beside_of in h.form in
      let f' : b'.form ≡ new_form = unfold beside_of in h.form' in
      let is : List Placeℕ = (rewritten asked p).stems in
      let q : Program = (rewritten asked p).statements in
      record {
        image = refl;
        count = refl;
        stems = refl;
        as_long = texts_long b b' f f' is q;
        listing = texts_alone b b' f f' is q (sources_fit text p e h.form) (sources_fit text' p e' h.form');
      }

  -- runs-alone: both runs are refused alike, or hand out what differs in its source lines alone
  pub runs_alone : (listing_room image_room : ℕ) → RunsAlone (run asked text listing_room image_room) (run asked text' listing_room image_room)
  unfolding run ◌>>=◌ ◌>>◌ fits require
  runs_alone listing_room image_room = rw (sym (reads_alike text text' h)) (of_text (read_listing text) refl)
    where
      last : (text : List ℕ) (p : Program) → Judged Output
      last text p =
          let o : Output = output_of asked (beside_of text) p in
          require (fits listing_room image_room o) (Room (length p)) (ok o)

      of_room : (p : Program) (o o' : Output) (b b' : Bool) → b ≡ b' → OutputsAlone o o'
          → RunsAlone (require b (Room (length p)) (ok o)) (require b' (Room (length p)) (ok o'))
      of_room p o o' true true e k = k
      of_room p o o' false false e k = refl
      of_room p o o' true false e k = true_false e
      of_room p o o' false true e k = false_true e

      fits_alike : (o o' : Output) → OutputsAlone o o' → fits listing_room image_room o ≡ fits listing_room image_room o'
      fits_alike o o' k =
          ap₂ ◌&&◌ (ap (λ (n : ℕ). leb n listing_room) k.as_long) (ap (λ (x : List ℕ). leb (length x) image_room) k.image)

      of_judging : (p : Program) → read_listing text ≡ ok p → (x : Judged (List ℕ)) → RunsAlone (x >> last text p) (x >> last text' p)
      of_judging p e (no r) = refl
      of_judging p e (ok image) =
          let o : Output = output_of asked (beside_of text) p in
          let o' : Output = output_of asked (beside_of text') p in
          let k = outputs_alone p e in
          of_room p o o' (fits listing_room image_room o) (fits listing_room image_room o') (fits_alike o o' k) k

      of_text : (x : Judged Program) → read_listing text ≡ x
          → RunsAlone (x >>= (λ p. judge p >> last text p)) (x >>= (λ p. judge p >> last text' p))
      of_text (no r) e = refl
      of_text (ok p) e = of_judging p e (judge p)

-- ---- the answers

answers_alike : (x x' : Judged Output) → RunsAlone x x' → answer_of x ≡ answer_of x'
answers_alike (no r) (no r') e = ap Err e
answers_alike (no r) (ok o') k = absurd k
answers_alike (ok o) (no r') k = absurd k
answers_alike (ok o) (ok o') k =
    ap₂ (λ (l c : ℕ). sized l c (length o.image)) k.as_long k.count
    ∙ ap (λ (x : List ℕ). sized (length o'.listing) o'.count (length x)) k.image
  where
    sized : (l c i : ℕ) → Result Sizes Refusal
    sized l c i = Ok (record { listing = l; rewrites = c; image = i })

images_alike : (room : List ℕ) (x x' : Judged Output) → RunsAlone x x' → image_after x room ≡ image_after x' room
images_alike room (no r) (no r') e = refl
images_alike room (no r) (ok o') k = absurd k
images_alike room (ok o) (no r') k = absurd k
images_alike room (ok o) (ok o') k = ap (λ (x : List ℕ). front x room) k.image

assembled_alike : (text text' : List ℕ) → read_listing text ≡ read_listing text' → (image_room : ℕ)
    → assembled text image_room ≡ assembled text' image_room
unfolding assembled
assembled_alike text text' e image_room =
    ap (λ (x : Judged Program). x >>= (λ p. judge p >>= (λ image. require (leb (length image) image_room) (Room (length p)) (ok image)))) e

-- lines-unseen: of two texts that differ in their source lines alone
pub lines_unseen : (text text' : List ℕ) → LinesAlone text text' → LinesUnseen text text'
lines_unseen text text' h = record {
  reads = reads_alike text text' h;
  assembles = assembled_alike text text' (reads_alike text text' h);
  runs = λ asked l m. runs_alone asked text text' h l m;
  answers = λ asked l m. answers_alike (run asked text l m) (run asked text' l m) (runs_alone asked text text' h l m);
  image_rooms = λ asked l m room. images_alike room (run asked text l m) (run asked text' l m) (runs_alone asked text text' h l m);
}

-- ---- two texts computed: a Nop of line 1 and of line DEADBEEF

one_fits : (n : ℕ) → n < 2 ^ 32 → AllFit (n ∷ [])
one_fits n h zero = h
one_fits n h (suc j) = omega arith

nop_alone : LinesAlone (lines "7D02 010000000143") (lines "7D02 01DEADBEEF43")
unfolding lines_in line_of each frame_of
nop_alone = written_alone (1 ∷ []) (0xDEADBEEF ∷ []) (one_fits 1 (omega arith)) (one_fits 0xDEADBEEF (omega arith)) (instr 0x43 [] 0 ∷ [])

-- RunsLines of rules with other source lines: a fold and a shrink, a target out of range, a frame that breaks off, and too little room
other_lines : List Bool
other_lines =
    turns "7D02 01000000002E018001 01FFFFFFFF2B010001 02000000008001 010000000943 02000000090001 01000000012B0000000005" "7D02 01000000002F010001 02000000008001 010000000943 02000000090001 01000000012C0000000002 7F0002000005" ∷
    turns "7D02 01FFFFFFFF2C0000000082" "7E0A00000000000080" ∷
    refuses "7D02 01FFFFFFFF" 1 0 ∷
    within 17 1 "7D02 01FFFFFFFF43" "7E0C00010000000000" ∷
    []

other_lines_hold : T (computed other_lines)
unfolding computed other_lines
other_lines_hold = tt
