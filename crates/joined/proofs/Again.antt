-- "What C-16 writes reads back as the same statement", of whole listings, at the entries. Assumes nothing.
use mathlib.Core.Path.{◌≡◌, refl, ap, ◌∙◌, subst}
use mathlib.Core.Logic.{⊎_elim}
use mathlib.Core.List.{List, []}
use Prim.Native.Nat.{ℕ, ◌*◌, ◌≤◌, ◌<◌}
use native.Mathlib.Omega.{arith}
use lib.ListN.{length}
use borrow.Author.Tests.{le-leb}
use Rattle.rules.specs.declared.Refusal.{Refusal}
use Rattle.rules.specs.declared.Sizes.{Sizes}
use Rattle.std.specs.Prelude.{Result}
use Rattle.laws.specs.Lists.{total}
use Rattle.laws.proofs.Tests.{lt_or_le}
use Rattle.laws.proofs.Stores.{front_take}
use Rattle.rules.specs.declared.Refusal.TheVariants.{Limit}
use Rattle.rules.specs.Answers.{at_place, Judged, ok, no}
use Rattle.rules.specs.Programs.{Program}
use Rattle.rules.specs.Listing.{ListingForm, old_form, most_characters, lines_of, form_in, statement_lines, read_lines, read_listing}
use Rattle.rules.specs.Output.{text_of as listing_text}
use Rattle.promises.specs.Demand2.{WithinTotal}
use Rattle.promises.proofs.Listings.{line_room, read_limits}
use Rattle.promises.proofs.TextBack.{text_back, form_back}
use Rattle.digits.specs.Leaves.{Leaves as Left}
use Rattle.readable.specs.Readable.{text_of, readable}
use Rattle.readable.proofs.NeverShort.{not_refused}
use Rattle.intake.specs.Intake.{Takes, listing_of, in_room}
use Rattle.intake.proofs.Coincide.{one_taken}
use Rattle.intake.proofs.NeverShort.{never_short}
use Rattle.joined.specs.Joined.{written, Ran, ReadAgain, Passed}
use Rattle.joined.proofs.Made.{made, old_listing}
use Rattle.joined.proofs.Whole.{alone, listing_own, text_read, text_passes}

-- what an entry wrote that answered with a text
written_back : (x : Judged (List ℕ)) (t : List ℕ) (a : Result Sizes Refusal) (room room' : List ℕ) → x ≡ ok t → Left x a room room' → written a room' ≡ t
written_back x t a room room' e l =
    let r : Left (ok t) a room room' = subst (λ (y : Judged (List ℕ)). Left y a room room') e l in
    ap (λ (b : Result Sizes Refusal). written b room') r.answer ∙ front_take t room room' (length t) r.room refl

module _ (listing : List ℕ) (p : Program) (e : read_listing listing ≡ ok p) where
  -- by the definitions: a text of all statements is read, and their listing is written
  pub reads : WithinTotal old_form p → Takes 0 0 (lines_of (text_of p)) (ok (alone p))
  reads k = text_read 0 0 p (made listing p e).writable (omega (arith, (read_limits listing p e).0)) (omega (arith, k))

  -- its listing has the old form and reads as the same statements
  listed : WithinTotal old_form p → (form_in (lines_of (listing_of p)) ≡ old_form) × (read_listing (listing_of p) ≡ ok p)
  unfolding read_listing listing_text
  listed k =
      let m = made listing p e in
      let f = form_back old_form [] [] p m.writable (λ j. refl) in (
        f.form,
        ap (λ w. read_lines w 0 0 (statement_lines (lines_of (listing_of p)))) f.form ∙ ap (read_lines old_form 0 0) f.lines
            ∙ text_back old_form 0 0 [] p m.writable (λ j. refl) (omega (arith, (read_limits listing p e).0)) (omega (arith, k))
            ∙ ap ok m.places,
      )

  -- ---- at the entries, for rooms that are never too short

  module _ (text text' out out' : List ℕ) (a b : Result Sizes Refusal) (long : 86016 ≤ length text) (r : Ran listing text text' out out' a b) where
    is_text : written a text' ≡ text_of p
    is_text = written_back (readable listing (length text)) (text_of p) a text text' (not_refused listing p (length text) e long) r.writes

    judged : (j : Judged Program) → Takes 0 0 (lines_of (text_of p)) j → r.reads.judged ≡ j
    judged j t = one_taken (subst (λ (x : List ℕ). Takes 0 0 (lines_of x) r.reads.judged) is_text r.reads.takes) t

    pub read_again : WithinTotal old_form p → 50176 ≤ length out → ReadAgain listing p out out' b
    read_again k wide =
        let t = reads k in
        let q : Judged (List ℕ) = in_room (length out) r.reads.judged in
        let short : length (listing_of (alone p)) ≤ 50176 = never_short (text_of p) (alone p) t in
        let fits : in_room (length out) (ok (alone p)) ≡ ok (listing_of (alone p)) =
        rw (le-leb (length (listing_of (alone p))) (length out) (omega (arith, wide, short))) in
        let x : q ≡ ok (listing_of p) =
        ap (in_room (length out)) (judged (ok (alone p)) t) ∙ fits ∙ ap (λ (y : List ℕ). ok y) (listing_own p) in
        let l : Left (ok (listing_of p)) b out out' = subst (λ y. Left y b out out') x r.reads.leaves in
        let w : written b out' ≡ listing_of p = written_back q (listing_of p) b out out' x r.reads.leaves in
        record {
          answer = l.answer;
          room = l.room;
          is = w;
          form = ap (λ (y : List ℕ). form_in (lines_of y)) w ∙ (listed k).0;
          same = ap read_listing w ∙ (listed k).1;
          as_given = λ o. w ∙ old_listing listing p e o;
        }

    -- the exception: a listing with source lines whose frames of the old form pass the total is 2
    pub passed : (WithinTotal old_form p → ⊥) → Passed out out' b
    passed k =
        let n : ℕ = 2 * total (line_room old_form) p in
        let over : 49152 < n = ⊎_elim (λ h. h) (λ h. absurd (k (omega (arith, h)))) (lt_or_le 49152 n) in
        let few = (read_limits listing p e).0 in
        let t = text_passes 0 0 p (made listing p e).writable (omega (arith, few)) (omega arith) (omega (arith, over)) in
        let q : Judged Program = no (Limit (at_place t.0)) in
        let x : in_room (length out) r.reads.judged ≡ in_room (length out) q = ap (in_room (length out)) (judged q t.1) in
        let l : Left (in_room (length out) q) b out out' = subst (λ y. Left y b out out') x r.reads.leaves in
        record { place = t.0; answer = l.answer; room = l.room }
