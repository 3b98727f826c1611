-- Document 02, C-13, the whole: "Refusals: 1 and 2, first listing first; then 13 for a pairing out of order, repeated or beyond a
-- listing; then 12."
use Rattle.std.specs.Prelude.{List, Bool, true, false, ℕ, leb, eqb, length}
use Rattle.std.proofs.Math.Option.{Option}
use Rattle.rules.specs.declared.Refusal.{Refusal}
use Rattle.rules.specs.declared.Refusal.TheVariants.{Broken, Room, Pairing}
use Rattle.rules.specs.Answers.{at_place, Judged, ok, no, require}
use Rattle.rules.specs.Programs.{Placeℕ, Program}
use Rattle.rules.specs.Listing.{ListingForm, old_form, new_form, lines_of, form_in, read_listing}
use Rattle.pairing.specs.Pairings.{Frames, frames_of, good_entries, entries_in, pairs_of}
use Rattle.differences.specs.Changes.{changes_of, text_of}

-- what is answered: the text, or a refusal, which for 1 and 2 also says of which listing
pub data Differing : Type 0 where
  text : List ℕ → Differing
  of_first : Refusal → Differing
  of_second : Refusal → Differing
  of_both : Refusal → Differing

-- what is told of a refusal, or what comes next
abbrev pub after : {A : Type 0} → (Refusal → Differing) → Judged A → (A → Differing) → Differing
after told (ok a) f = f a
after told (no r) f = told r

abbrev pub same_form : ListingForm → ListingForm → Bool
same_form old_form old_form = true
same_form old_form new_form = false
same_form new_form old_form = false
same_form new_form new_form = true

-- C-20: "in C-13 a second listing of the other form is 1, place 0", before its own lines are judged
unfoldable pub read_second : (first second : List ℕ) → Judged Program
read_second first second = require (same_form (form_in (lines_of first)) (form_in (lines_of second))) (Broken (at_place 0)) (read_listing second)

-- 13 gives the index of the first entry that is no good, 12 the first listing's statement count, which is n
unfoldable pub compared : (a b : Frames) (pairing : Option (List ℕ)) (n room : ℕ) → Judged (List ℕ)
compared a b pairing n room =
    let is : List Placeℕ = entries_in pairing in
    let good : ℕ = good_entries (length a) (length b) is in
    let t : List ℕ = text_of (changes_of a b (pairs_of a b pairing)) in
    require (eqb good (length is)) (Pairing good) (require (leb (length t) room) (Room n) (ok t))

unfoldable pub differences : (first second : List ℕ) (pairing : Option (List ℕ)) (room : ℕ) → Differing
differences first second pairing room =
    after of_first (read_listing first) (λ p.
    after of_second (read_second first second) (λ q.
    after of_both (compared (frames_of first) (frames_of second) pairing (length p) room) text))
