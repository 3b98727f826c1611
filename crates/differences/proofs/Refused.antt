-- Each refusal has its cause, and a room of 129,024 characters is never too short.
use mathlib.Core.Path.{◌≡◌, refl, ap}
use mathlib.Core.List.{List, [], ◌∷◌, map}
use mathlib.Core.Logic.{inl, inr, ⊎_elim}
use mathlib.Core.Option.{Option}
use mathlib.Core.Bool.{Bool, true, false, ◌&&◌, cond}
use Prim.Native.Nat.{ℕ, zero, suc, ◌+◌, ◌*◌, ◌≤◌, ◌<◌}
use native.Mathlib.Omega.{arith}
use lib.Dec.{leb, ltb, eqb}
use lib.ListN.{length, drop, length-append, drop_of_length-le}
use lib.Seq.{drop-cons}
use borrow.Author.Tests.{leb-true, leb-false, ltb-true, eqb-true, eqb-false}
use Rattle.laws.specs.Lists.{total, each}
use Rattle.laws.proofs.Lists.{total_append}
use Rattle.laws.proofs.Tests.{clash, and_true}
use Rattle.rules.specs.declared.Refusal.TheVariants.{Broken, Limit, Room, Pairing}
use Rattle.rules.specs.Answers.{at_place, Judged, ok, no, require}
use Rattle.rules.specs.Programs.{Program}
use Rattle.rules.specs.Listing.{Line, ListingForm, old_form, new_form, lines_of, form_in, statement_lines, unhex, widest, most_characters, within_limits, well_formed}
use Rattle.rules.specs.Listing.{read_frame_in, read_lines, read_listing}
use Rattle.rules.specs.Output.{line_of}
use Rattle.rules.proofs.Laws.{then_ok, require_ok}
use Rattle.digits.specs.Digits.{hex_of}
use Rattle.digits.proofs.Rooms.{length_hex}
use Rattle.listing.proofs.DigitPairs.{length_unhex}
use Rattle.pairing.specs.Pairings.{Frame, Frames, frames_of, good_from, good_entries, entries_in, pairs_of}
use Rattle.pairing.proofs.Accepted.{accepted_lines, listing_read}
use Rattle.pairing.proofs.Orders.{pairs_order}
use Rattle.differences.specs.Changes.{Change, kept, removed, added, changed, changes_of, bytes_of, text_of}
use Rattle.differences.specs.Differences.{Differing, text, of_first, of_second, of_both, after, same_form, read_second, compared, differences}
use Rattle.differences.specs.Promise.{Entry, in_first, in_second, entries_from, BothRead, good_in, whole_text, Cause, Causes, NeverShort, IndexFits}
use Rattle.differences.proofs.Says.{says_both}
use Rattle.differences.proofs.TextBack.{count_frames}

-- ---- causes
-- no more entries are good than there are
good_few : (n m low j : ℕ) (is : List ℕ) → good_from n m low j is ≤ length is
unfolding good_from
good_few n m low j [] = omega arith
good_few n m low j (i ∷ is) = on (leb low i && (ltb i n && ltb j m)) (good_few n m (suc i) (suc j) is)
  where
    on : (b : Bool) → good_from n m (suc i) (suc j) is ≤ length is → cond b (suc (good_from n m (suc i) (suc j) is)) 0 ≤ suc (length is)
    on true h = omega arith
    on false h = omega arith

-- nor more than the second listing has statements left
good_within : (n m low j : ℕ) (is : List ℕ) → j ≤ m → good_from n m low j is + j ≤ m
unfolding good_from
good_within n m low j [] h = omega arith
good_within n m low j (i ∷ is) h = on (leb low i && (ltb i n && ltb j m)) refl (good_within n m (suc i) (suc j) is)
  where
    on : (b : Bool) → leb low i && (ltb i n && ltb j m) ≡ b → (suc j ≤ m → good_from n m (suc i) (suc j) is + suc j ≤ m)
        → cond b (suc (good_from n m (suc i) (suc j) is)) 0 + j ≤ m
    on true e below =
        let a = and_true (leb low i) (ltb i n && ltb j m) e in
        let l = ltb-true j m (and_true (ltb i n) (ltb j m) a.1).1 in
        omega (arith, below (omega arith))
    on false e below = omega arith

module _ (first second : List ℕ) (pairing : Option (List ℕ)) (room : ℕ) where
  abbrev forms : Bool
  forms = same_form (form_in (lines_of first)) (form_in (lines_of second))

  -- causes: of every answer
  pub causes : Causes first second pairing room
  unfolding differences compared read_second require good_entries
  causes = on_first (read_listing first) refl
    where
      t : List ℕ
      t = whole_text first second pairing

      on_room : (b : BothRead first second) → good_in first second pairing ≡ length (entries_in pairing) → (c : Bool) → leb (length t) room
          ≡ c
          → Cause first second pairing room (after of_both (require c (Room (length b.program)) (ok t)) text)
      on_room b g true l = (b, g, refl, leb-true (length t) room l)
      on_room b g false l = (b, inr (g, refl, leb-false (length t) room l))

      on_pairs : (b : BothRead first second) (c : Bool) → eqb (good_in first second pairing) (length (entries_in pairing)) ≡ c
          → Cause first second pairing room
          (after of_both
          (require c (Pairing (good_in first second pairing)) (require (leb (length t) room) (Room (length b.program)) (ok t)))
          text)
      on_pairs b true e = on_room b (eqb-true (good_in first second pairing) (length (entries_in pairing)) e) (leb (length t) room) refl
      on_pairs b false e =
          let few = good_few (length (frames_of first)) (length (frames_of second)) 0 0 (entries_in pairing) in
          let apart = eqb-false (good_in first second pairing) (length (entries_in pairing)) e in
          (b, inl (below few apart, refl))
        where
          below : good_in first second pairing ≤ length (entries_in pairing) → (good_in first second pairing ≡ length (entries_in pairing)
              → ⊥)
              → good_in first second pairing < length (entries_in pairing)
          below few apart = omega (arith, few, apart)

      on_second : (p : Program) → read_listing first ≡ ok p → forms ≡ true → (y : Judged Program) → read_listing second ≡ y
          → Cause first second pairing room
          (after of_second y (λ q. after of_both (compared (frames_of first) (frames_of second) pairing (length p) room) text))
      on_second p e f (ok q) d =
          on_pairs (
          record {
            program = p;
            reads = e;
            program' = q;
            reads' = d;
            one_form = f;
          }) (eqb (good_in first second pairing) (length (entries_in pairing)))
          refl
      on_second p e f (no r) d = ((p, e), inr (f, d))

      on_form : (p : Program) → read_listing first ≡ ok p → (c : Bool) → forms ≡ c
          → Cause first second pairing room
          (after of_second (require c (Broken (at_place 0)) (read_listing second))
          (λ q. after of_both (compared (frames_of first) (frames_of second) pairing (length p) room) text))
      on_form p e true f = on_second p e f (read_listing second) refl
      on_form p e false f = ((p, e), inl (f, refl))

      on_first : (x : Judged Program) → read_listing first ≡ x
          → Cause first second pairing room
          (after of_first x (λ p.
          after of_second (read_second first second) (λ q.
          after of_both (compared (frames_of first) (frames_of second) pairing (length p) room) text)))
      on_first (ok p) e = on_form p e forms refl
      on_first (no r) e = e

-- ---- how long the text is: by what it says of each listing
length_line : (s : List ℕ) → length (line_of s) ≡ 2 * length s + 1
unfolding line_of
length_line s = omega (arith, length-append (hex_of s) (10 ∷ []), length_hex s)

abbrev weight : Entry → ℕ
weight e = 7 + 2 * length e.frame

abbrev heavy : Frame → ℕ
heavy f = 7 + 2 * length f

change_size : (d : Change) → length (line_of (bytes_of d)) ≤ total weight (in_first d) + total weight (in_second d)
unfolding total
change_size (kept i j f) = omega (arith, length_line (bytes_of (kept i j f)))
change_size (removed i f) = omega (arith, length_line (bytes_of (removed i f)))
change_size (added j f) = omega (arith, length_line (bytes_of (added j f)))
change_size (changed i j old new) = omega (arith, length_line (bytes_of (changed i j old new)), length-append old new)

text_size : (ds : List Change) → length (text_of ds) ≤ total weight (each (λ d. in_first d) ds) + total weight (each (λ d. in_second d) ds)
unfolding text_of each total
text_size [] = omega arith
text_size (d ∷ ds) =
    omega (
      arith,
      length-append (line_of (bytes_of d)) (text_of ds),
      change_size d,
      text_size ds,
      total_append weight (in_first d) (each (λ d. in_first d) ds),
      total_append weight (in_second d) (each (λ d. in_second d) ds),
    )

entries_weight : (a : Frames) (n i : ℕ) → i + n ≡ length a → total weight (entries_from a n i) ≡ total heavy (drop i a)
unfolding entries_from total
entries_weight a zero i e = rw (drop_of_length-le a {i = i} (omega arith))
entries_weight a (suc n) i e = rw (drop-cons a i [] (omega arith), entries_weight a n (suc i) (omega arith))

-- ---- how long the frames of a listing are
abbrev width : Line → ℕ
width l = length l.chars

lines_few : (w : ListingForm) (i sum : ℕ) (ls : List Line) (p : Program) → sum ≤ most_characters w → read_lines w i sum ls ≡ ok p
    → sum + total width ls ≤ most_characters w
unfolding read_lines total within_limits
lines_few w i sum [] p h e = omega arith
lines_few w i sum (l ∷ ls) p h e =
    let x = then_ok (require (within_limits w i sum l.chars) (Limit (at_place i))
    (require (well_formed l) (Broken (at_place i)) (read_frame_in w i (unhex l.chars)))) _ p e in
    let a = require_ok (within_limits w i sum l.chars) (Limit (at_place i)) _ x.0 x.1 in
    let b = and_true (ltb i 1024) _ a.0 in
    let c = and_true (leb (length l.chars) (widest w)) _ b.1 in
    let d = leb-true (sum + length l.chars) (most_characters w) c.1 in
    let y = then_ok (read_lines w (suc i) (sum + length l.chars) ls) _ p x.2 in
    omega (arith, lines_few w (suc i) (sum + length l.chars) ls y.0 d y.1)

frames_few : (ls : List Line) → total heavy (map (λ l. unhex l.chars) ls) ≤ 7 * length ls + total width ls
unfolding total
frames_few [] = omega arith
frames_few (l ∷ ls) = omega (arith, length_unhex l.chars, frames_few ls)

most : (w : ListingForm) → most_characters w ≤ 57344
most old_form = omega arith
most new_form = omega arith

-- 57,344 characters, and seven for each of 1,024 statements
listing_few : (s : List ℕ) (p : Program) → read_listing s ≡ ok p → total weight (entries_from (frames_of s) (length (frames_of s)) 0)
    ≤ 64512
unfolding read_listing frames_of
listing_few s p e =
    let ls = statement_lines (lines_of s) in
    let w = form_in (lines_of s) in
    omega (
      arith,
      entries_weight (frames_of s) (length (frames_of s)) 0 (omega arith),
      frames_few ls,
      lines_few w 0 0 ls p (omega arith) e,
      (listing_read s p e).few (omega arith),
      most w,
    )

module _ (first second : List ℕ) (pairing : Option (List ℕ)) (room : ℕ) where
  whole_few : BothRead first second → good_in first second pairing ≡ length (entries_in pairing) → length (whole_text first second pairing)
      ≤ 129024
  whole_few b g =
      let a = frames_of first in
      let c = frames_of second in
      let ps = pairs_of a c pairing in
      let both = says_both a c ps (pairs_order a c pairing g) in
      omega (
        arith,
        text_size (changes_of a c ps),
        ap (total weight) both.first,
        ap (total weight) both.second,
        listing_few first b.program b.reads,
        listing_few second b.program' b.reads',
      )

  -- never-short: with that room 12 is never given
  pub never_short : NeverShort first second pairing room
  never_short l n e = on (differences first second pairing room) (causes first second pairing room) e
    where
      on : (x : Differing) → Cause first second pairing room x → x ≡ of_both (Room n) → ⊥
      on (text t) c z = clash (cc)
      on (of_first r) c z = clash (cc)
      on (of_second r) c z = clash (cc)
      on (of_both r) c z =
          ⊎_elim (λ h. let y = h.1 in clash (cc)) (λ h. omega (arith, l, whole_few c.0 h.0, h.2)) c.1

  -- index-fits: two bytes hold 13's index
  pub index_fits : IndexFits first second pairing room
  unfolding good_entries
  index_fits k e = on (differences first second pairing room) (causes first second pairing room) e
    where
      few : BothRead first second → good_in first second pairing ≤ 1024
      few b =
          omega (
            arith,
            good_within (length (frames_of first)) (length (frames_of second)) 0 0 (entries_in pairing) (omega arith),
            count_frames second,
            (accepted_lines second b.program' b.reads').few,
          )

      on : (x : Differing) → Cause first second pairing room x → x ≡ of_both (Pairing k) → k ≤ 1024
      on (text t) c z = clash (cc)
      on (of_first r) c z = clash (cc)
      on (of_second r) c z = clash (cc)
      on (of_both r) c z =
          ⊎_elim (λ h. let y = h.1 in let same : k ≡ good_in first second pairing = cc in omega (arith, same, few c.0))
          (λ h. let y = h.1 in clash (cc)) c.1
