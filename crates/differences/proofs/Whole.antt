-- An accepted run says changes that lead from the first listing to the second, with a pairing and without, in order, each told right.
use mathlib.Core.Path.{◌≡◌, refl, sym, ap, ◌∙◌}
use mathlib.Core.Option.{Option, some}
use mathlib.Core.List.{List, [], ◌∷◌, ◌++◌, append-nil}
use mathlib.Core.Bool.{Bool, true, false, cond}
use Prim.Native.Nat.{ℕ, zero, suc, ◌-◌, ◌<◌}
use native.Mathlib.Omega.{arith}
use lib.Dec.{leb, eqb}
use lib.ListN.{length, get_or}
use borrow.Author.Tests.{eqb-true}
use Rattle.laws.specs.Lists.{each, same}
use Rattle.laws.specs.Options.{bind}
use Rattle.laws.proofs.Lists.{each_append, same_refl}
use Rattle.laws.proofs.Tests.{clash, true_false}
use Rattle.rules.specs.declared.Refusal.{Refusal}
use Rattle.rules.specs.declared.Refusal.TheVariants.{Broken, Room, Pairing}
use Rattle.rules.specs.Answers.{at_place, Judged, ok, no, require}
use Rattle.rules.specs.Programs.{Program}
use Rattle.rules.specs.Listing.{ListingForm, old_form, new_form, lines_of, form_in, read_listing}
use Rattle.rules.specs.Output.{line_of, mark_of}
use Rattle.pairing.specs.Pairings.{Frame, Frames, Pair, frames_of, good_entries, entries_in, pairs_of}
use Rattle.pairing.proofs.Orders.{pairs_order}
use Rattle.differences.specs.Changes.{Change, kept, removed, added, changed, paired}
use Rattle.differences.specs.Changes.{removed_from, added_from, between, changes_of, apply, text_of, changes_in}
use Rattle.differences.specs.Differences.{Differing, text, of_first, of_second, of_both}
use Rattle.differences.specs.Differences.{after, same_form, read_second, compared, differences}
use Rattle.differences.specs.Promise.{applied, pair_in, RemovedFirst, ToldRight, Exact}
use Rattle.differences.proofs.Applies.{gives_second}
use Rattle.differences.proofs.Says.{says_both}
use Rattle.differences.proofs.Bytes.{text_of_frames}
use Rattle.differences.proofs.TextBack.{text_back}

-- ---- which pairs are said
removed_pairs : (a : Frames) (n i : ℕ) → each (λ d. pair_in d) (removed_from a n i) ≡ []
unfolding removed_from each
removed_pairs a zero i = refl
removed_pairs a (suc n) i = removed_pairs a n (suc i)

added_pairs : (b : Frames) (n j : ℕ) → each (λ d. pair_in d) (added_from b n j) ≡ []
unfolding added_from each
added_pairs b zero j = refl
added_pairs b (suc n) j = added_pairs b n (suc j)

one_pair : (i j : ℕ) (x y : Frame) → pair_in (paired i j x y) ≡ record { first = i; second = j } ∷ []
one_pair i j x y = on (same x y)
  where
    on : (t : Bool) → pair_in (cond t (kept i j y) (changed i j x y)) ≡ record { first = i; second = j } ∷ []
    on true = refl
    on false = refl

said_pairs : (a b : Frames) (i j : ℕ) (ps : List Pair) → each (λ d. pair_in d) (between a b i j ps) ≡ ps
unfolding between
said_pairs a b i j [] =
    each_append (λ d. pair_in d) (removed_from a (length a - i) i) (added_from b (length b - j) j)
    ∙ rw (removed_pairs a (length a - i) i, added_pairs b (length b - j) j)
said_pairs a b i j (p ∷ ps) =
    let it : Change = paired p.first p.second (get_or a p.first []) (get_or b p.second []) in
    let rest : List Change = between a b (suc p.first) (suc p.second) ps in
    each_append (λ d. pair_in d) (removed_from a (p.first - i) i) (added_from b (p.second - j) j ++ (it ∷ rest))
    ∙ rw (removed_pairs a (p.first - i) i)
    (each_append (λ d. pair_in d) (added_from b (p.second - j) j) (it ∷ rest)
    ∙ rw (added_pairs b (p.second - j) j) (behind it rest (one_pair p.first p.second (get_or a p.first []) (get_or b p.second []))
    (said_pairs a b (suc p.first) (suc p.second) ps)))
  where
    behind : (d : Change) (ds : List Change) → pair_in d ≡ p ∷ [] → each (λ d. pair_in d) ds ≡ ps → each (λ d. pair_in d) (d ∷ ds) ≡ p ∷ ps
    behind d ds e f = unfold each in rw (e, f)

-- ---- removed ones come first
-- a pair or the end comes next
abbrev Paired : List Change → Type 0
Paired [] = Unit
Paired (kept i j f ∷ ds) = RemovedFirst ds
Paired (changed i j old new ∷ ds) = RemovedFirst ds
Paired (removed i f ∷ ds) = ⊥
Paired (added j f ∷ ds) = ⊥

added_first : (b : Frames) (n j : ℕ) (ds : List Change) → Paired ds → RemovedFirst (added_from b n j ++ ds)
unfolding added_from
added_first b zero j [] h = tt
added_first b zero j (kept i k f ∷ ds) h = h
added_first b zero j (changed i k x y ∷ ds) h = h
added_first b zero j (removed i f ∷ ds) h = absurd h
added_first b zero j (added i f ∷ ds) h = absurd h
added_first b (suc zero) j [] h = tt
added_first b (suc zero) j (kept i k f ∷ ds) h = h
added_first b (suc zero) j (changed i k x y ∷ ds) h = h
added_first b (suc zero) j (removed i f ∷ ds) h = absurd h
added_first b (suc zero) j (added i f ∷ ds) h = absurd h
added_first b (suc (suc n)) j ds h = added_first b (suc n) (suc j) ds h

removed_first : (a : Frames) (n i : ℕ) (ds : List Change) → RemovedFirst ds → RemovedFirst (removed_from a n i ++ ds)
unfolding removed_from
removed_first a zero i ds h = h
removed_first a (suc n) i ds h = removed_first a n (suc i) ds h

pair_next : (i j : ℕ) (x y : Frame) (ds : List Change) → RemovedFirst ds → Paired (paired i j x y ∷ ds)
pair_next i j x y ds h = on (same x y)
  where
    on : (t : Bool) → Paired (cond t (kept i j y) (changed i j x y) ∷ ds)
    on true = h
    on false = h

in_order : (a b : Frames) (i j : ℕ) (ps : List Pair) → RemovedFirst (between a b i j ps)
unfolding between
in_order a b i j [] =
    removed_first a (length a - i) i (added_from b (length b - j) j)
    (rw (append-nil (added_from b (length b - j) j)) at (added_first b (length b - j) j [] tt))
in_order a b i j (p ∷ ps) =
    let it : Change = paired p.first p.second (get_or a p.first []) (get_or b p.second []) in
    let rest : List Change = between a b (suc p.first) (suc p.second) ps in
    removed_first a (p.first - i) i (added_from b (p.second - j) j ++ (it ∷ rest))
    (added_first b (p.second - j) j (it ∷ rest) (pair_next p.first p.second (get_or a p.first []) (get_or b p.second []) rest
    (in_order a b (suc p.first) (suc p.second) ps)))

-- ---- changed where the frames differ
abbrev AllRight : List Change → Type 0
AllRight [] = Unit
AllRight (d ∷ ds) = ToldRight d × AllRight ds

right_append : (x y : List Change) → AllRight x → AllRight y → AllRight (x ++ y)
right_append [] y h k = k
right_append (d ∷ x) y h k = (h.0, right_append x y h.1 k)

removed_right : (a : Frames) (n i : ℕ) → AllRight (removed_from a n i)
unfolding removed_from
removed_right a zero i = tt
removed_right a (suc n) i = (tt, removed_right a n (suc i))

added_right : (b : Frames) (n j : ℕ) → AllRight (added_from b n j)
unfolding added_from
added_right b zero j = tt
added_right b (suc n) j = (tt, added_right b n (suc j))

pair_right : (i j : ℕ) (x y : Frame) → ToldRight (paired i j x y)
pair_right i j x y = on (same x y) refl
  where
    on : (t : Bool) → same x y ≡ t → ToldRight (cond t (kept i j y) (changed i j x y))
    on true e = tt
    on false e = λ q. true_false (sym (same_refl y) ∙ ap (λ (w : Frame). same w y) (sym q) ∙ e)

all_right : (a b : Frames) (i j : ℕ) (ps : List Pair) → AllRight (between a b i j ps)
unfolding between
all_right a b i j [] =
    right_append (removed_from a (length a - i) i) (added_from b (length b - j) j) (removed_right a (length a - i) i)
    (added_right b (length b - j) j)
all_right a b i j (p ∷ ps) =
    let it : Change = paired p.first p.second (get_or a p.first []) (get_or b p.second []) in
    let rest : List Change = between a b (suc p.first) (suc p.second) ps in
    let last : AllRight (it ∷ rest) = (
      pair_right p.first p.second (get_or a p.first []) (get_or b p.second []),
      all_right a b (suc p.first) (suc p.second) ps,
    ) in
    right_append (removed_from a (p.first - i) i) (added_from b (p.second - j) j ++ (it ∷ rest)) (removed_right a (p.first - i) i)
    (right_append (added_from b (p.second - j) j) (it ∷ rest) (added_right b (p.second - j) j) last)

right_at : (ds : List Change) → AllRight ds → (k : ℕ) (d : Change) → k < length ds → ToldRight (get_or ds k d)
right_at [] h k d l = absurd (omega arith)
right_at (x ∷ ds) h zero d l = h.0
right_at (x ∷ ds) h (suc k) d l = right_at ds h.1 k d (omega arith)

required : {A : Type 0} (b : Bool) (r : Refusal) (y : Judged A) (a : A) → require b r y ≡ ok a → (b ≡ true) × (y ≡ ok a)
unfolding require
required true r y a e = (refl, e)
required false r y a e = clash (cc)

-- ---- byte for byte
same_form_is : (v w : ListingForm) → same_form v w ≡ true → v ≡ w
same_form_is old_form old_form e = refl
same_form_is old_form new_form e = true_false (sym e)
same_form_is new_form old_form e = true_false (sym e)
same_form_is new_form new_form e = refl

leads_to : (first second : List ℕ) (ds : List Change) (p q : Program) → read_listing first ≡ ok p → read_second first second ≡ ok q
    → apply ds (frames_of first) ≡ some (frames_of second) → applied ds first ≡ some second
unfolding read_second bind
leads_to first second ds p q e f g =
    let h = required (same_form (form_in (lines_of first)) (form_in (lines_of second))) (Broken (at_place 0)) (read_listing second) q f in
    let w = same_form_is (form_in (lines_of first)) (form_in (lines_of second)) h.0 in
    ap (λ (o : Option Frames). bind o (λ fs. some (mark_of (form_in (lines_of first)) ++ each (λ f. line_of f) fs))) g
    ∙ ap some (ap (λ (v : ListingForm). mark_of v ++ each (λ f. line_of f) (frames_of second)) w ∙ sym (text_of_frames second q h.1))

second_read : (first second : List ℕ) (q : Program) → read_second first second ≡ ok q → read_listing second ≡ ok q
unfolding read_second
second_read first second q f = (required (same_form (form_in (lines_of first)) (form_in (lines_of second))) (Broken (at_place 0))
    (read_listing second) q f).1

-- ---- the whole
after_text : {A : Type 0} (told : Refusal → Differing) (x : Judged A) (f : A → Differing) (t : List ℕ)
    → ((r : Refusal) → told r ≡ text t → ⊥) → after told x f ≡ text t → (a : A) × (x ≡ ok a) × (f a ≡ text t)
after_text told (ok a) f t h e = (a, refl, e)
after_text told (no r) f t h e = absurd (h r e)

pub exact : (first second : List ℕ) (pairing : Option (List ℕ)) (room : ℕ) (t : List ℕ) → differences first second pairing room ≡ text t
    → Exact first second t (pairs_of (frames_of first) (frames_of second) pairing)
unfolding differences compared changes_of
exact first second pairing room t e =
    let a : Frames = frames_of first in
    let b : Frames = frames_of second in
    let ps : List Pair = pairs_of a b pairing in
    let good : ℕ = good_entries (length a) (length b) (entries_in pairing) in
    let p = after_text of_first (read_listing first) _ t (λ r z. clash (cc z)) e in
    let q = after_text of_second (read_second first second) _ t (λ r z. clash (cc z)) p.2 in
    let c = after_text of_both (compared a b pairing (length p.0) room) text t (λ r z. clash (cc z)) q.2 in
    let g = required (eqb good (length (entries_in pairing))) (Pairing good) _ c.0 c.1 in
    let h = required (leb (length (text_of (changes_of a b ps))) room) (Room (length p.0)) (ok (text_of (changes_of a b ps))) c.0
    g.1 in
    let order = pairs_order a b pairing (eqb-true good (length (entries_in pairing)) g.0) in
    let both = says_both a b ps order in
    let says : t ≡ text_of (changes_of a b ps) = cc (c.2, h.1) in
    let back : changes_in t ≡ changes_of a b ps =
    ap changes_in says ∙ text_back first second p.0 q.0 p.1 (second_read first second q.0 q.1) (changes_of a b ps) both in
    record {
      changes = changes_of a b ps;
      says = says;
      back = back;
      leads = ap (λ (ds : List Change). applied ds first) back
          ∙ leads_to first second (changes_of a b ps) p.0 q.0 p.1 q.1 (gives_second a b ps order);
      both = both;
      pairs = said_pairs a b 0 0 ps;
      order = in_order a b 0 0 ps;
      right = right_at (changes_of a b ps) (all_right a b 0 0 ps);
    }
