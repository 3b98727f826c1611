-- Document 02, C-13: what is shown of the differences.
use Rattle.std.specs.Prelude.{◌≡◌, List, [], ◌∷◌, ◌++◌, ◌⊎◌, true, false, ℕ, zero, suc, ◌≤◌, ◌<◌, length, get_or}
use Rattle.std.proofs.Math.Option.{Option, some}
use Rattle.laws.specs.Lists.{each}
use Rattle.laws.specs.Options.{bind}
use Rattle.rules.specs.declared.Refusal.TheVariants.{Broken, Room, Pairing}
use Rattle.rules.specs.Answers.{at_place, ok, no}
use Rattle.rules.specs.Programs.{Placeℕ, Program}
use Rattle.rules.specs.Listing.{lines_of, form_in, read_listing}
use Rattle.rules.specs.Output.{line_of, mark_of}
use Rattle.pairing.specs.Pairings.{Frame, Frames, Pair, frames_of, good_entries, entries_in, pairs_of, default_pairs}
use Rattle.differences.specs.Changes.{Change, kept, removed, added, changed, changes_of, apply, text_of, changes_in}
use Rattle.differences.specs.Differences.{Differing, text, of_first, of_second, of_both, same_form, differences}

-- "Applying the differences to the first gives exactly the second"
abbrev pub GivesSecond : Frames → Frames → List Pair → Type 0
GivesSecond a b ps = apply (changes_of a b ps) a ≡ some b

-- byte for byte: the listing of these frames in the first listing's form
abbrev pub applied : List Change → (first : List ℕ) → Option (List ℕ)
applied ds first = bind (apply ds (frames_of first)) (λ fs. some (mark_of (form_in (lines_of first)) ++ each (λ f. line_of f) fs))

-- "each statement .. with its places and frames. Order is kept": what the differences say of each listing is its statements, each once
-- and in order
pub record Entry : Type 0 where
  pub place : Placeℕ
  pub frame : Frame

abbrev pub in_first : Change → List Entry
in_first (kept i j f) = record { place = i; frame = f } ∷ []
in_first (removed i f) = record { place = i; frame = f } ∷ []
in_first (added j f) = []
in_first (changed i j old new) = record { place = i; frame = old } ∷ []

abbrev pub in_second : Change → List Entry
in_second (kept i j f) = record { place = j; frame = f } ∷ []
in_second (removed i f) = []
in_second (added j f) = record { place = j; frame = f } ∷ []
in_second (changed i j old new) = record { place = j; frame = new } ∷ []

-- n statements from place i on
unfoldable pub entries_from : (a : Frames) (n : ℕ) (i : Placeℕ) → List Entry
entries_from a zero i = []
entries_from a (suc n) i = record { place = i; frame = get_or a i [] } ∷ entries_from a n (suc i)

pub record SaysBoth (a b : Frames) (ds : List Change) : Type 0 where
  pub first : each (λ d. in_first d) ds ≡ entries_from a (length a) 0
  pub second : each (λ d. in_second d) ds ≡ entries_from b (length b) 0

-- which pairs it says, kept or changed; they are those of the pairing, in its order
abbrev pub pair_in : Change → List Pair
pair_in (kept i j f) = record { first = i; second = j } ∷ []
pair_in (removed i f) = []
pair_in (added j f) = []
pair_in (changed i j old new) = record { first = i; second = j } ∷ []

-- "between pairs, removed ones come before added ones": behind an added one no removed one comes before the next pair
abbrev pub RemovedFirst : List Change → Type 0
RemovedFirst [] = Unit
RemovedFirst (kept i j f ∷ ds) = RemovedFirst ds
RemovedFirst (changed i j old new ∷ ds) = RemovedFirst ds
RemovedFirst (removed i f ∷ ds) = RemovedFirst ds
RemovedFirst (added j f ∷ []) = Unit
RemovedFirst (added j f ∷ removed i g ∷ ds) = ⊥
RemovedFirst (added j f ∷ added k g ∷ ds) = RemovedFirst (added k g ∷ ds)
RemovedFirst (added j f ∷ kept i k g ∷ ds) = RemovedFirst ds
RemovedFirst (added j f ∷ changed i k old new ∷ ds) = RemovedFirst ds

-- "paired unequal frames are \"changed\"", equal ones kept
abbrev pub ToldRight : Change → Type 0
ToldRight (kept i j f) = Unit
ToldRight (removed i f) = Unit
ToldRight (added j f) = Unit
ToldRight (changed i j old new) = old ≡ new → ⊥

-- of a whole run under the pairs ps: what the text says, which can be read from its bytes alone, and that it leads from the first listing exactly to the
-- second
pub record Exact (first second text : List ℕ) (ps : List Pair) : Type 0 where
  pub changes : List Change
  pub says : text ≡ text_of changes
  pub back : changes_in text ≡ changes
  pub leads : applied (changes_in text) first ≡ some second
  pub both : SaysBoth (frames_of first) (frames_of second) changes
  pub pairs : each (λ d. pair_in d) changes ≡ ps
  pub order : RemovedFirst changes
  pub right : (k : ℕ) (d : Change) → k < length changes → ToldRight (get_or changes k d)

-- "two equal listings, with no pairing given, are all kept": n of them from place i on
unfoldable pub all_kept : (a : Frames) (n : ℕ) (i : Placeℕ) → List Change
all_kept a zero i = []
all_kept a (suc n) i = kept i i (get_or a i []) ∷ all_kept a n (suc i)

abbrev pub AllKept : Frames → Type 0
AllKept a = changes_of a a (default_pairs a a) ≡ all_kept a (length a) 0

-- ---- "Refusals: 1 and 2, first listing first; then 13 for a pairing out of order, repeated or beyond a listing; then 12"

-- both listings are read, and have one form
pub record BothRead (first second : List ℕ) : Type 0 where
  pub program : Program
  pub reads : read_listing first ≡ ok program
  pub program' : Program
  pub reads' : read_listing second ≡ ok program'
  pub one_form : same_form (form_in (lines_of first)) (form_in (lines_of second)) ≡ true

-- how many entries are good, and how many there are
abbrev pub good_in : (first second : List ℕ) (pairing : Option (List ℕ)) → ℕ
good_in first second pairing = good_entries (length (frames_of first)) (length (frames_of second)) (entries_in pairing)

abbrev pub whole_text : (first second : List ℕ) (pairing : Option (List ℕ)) → List ℕ
whole_text first second pairing = text_of (changes_of (frames_of first) (frames_of second) (pairs_of (frames_of first) (frames_of second) pairing))

-- what stands behind each answer, in the order in which it is asked
abbrev pub Cause : (first second : List ℕ) (pairing : Option (List ℕ)) (room : ℕ) → Differing → Type 0
Cause first second pairing room (text t) =
    BothRead first second × (good_in first second pairing ≡ length (entries_in pairing)) × (t ≡ whole_text first second pairing) × (length t ≤ room)
Cause first second pairing room (of_first r) = read_listing first ≡ no r
Cause first second pairing room (of_second r) =
    ((p : Program) × (read_listing first ≡ ok p))
    × (((same_form (form_in (lines_of first)) (form_in (lines_of second)) ≡ false) × (r ≡ Broken (at_place 0)))
    ⊎ ((same_form (form_in (lines_of first)) (form_in (lines_of second)) ≡ true) × (read_listing second ≡ no r)))
Cause first second pairing room (of_both r) =
    (b : BothRead first second)
    × (((good_in first second pairing < length (entries_in pairing)) × (r ≡ Pairing (good_in first second pairing)))
    ⊎ ((good_in first second pairing ≡ length (entries_in pairing))
    × (r ≡ Room (length b.program)) × (room < length (whole_text first second pairing))))

abbrev pub Causes : (first second : List ℕ) (pairing : Option (List ℕ)) (room : ℕ) → Type 0
Causes first second pairing room = Cause first second pairing room (differences first second pairing room)

-- twice 57,344 characters, and seven more for each of twice 1,024 statements
abbrev pub NeverShort : (first second : List ℕ) (pairing : Option (List ℕ)) (room : ℕ) → Type 0
NeverShort first second pairing room = 129024 ≤ room → (n : ℕ) → differences first second pairing room ≡ of_both (Room n) → ⊥

-- 13's index is one of the second listing's places, or the place behind the last
abbrev pub IndexFits : (first second : List ℕ) (pairing : Option (List ℕ)) (room : ℕ) → Type 0
IndexFits first second pairing room = (k : ℕ) → differences first second pairing room ≡ of_both (Pairing k) → k ≤ 1024
